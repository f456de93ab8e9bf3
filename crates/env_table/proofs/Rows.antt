-- The rows that flat arrays hold.
use Rattle.std.proofs.Common.{◌≡◌, ◌≢◌, ◌+◌, ◌-◌, ◌*◌, ◌<◌, ◌≤◌, ◌∙◌, ℕ, zero, suc, ℤ, List, [], ◌∷◌, ◌++◌, length, take, drop, get_or, refl, sym, ap, arith, drop-drop, length-drop, length-append}
use Rattle.std.proofs.Math.Nat.{suc-mul}
use Rattle.std.specs.Prelude.{All, unsigned_abs, ◌^◌}
use Rattle.std.proofs.lemmas.List.{take-append-le, drop-append-le, take_all, nil_from_length, get_or-drop, get_or-take, get_or_default}
use Rattle.std.proofs.lemmas.List.Elements.{All-append, All-get_or, All-push, All-weaker}
use Rattle.sgl_values.specs.World.{Row, World, KeysRise, KeysUpTo, IsRow, IsWorld}
use Rattle.env_table.specs.Arrays.{rows_of}
use Rattle.env_table.proofs.Keys.{KeysRise-append, KeysRise-push, keys_rise}

pub length-rows_of : (keys : List ℕ) (width : ℕ) (values : List ℤ) → length (rows_of keys width values) ≡ length keys
length-rows_of [] width values = refl
length-rows_of (key ∷ keys) width values = ap suc (length-rows_of keys width (drop width values))

-- the key of a row, also past the last
pub key-rows_of : (keys : List ℕ) (width : ℕ) (values : List ℤ) (i : ℕ) (d : Row) → (get_or (rows_of keys width values) i d).key ≡ get_or keys i d.key
key-rows_of [] width values i d = refl
key-rows_of (key ∷ keys) width values zero d = refl
key-rows_of (key ∷ keys) width values (suc i) d = key-rows_of keys width (drop width values) i d

-- the values behind the first row
full_rest : (count width : ℕ) (values : List ℤ) → length values ≡ suc count * width → length (drop width values) ≡ count * width
full_rest count width values full = omega (arith, length-drop width values, full, suc-mul count width)

full_first : (count width : ℕ) (values : List ℤ) → length values ≡ suc count * width → width ≤ length values
full_first count width values full = omega (arith, full, suc-mul count width)

place_first : (width attr : ℕ) → 0 * width + attr ≡ attr
place_first width attr = omega arith

place_later : (i width attr : ℕ) → width + (i * width + attr) ≡ suc i * width + attr
place_later i width attr = omega (arith, suc-mul i width)

-- an attribute of a row
pub value-rows_of : (keys : List ℕ) (width : ℕ) (values : List ℤ) (i : ℕ) (d : Row) (attr : ℕ) (e : ℤ) → i < length keys → attr < width
    → get_or (get_or (rows_of keys width values) i d).values attr e ≡ get_or values (i * width + attr) e
value-rows_of [] width values i d attr e inside narrow = absurd (omega arith)
value-rows_of (key ∷ keys) width values zero d attr e inside narrow = get_or-take width values attr e narrow ∙ ap (λ n. get_or values n e) (sym (place_first width attr))
value-rows_of (key ∷ keys) width values (suc i) d attr e inside narrow =
    value-rows_of keys width (drop width values) i d attr e (omega arith) narrow
    ∙ get_or-drop width values (i * width + attr) e
    ∙ ap (λ n. get_or values n e) (place_later i width attr)

-- the values of a row stand one behind the other
pub row_ends : (count width i : ℕ) → i < count → i * width + width ≤ count * width
row_ends zero width i inside = absurd (omega (arith, inside))
row_ends (suc count) width zero inside = omega (arith, suc-mul count width)
row_ends (suc count) width (suc i) inside = omega (arith, suc-mul count width, suc-mul i width, row_ends count width i (omega (arith, inside)))

pub values-rows_of : (keys : List ℕ) (width : ℕ) (values : List ℤ) (i : ℕ) (d : Row) → i < length keys
    → (get_or (rows_of keys width values) i d).values ≡ take width (drop (i * width) values)
values-rows_of [] width values i d inside = absurd (omega arith)
values-rows_of (key ∷ keys) width values zero d inside =
    let none : 0 ≡ 0 * width = omega arith in
    ap (λ n. take width (drop n values)) none
values-rows_of (key ∷ keys) width values (suc i) d inside =
    let later : width + i * width ≡ suc i * width = omega (arith, suc-mul i width) in
    values-rows_of keys width (drop width values) i d (omega arith)
    ∙ ap (take width) (drop-drop (i * width) width values)
    ∙ ap (λ n. take width (drop n values)) later

pub part_of : (first width : ℕ) (values others : List ℤ) → values ≡ others → take (first + width - first) (drop first values) ≡ take width (drop first others)
part_of first width values others same =
    let size : first + width - first ≡ width = omega arith in
    ap (λ n. take n (drop first values)) size ∙ ap (λ vs. take width (drop first vs)) same

-- one more row, behind the others
pub rows_of-push : (keys : List ℕ) (width : ℕ) (values : List ℤ) (key : ℕ) (vals : List ℤ) → length values ≡ length keys * width → length vals ≡ width
    → rows_of (keys ++ key ∷ []) width (values ++ vals) ≡ rows_of keys width values ++ record { key = key; values = vals } ∷ []
rows_of-push [] width values key vals full same =
    let none : values ≡ [] = nil_from_length values (omega (arith, full)) in
    rw none (ap (λ vs. record { key = key; values = vs } ∷ []) (take_all width vals (omega arith)))
rows_of-push (first ∷ keys) width values key vals full same =
    let fits = full_first (length keys) width values full in
    let rest = full_rest (length keys) width values full in
    rw (take-append-le width values vals fits, drop-append-le width values vals fits)
    (ap (λ rows. record { key = first; values = take width values } ∷ rows) (rows_of-push keys width (drop width values) key vals rest same))

-- more rows, behind the others
pub rows_of-append : (keys more : List ℕ) (width : ℕ) (values others : List ℤ) → length values ≡ length keys * width
    → rows_of (keys ++ more) width (values ++ others) ≡ rows_of keys width values ++ rows_of more width others
rows_of-append [] more width values others full =
    let none : values ≡ [] = nil_from_length values (omega (arith, full)) in
    ap (λ vs. rows_of more width (vs ++ others)) none
rows_of-append (first ∷ keys) more width values others full =
    let fits = full_first (length keys) width values full in
    let rest = full_rest (length keys) width values full in
    rw (take-append-le width values others fits, drop-append-le width values others fits)
    (ap (λ rows. record { key = first; values = take width values } ∷ rows) (rows_of-append keys more width (drop width values) others rest))

-- no key is below an earlier one
pub keys_ascend : (keys : List ℕ) (width : ℕ) (values : List ℤ) (last : ℕ) → KeysRise last (rows_of keys width values)
    → (i j : ℕ) → i ≤ j → j < length keys → get_or keys i 0 ≤ get_or keys j 0
keys_ascend keys width values last rise i j ordered inside =
    let none : Row = record { key = 0; values = [] } in
    let rows = rows_of keys width values in
    let first = key-rows_of keys width values i none in
    let second = key-rows_of keys width values j none in
    let before = keys_rise rows last rise i j none in
    let count = length-rows_of keys width values in
    grind (arith, before, first, second, count)

-- a key that is not among the keys is the key of no row
pub none_has_key : (keys : List ℕ) (width : ℕ) (values : List ℤ) (key : ℕ) → ((i : ℕ) → i < length keys → get_or keys i 0 ≢ key)
    → All (λ row. row.key ≢ key) (rows_of keys width values)
none_has_key keys width values key missing = λ k d inside same.
    let within : k < length keys = omega (arith, inside, length-rows_of keys width values) in
    missing k within (get_or_default keys k 0 d.key within ∙ sym (key-rows_of keys width values k d) ∙ same)

-- the last of these rows has no key from here on
last_below : (rows : List Row) (last key : ℕ) (d : Row) → d.key ≡ 0 → KeysUpTo last rows → last < key → (get_or rows (length rows - 1) d).key < key
last_below [] last key d none up_to above = omega (arith, none)
last_below (row ∷ rows) last key d none up_to above =
    let below = All-get_or (λ r. r.key ≤ last) (row ∷ rows) (length (row ∷ rows) - 1) d (omega arith) up_to in
    omega (arith, below)

-- no key is above this one where none is above a lesser one
pub up_to_more : (low high : ℕ) (rows : List Row) → low ≤ high → KeysUpTo low rows → KeysUpTo high rows
up_to_more low high rows le all = All-weaker (λ row. row.key ≤ low) (λ row. row.key ≤ high) (λ row below. omega (arith, le, below)) rows all

-- the table of the arrays with one more row
pub IsWorld-push : (tick width last : ℕ) (keys : List ℕ) (values : List ℤ) (key : ℕ) (vals : List ℤ)
    → length values ≡ length keys * width → length vals ≡ width → length keys < 65536 → key < 2 ^ 32 → All (λ z. unsigned_abs z ≤ 1000000000000) vals
    → last < key → IsWorld width record { tick = tick; last_key = last; rows = rows_of keys width values }
    → IsWorld width record { tick = tick; last_key = key; rows = rows_of (keys ++ key ∷ []) width (values ++ vals) }
IsWorld-push tick width last keys values key vals full same few fits ranges above world =
    let count = length-rows_of keys width values in
    let row : Row = record { key = key; values = vals } in
    let none : Row = record { key = 0; values = [] } in
    let rows = rows_of keys width values in
    let behind : (get_or rows (length rows - 1) none).key < key = last_below rows last key none refl world.up_to above in
    rw (rows_of-push keys width values key vals full same) (record {
      tick_fits = world.tick_fits;
      last_fits = fits;
      few = omega (arith, count, length-append rows (row ∷ []));
      rising = KeysRise-push rows 0 row none world.rising refl behind;
      up_to = All-push (λ r. r.key ≤ key) rows row (up_to_more last key rows (omega arith) world.up_to) (omega arith);
      rows_fit = All-push (IsRow width) rows row world.rows_fit record { key_fits = fits; full = same; in_range = ranges };
    })

-- the world with the rows of another one behind its own, and with the last key of that
pub IsWorld-append : (width : ℕ) (world more : World) → length world.rows + length more.rows ≤ 65536 → KeysRise world.last_key more.rows → world.last_key ≤ more.last_key
    → IsWorld width world → IsWorld width more → IsWorld width record { tick = world.tick; last_key = more.last_key; rows = world.rows ++ more.rows }
IsWorld-append width world more few rising below is others = record {
  tick_fits = is.tick_fits;
  last_fits = others.last_fits;
  few = omega (arith, few, length-append world.rows more.rows);
  rising = KeysRise-append world.rows more.rows 0 world.last_key (omega arith) is.rising is.up_to rising;
  up_to = All-append (λ r. r.key ≤ more.last_key) world.rows more.rows (up_to_more world.last_key more.last_key world.rows below is.up_to) others.up_to;
  rows_fit = All-append (IsRow width) world.rows more.rows is.rows_fit others.rows_fit;
}

-- the world with a last key that is not lesser
pub IsWorld-last : (width high : ℕ) (world : World) → world.last_key ≤ high → high < 2 ^ 32 → IsWorld width world
    → IsWorld width record { tick = world.tick; last_key = high; rows = world.rows }
IsWorld-last width high world le fits is = record {
  tick_fits = is.tick_fits;
  last_fits = fits;
  few = is.few;
  rising = is.rising;
  up_to = up_to_more world.last_key high world.rows le is.up_to;
  rows_fit = is.rows_fit;
}

-- where the keys below a place are lesser than a key and the others greater, none is that key
pub none_is : (keys : List ℕ) (key place : ℕ) → ((i : ℕ) → i < place → get_or keys i 0 < key) → ((i : ℕ) → place ≤ i → i < length keys → key < get_or keys i 0)
    → (i : ℕ) → i < length keys → get_or keys i 0 ≢ key
none_is keys key place lesser greater i inside same =
    let first = lesser i in
    let later = greater i in
    grind (arith, first, later)
