-- What rising keys say of the rows of a world.
use Rattle.std.proofs.Common.{◌≡◌, ◌≢◌, ◌<◌, ◌≤◌, ◌∙◌, ℕ, zero, suc, List, [], ◌∷◌, ◌++◌, ◌-◌, length, get_or, refl, sym, ap, arith, ◌==◌, eq-eqb}
use Rattle.std.specs.Prelude.{All, filter}
use Rattle.std.proofs.lemmas.Bool.{ne_eqb}
use Rattle.std.proofs.lemmas.List.{get_or_default}
use Rattle.std.proofs.lemmas.List.Elements.{All-head, All-tail}
use Rattle.sgl_values.specs.World.{Row, KeysRise, KeysUpTo}

-- each key is above the one that they rise from
pub key_above : (rows : List Row) (last : ℕ) → KeysRise last rows → (i : ℕ) (d : Row) → i < length rows → last < (get_or rows i d).key
key_above [] last rise i d inside = absurd (omega arith)
key_above (row ∷ rows) last rise zero d inside = rise.0
key_above (row ∷ rows) last rise (suc i) d inside =
    let later : row.key < (get_or rows i d).key = key_above rows row.key rise.1 i d (omega arith) in
    omega (arith, later, rise.0)

-- a later row has a greater key
pub keys_rise : (rows : List Row) (last : ℕ) → KeysRise last rows → (i j : ℕ) (d : Row) → i < j → j < length rows → (get_or rows i d).key < (get_or rows j d).key
keys_rise [] last rise i j d before inside = absurd (omega arith)
keys_rise (row ∷ rows) last rise i zero d before inside = absurd (omega arith)
keys_rise (row ∷ rows) last rise zero (suc j) d before inside = key_above rows row.key rise.1 j d (omega arith)
keys_rise (row ∷ rows) last rise (suc i) (suc j) d before inside = keys_rise rows row.key rise.1 i j d (omega arith) (omega arith)

-- two rows with one key are one row
pub same_row : (rows : List Row) (last : ℕ) → KeysRise last rows → (i j : ℕ) (d : Row) → i < length rows → j < length rows → (get_or rows i d).key ≡ (get_or rows j d).key → i ≡ j
same_row rows last rise i j d first second same =
    let below = keys_rise rows last rise i j d in
    let above = keys_rise rows last rise j i d in
    grind (arith, below, above)

-- no row has the key: none is picked by it
pub filter-no_row : (rows : List Row) (key : ℕ) → All (λ row. row.key ≢ key) rows → filter (λ row. row.key == key) rows ≡ []
filter-no_row [] key none = refl
filter-no_row (row ∷ rows) key none =
    rw (ne_eqb row.key key (All-head (λ r. r.key ≢ key) row rows none)) (filter-no_row rows key (All-tail (λ r. r.key ≢ key) row rows none))

-- a row has the key: it alone is picked by it
pub filter-one_row : (rows : List Row) (last : ℕ) → KeysRise last rows → (i key : ℕ) (d : Row) → i < length rows → (get_or rows i d).key ≡ key → filter (λ row. row.key == key) rows ≡ get_or rows i d ∷ []
filter-one_row [] last rise i key d inside same = absurd (omega arith)
filter-one_row (row ∷ rows) last rise zero key d inside same =
    let others : All (λ r. r.key ≢ key) rows = λ k e within.
    let later : row.key < (get_or rows k e).key = key_above rows row.key rise.1 k e within in
    omega (arith, later, same) in
    rw (eq-eqb row.key key same) (ap (λ later. row ∷ later) (filter-no_row rows key others))
filter-one_row (row ∷ rows) last rise (suc i) key d inside same =
    let later : row.key < (get_or rows i d).key = key_above rows row.key rise.1 i d (omega arith) in
    let other : row.key ≢ key = omega (arith, later, same) in
    rw (ne_eqb row.key key other) (filter-one_row rows row.key rise.1 i key d (omega arith) same)

-- the last row stays the last where one is put before the first
same_last : (first next d e : Row) (rows : List Row) → get_or (next ∷ rows) (length (next ∷ rows) - 1) e ≡ get_or (first ∷ next ∷ rows) (length (first ∷ next ∷ rows) - 1) d
same_last first next d e rows =
    let left : length (next ∷ rows) - 1 ≡ length rows = omega arith in
    let right : length (first ∷ next ∷ rows) - 1 ≡ suc (length rows) = omega arith in
    ap (λ n. get_or (next ∷ rows) n e) left
    ∙ get_or_default (next ∷ rows) (length rows) e d (omega arith)
    ∙ sym (ap (λ n. get_or (first ∷ next ∷ rows) n d) right)

-- a row behind the others, with a key above that of the last
pub KeysRise-push : (rows : List Row) (last : ℕ) (row d : Row) → KeysRise last rows → d.key ≡ last → (get_or rows (length rows - 1) d).key < row.key
    → KeysRise last (rows ++ row ∷ [])
KeysRise-push [] last row d rise same above = (rw (← same) above, tt)
KeysRise-push (first ∷ []) last row d rise same above = (rise.0, (above, tt))
KeysRise-push (first ∷ next ∷ rows) last row d rise same above =
    (rise.0, KeysRise-push (next ∷ rows) first.key row first rise.1 refl (rw (same_last first next d first rows) above))

-- keys that rise from a key rise from a lesser one
pub KeysRise-lower : (low high : ℕ) (rows : List Row) → low ≤ high → KeysRise high rows → KeysRise low rows
KeysRise-lower low high [] under rise = tt
KeysRise-lower low high (row ∷ rows) under rise = (omega (arith, under, rise.0), rise.1)

-- rows behind the others, with keys above the last one
pub KeysRise-append : (rows more : List Row) (low last : ℕ) → low ≤ last → KeysRise low rows → KeysUpTo last rows → KeysRise last more → KeysRise low (rows ++ more)
KeysRise-append [] more low last under rise up_to later = KeysRise-lower low last more under later
KeysRise-append (row ∷ rows) more low last under rise up_to later = (
  rise.0,
  KeysRise-append rows more row.key last (All-head (λ r. r.key ≤ last) row rows up_to) rise.1 (All-tail (λ r. r.key ≤ last) row rows up_to) later,
)
