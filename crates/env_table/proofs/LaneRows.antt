-- What a run of lanes makes of the arrays.
use Rattle.std.proofs.Common.{◌≡◌, ◌+◌, ◌-◌, ◌*◌, ◌<◌, ◌≤◌, ◌^◌, ◌==◌, ◌∙◌, true, false, ℕ, zero, suc, ℤ, pos, List, [], ◌∷◌, ◌++◌, length, get_or, take, drop, refl, sym, subst, ap, arith, append_assoc, length-append, length-drop}
use Rattle.std.proofs.Math.Nat.{add-mul, mul-le-mul_right, suc-mul}
use Rattle.std.proofs.Math.Seq.{take-add, take-suc}
use Rattle.std.proofs.lemmas.List.{append-nil, get_or-drop, get_or-map, get_or-take, length-map, length-take-le, same_lists, take_all}
use Rattle.std.proofs.lemmas.List.Elements.{All-drop, All-get_or, All-take}
use Rattle.std.specs.Int.{bit_at}
use Rattle.std.specs.Prelude.{All, unsigned_abs}
use Rattle.sgl_values.specs.World.{Row, World, row_at, IsRow, IsWorld}
use Rattle.env_table.specs.Arrays.{rows_of, table_of, AddsLanes, HasRoomFor, IsStored, NoLessRoom}
use Rattle.env_table.specs.Pushes.{CanPushLanes}
use Rattle.env_table.specs.Table.{numbers_in, with_lanes, with_row, with_row_if, with_run, Building, IsTable, Table}
use Rattle.env_table.specs.declared.arrays.Arrays.{Arrays}
use Rattle.env_table.proofs.Keys.{keys_rise}
use Rattle.env_table.proofs.Rows.{key-rows_of, length-rows_of, rows_of-push, IsWorld-push}

-- ---- what a run leaves

pub run_width : (b : Building) (world : World) (first : ℕ) (columns : List (List ℤ)) (lane count : ℕ) → (with_run b world first columns lane count).table.width ≡ b.table.width
run_width b world first columns lane zero = refl
run_width b world first columns lane (suc count) = run_width b world first columns lane count

pub run_tick : (b : Building) (world : World) (first : ℕ) (columns : List (List ℤ)) (lane count : ℕ) → (with_run b world first columns lane count).table.world.tick ≡ b.table.world.tick
run_tick b world first columns lane zero = refl
run_tick b world first columns lane (suc count) = run_tick b world first columns lane count

pub run_room : (b : Building) (world : World) (first : ℕ) (columns : List (List ℤ)) (lane count : ℕ) → (with_run b world first columns lane count).room ≡ b.room - count
run_room b world first columns lane zero = omega arith
run_room b world first columns lane (suc count) = omega (arith, run_room b world first columns lane count)

pub run_length : (b : Building) (world : World) (first : ℕ) (columns : List (List ℤ)) (lane count : ℕ)
    → length (with_run b world first columns lane count).table.world.rows ≡ length b.table.world.rows + count
run_length b world first columns lane zero = omega arith
run_length b world first columns lane (suc count) =
    let row : Row = record { key = (row_at world (first + (lane + count))).key; values = numbers_in columns (lane + count) } in
    omega (arith, run_length b world first columns lane count, length-append (with_run b world first columns lane count).table.world.rows (row ∷ []))

-- the keys of later lanes are above its last one
pub run_above : (b : Building) (world : World) (first : ℕ) (columns : List (List ℤ)) (lane end count wide : ℕ) → IsWorld wide world → first + end ≤ length world.rows
    → ((k : ℕ) → lane ≤ k → k < end → b.table.world.last_key < (row_at world (first + k)).key)
    → (k : ℕ) → lane + count ≤ k → k < end → (with_run b world first columns lane count).table.world.last_key < (row_at world (first + k)).key
run_above b world first columns lane end zero wide fits inside above k from below = above k (omega (arith, from)) below
run_above b world first columns lane end (suc count) wide fits inside above k from below =
    keys_rise world.rows 0 fits.rising (first + (lane + count)) (first + k) record { key = 0; values = [] } (omega (arith, from)) (omega (arith, below, inside))

-- ---- its rows in the arrays

-- the numbers of a lane stand one behind the other
lane_numbers : (values : List ℤ) (columns : List (List ℤ)) (from width lane : ℕ) → length columns ≡ width → from + width ≤ length values
    → ((i : ℕ) (d : ℤ) → i < width → get_or values (from + i) d ≡ get_or (get_or columns i []) lane (pos 0)) → take width (drop from values) ≡ numbers_in columns lane
lane_numbers values columns from width lane wide inside put =
    let here : length (take width (drop from values)) ≡ width = length-take-le width (drop from values) (omega (arith, length-drop from values, inside)) in
    let number : List ℤ → ℤ = λ column. get_or column lane (pos 0) in
    same_lists (take width (drop from values)) (numbers_in columns lane) (here ∙ sym wide ∙ sym (length-map columns number)) (λ i d lt.
    let narrow : i < width = omega (arith, lt, here) in
    get_or-take width (drop from values) i d narrow ∙ get_or-drop from values i d ∙ put i d narrow ∙ sym (get_or-map number columns i [] d (omega (arith, narrow, wide))))

-- the lanes so far
record IsRunTo (a n : Arrays) (b : Building) (world : World) (first : ℕ) (columns : List (List ℤ)) (keys : List ℕ) (lane count : ℕ) : Type 0 where
  rows : (with_run b world first columns lane count).table.world.rows ≡ rows_of (a.keys.items ++ take count keys) a.width (take (length a.values.items + count * a.width) n.values.items)
  fits : IsWorld a.width (with_run b world first columns lane count).table.world

-- what is known of a run in front of it
pub record IsRunFor (a n : Arrays) (world : World) (first : ℕ) (columns : List (List ℤ)) (keys : List ℕ) (lane : ℕ) : Type 0 where
  pub stored : IsStored a
  pub adds : AddsLanes a n keys lane columns
  pub other : ℕ
  pub fits : IsWorld other world
  pub wide : length columns ≡ a.width
  pub inside : first + (lane + length keys) ≤ length world.rows
  pub few : length a.keys.items + length keys ≤ 65536
  pub keys_are : (k : ℕ) → k < length keys → get_or keys k 0 ≡ (row_at world (first + (lane + k))).key
  pub above : (k : ℕ) → lane ≤ k → k < lane + length keys → a.last_key < (row_at world (first + k)).key

run_to : (a n : Arrays) (room : ℕ) (world : World) (first : ℕ) (columns : List (List ℤ)) (keys : List ℕ) (lane count : ℕ) → IsRunFor a n world first columns keys lane → count ≤ length keys
    → IsRunTo a n record { table = table_of a; room = room } world first columns keys lane count
run_to a n room world first columns keys lane zero is le =
    let kept : length (take (length a.values.items + 0 * a.width) n.values.items) ≡ length a.values.items =
    length-take-le (length a.values.items + 0 * a.width) n.values.items (omega (arith, is.adds.long)) ∙ omega arith in
    let values : take (length a.values.items + 0 * a.width) n.values.items ≡ a.values.items =
    same_lists (take (length a.values.items + 0 * a.width) n.values.items) a.values.items kept (λ k d lt.
    let below : k < length a.values.items = omega (arith, lt, kept) in
    get_or-take (length a.values.items + 0 * a.width) n.values.items k d (omega (arith, below)) ∙ is.adds.before k d below) in
    record {
      rows = sym (λ i. rows_of (append-nil a.keys.items i) a.width (values i));
      fits = is.stored.table.fits;
    }
run_to a n room world first columns keys lane (suc count) is le =
    let width = a.width in
    let b : Building = record { table = table_of a; room = room } in
    let so_far = with_run b world first columns lane count in
    let front = run_to a n room world first columns keys lane count is (omega (arith, le)) in
    let from = length a.values.items + count * width in
    let later = mul-le-mul_right {m = suc count} {n = length keys} width le in
    let inside : from + width ≤ length n.values.items = omega (arith, later, is.adds.long, suc-mul count width) in
    let ks = a.keys.items ++ take count keys in
    let vs = take from n.values.items in
    let key = get_or keys count 0 in
    let vals = take width (drop from n.values.items) in
    let key_is : key ≡ (row_at world (first + (lane + count))).key = is.keys_are count le in
    let vals_are : vals ≡ numbers_in columns (lane + count) =
    lane_numbers n.values.items columns from width (lane + count) is.wide inside (λ i d lt. ap (λ m. get_or n.values.items m d) (omega arith) ∙ is.adds.values count i d le lt) in
    let many : length ks ≡ length a.keys.items + count = length-append a.keys.items (take count keys) ∙ ap (λ m. length a.keys.items + m) (length-take-le count keys (omega (arith, le))) in
    let full : length vs ≡ length ks * width =
    length-take-le from n.values.items (omega (arith, inside)) ∙ omega (arith, is.stored.full, many, ap (λ m. m * width) many, add-mul (length a.keys.items) count width) in
    let each : length vals ≡ width = length-take-le width (drop from n.values.items) (omega (arith, inside, length-drop from n.values.items)) in
    let row : IsRow is.other (row_at world (first + (lane + count))) =
    All-get_or (IsRow is.other) world.rows (first + (lane + count)) record { key = 0; values = [] } (omega (arith, le, is.inside)) is.fits.rows_fit in
    let fits_key : key < 2 ^ 32 = rw key_is row.key_fits in
    let in_range : All (λ z. unsigned_abs z ≤ 1000000000000) vals = All-take (λ z. unsigned_abs z ≤ 1000000000000) width (drop from n.values.items) (All-drop (λ z. unsigned_abs z ≤ 1000000000000) from n.values.items is.adds.numbers) in
    let above : so_far.table.world.last_key < key =
    rw key_is (run_above b world first columns lane (lane + length keys) count is.other is.fits is.inside is.above (lane + count) (omega arith) (omega (arith, le))) in
    let pushed =
    IsWorld-push so_far.table.world.tick width so_far.table.world.last_key ks vs key vals full each (omega (arith, many, le, is.few)) fits_key in_range above
    (subst (λ (rows : List Row). IsWorld width record { tick = so_far.table.world.tick; last_key = so_far.table.world.last_key; rows = rows }) front.rows front.fits) in
    let same : rows_of (ks ++ key ∷ []) width (vs ++ vals) ≡ (with_run b world first columns lane (suc count)).table.world.rows =
    rows_of-push ks width vs key vals full each ∙ (λ i. sym front.rows i ++ record { key = key_is i; values = vals_are i } ∷ []) in
    let keys_more : ks ++ key ∷ [] ≡ a.keys.items ++ take (suc count) keys =
    append_assoc a.keys.items (take count keys) (key ∷ []) ∙ ap (λ more. a.keys.items ++ more) (sym (take-suc keys count 0 le)) in
    let values_more : vs ++ vals ≡ take (length a.values.items + suc count * width) n.values.items =
    sym (take-add from width n.values.items) ∙ ap (λ m. take m n.values.items) (omega (arith, suc-mul count width)) in
    record {
      rows = sym same ∙ (λ i. rows_of (keys_more i) width (values_more i));
      fits = subst (λ (w : World). IsWorld width w) (λ i. record { tick = so_far.table.world.tick; last_key = key_is i; rows = same i }) pushed;
    }

-- ---- the whole run

run_last : (b : Building) (world : World) (first : ℕ) (columns : List (List ℤ)) (lane count : ℕ) → 0 < count
    → (with_run b world first columns lane count).table.world.last_key ≡ (row_at world (first + (lane + (count - 1)))).key
run_last b world first columns lane zero some = absurd (omega (arith, some))
run_last b world first columns lane (suc count) some = ap (λ k. (row_at world (first + (lane + k))).key) (omega arith)

-- the table of the arrays behind it
pub table_of-run : (a n : Arrays) (room : ℕ) (world : World) (first : ℕ) (columns : List (List ℤ)) (keys : List ℕ) (lane : ℕ) → IsRunFor a n world first columns keys lane → 0 < length keys
    → table_of n ≡ (with_run record { table = table_of a; room = room } world first columns lane (length keys)).table
table_of-run a n room world first columns keys lane is some =
    let b : Building = record { table = table_of a; room = room } in
    let count = length keys in
    let all = run_to a n room world first columns keys lane count is (omega arith) in
    let keys_all : n.keys.items ≡ a.keys.items ++ take count keys = is.adds.keys ∙ ap (λ more. a.keys.items ++ more) (sym (take_all count keys (omega arith))) in
    let values_all : n.values.items ≡ take (length a.values.items + count * a.width) n.values.items =
    sym (take_all (length a.values.items + count * a.width) n.values.items (omega (arith, is.adds.long))) in
    let rows : rows_of n.keys.items n.width n.values.items ≡ (with_run b world first columns lane count).table.world.rows =
    (λ i. rows_of (keys_all i) (is.adds.width i) (values_all i)) ∙ sym all.rows in
    let last : n.last_key ≡ (with_run b world first columns lane count).table.world.last_key =
    is.adds.last_key ∙ is.keys_are (count - 1) (omega (arith, some)) ∙ sym (run_last b world first columns lane count some) in
    let width = is.adds.width ∙ sym (run_width b world first columns lane count) in
    let tick = is.adds.tick ∙ sym (run_tick b world first columns lane count) in
    λ i. record { width = width i; world = record { tick = tick i; last_key = last i; rows = rows i } }

pub stored_run : (a n : Arrays) (world : World) (first : ℕ) (columns : List (List ℤ)) (keys : List ℕ) (lane : ℕ) → IsRunFor a n world first columns keys lane → 0 < length keys → IsStored n
stored_run a n world first columns keys lane is some =
    let b : Building = record { table = table_of a; room = 0 } in
    let all = run_to a n 0 world first columns keys lane (length keys) is (omega arith) in
    let width = run_width b world first columns lane (length keys) in
    record {
      few = rw is.adds.keys (omega (arith, is.few, length-append a.keys.items keys));
      full = rw (is.adds.keys, is.adds.width, length-append a.keys.items keys) (omega (arith, is.adds.long, is.stored.full, add-mul (length a.keys.items) (length keys) a.width));
      table = subst IsTable (sym (table_of-run a n 0 world first columns keys lane is some)) record {
        narrow = rw width is.stored.table.narrow;
        fits = subst (λ w. IsWorld w (with_run b world first columns lane (length keys)).table.world) (sym width) all.fits;
      };
    }

pub run_count : (m : Arrays) (first lane end : ℕ) (keys : List ℕ) → first + end ≤ length m.keys.items → keys ≡ take (end - lane) (drop (first + lane) m.keys.items) → length keys ≡ end - lane
run_count m first lane end keys inside are =
    ap length are ∙ length-take-le (end - lane) (drop (first + lane) m.keys.items) (omega (arith, inside, length-drop (first + lane) m.keys.items))

-- what is known of the lanes from one to before the end
pub run_for : (a n m : Arrays) (room first lane end : ℕ) (columns : List (List ℤ)) (keys : List ℕ) → IsStored a → IsStored m → lane < end
    → CanPushLanes record { table = table_of a; room = room } (table_of m) first lane end (length columns) → keys ≡ take (end - lane) (drop (first + lane) m.keys.items) → AddsLanes a n keys lane columns
    → IsRunFor a n (table_of m).world first columns keys lane
run_for a n m room first lane end columns keys stored others some can are adds =
    let rows = length-rows_of a.keys.items a.width a.values.items in
    let more = length-rows_of m.keys.items m.width m.values.items in
    let inside = can.inside in
    let few = can.few in
    let count : length keys ≡ end - lane = run_count m first lane end keys (omega (arith, inside, more)) are in
    record {
      stored = stored;
      adds = adds;
      other = m.width;
      fits = others.table.fits;
      wide = sym can.wide;
      inside = omega (arith, inside, count, some);
      few = omega (arith, few, rows, count, some);
      keys_are = λ k lt.
          let below : k < end - lane = omega (arith, lt, count) in
          ap (λ ks. get_or ks k 0) are
          ∙ get_or-take (end - lane) (drop (first + lane) m.keys.items) k 0 below
          ∙ get_or-drop (first + lane) m.keys.items k 0
          ∙ ap (λ i. get_or m.keys.items i 0) (omega arith)
          ∙ sym (key-rows_of m.keys.items m.width m.values.items (first + (lane + k)) record { key = 0; values = [] });
      above = λ k from below. can.above k from (omega (arith, below, count, some));
    }

-- so many rows less can be added then
pub room_run : (a n : Arrays) (room : ℕ) (columns : List (List ℤ)) (keys : List ℕ) (lane : ℕ) → AddsLanes a n keys lane columns → NoLessRoom a n → length keys ≤ room → HasRoomFor a room
    → HasRoomFor n (room - length keys)
room_run a n room columns keys lane adds later few has =
    let parts : (room - length keys) * a.width + length keys * a.width ≡ room * a.width =
    sym (add-mul (room - length keys) (length keys) a.width) ∙ ap (λ k. k * a.width) (omega (arith, few)) in
    record {
      keys_fit = omega (arith, ap length adds.keys, length-append a.keys.items keys, has.keys_fit, later.keys, few);
      values_fit = rw adds.width (omega (arith, adds.long, parts, has.values_fit, later.values));
    }

-- ---- runs one behind the other

-- the lanes of a set, and then a run of it
pub lanes_run : (b : Building) (world : World) (first : ℕ) (columns : List (List ℤ)) (lanes lane count : ℕ) → ((k : ℕ) → lane ≤ k → k < lane + count → (bit_at lanes k == 1) ≡ true)
    → with_lanes b world first columns lanes (lane + count) ≡ with_run (with_lanes b world first columns lanes lane) world first columns lane count
lanes_run b world first columns lanes lane zero all = ap (with_lanes b world first columns lanes) (omega arith)
lanes_run b world first columns lanes lane (suc count) all =
    let key = (row_at world (first + (lane + count))).key in
    let values = numbers_in columns (lane + count) in
    let next : lane + suc count ≡ suc (lane + count) = omega arith in
    ap (with_lanes b world first columns lanes) next
    ∙ ap (λ put. with_row_if put (with_lanes b world first columns lanes (lane + count)) key values) (all (lane + count) (omega arith) (omega arith))
    ∙ ap (λ (old : Building). with_row old key values) (lanes_run b world first columns lanes lane count (λ k from below. all k from (omega (arith, below))))

-- a lane that is not in the set
pub lanes_skip : (b : Building) (world : World) (first : ℕ) (columns : List (List ℤ)) (lanes lane : ℕ) → (bit_at lanes lane == 1) ≡ false
    → with_lanes b world first columns lanes (lane + 1) ≡ with_lanes b world first columns lanes lane
lanes_skip b world first columns lanes lane out =
    let next : lane + 1 ≡ suc lane = omega arith in
    ap (with_lanes b world first columns lanes) next
    ∙ ap (λ put. with_row_if put (with_lanes b world first columns lanes lane) (row_at world (first + lane)).key (numbers_in columns lane)) out

-- a run can be pushed, and then the rest
pub can_run : (b : Building) (world : Table) (first lane end count width : ℕ) → end ≤ count → CanPushLanes b world first lane count width → CanPushLanes b world first lane end width
can_run b world first lane end count width le can = record {
  wide = can.wide;
  lanes = omega (arith, le, can.lanes);
  inside = omega (arith, le, can.inside);
  few = omega (arith, le, can.few);
  room = omega (arith, le, can.room);
  above = λ k from below. can.above k from (omega (arith, below, le));
}

pub can_rest : (b : Building) (world : Table) (first : ℕ) (columns : List (List ℤ)) (lane end count : ℕ) → lane ≤ end → end ≤ count → IsTable world → CanPushLanes b world first lane count (length columns)
    → CanPushLanes (with_run b world.world first columns lane (end - lane)) world first end count (length columns)
can_rest b world first columns lane end count from le table can =
    let n = end - lane in
    let rows = run_length b world.world first columns lane n in
    let room = run_room b world.world first columns lane n in
    record {
      wide = run_width b world.world first columns lane n ∙ can.wide;
      lanes = can.lanes;
      inside = can.inside;
      few = omega (arith, rows, can.few, from);
      room = omega (arith, room, can.room, from, le);
      above = λ k later below. run_above b world.world first columns lane count n world.width table.fits can.inside can.above k (omega (arith, later, from)) below;
    }

pub can_skip : (b : Building) (world : Table) (first lane count width : ℕ) → CanPushLanes b world first lane count width → CanPushLanes b world first (lane + 1) count width
can_skip b world first lane count width can = record {
  wide = can.wide;
  lanes = can.lanes;
  inside = can.inside;
  few = omega (arith, can.few);
  room = omega (arith, can.room);
  above = λ k from below. can.above k (omega (arith, from)) below;
}
