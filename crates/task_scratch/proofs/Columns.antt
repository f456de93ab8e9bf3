-- Columns as rows.
use Rattle.std.proofs.Common.{◌≡◌, ◌<◌, ◌≤◌, ◌≢◌, ℕ, ℤ, pos, List, [], length, set, get_or, replicate, inl, inr, false, refl, ap, subst, sym, ◌∙◌, zero-add, arith}
use Rattle.std.proofs.lemmas.Bool.{cases_lt}
use Rattle.std.proofs.lemmas.List.{length-map, get_or-map, get_or_past, map-set, set-get_or, set_past, get_or-replicate, length-replicate}
use Rattle.std.proofs.lemmas.List.FromFn.{length-map-range_with_len, get_or-map-range_with_len}
use Rattle.sgl_values.specs.declared.fault.Fault.{Fault}
use Rattle.sgl_values.specs.declared.fault.Val.{Val}
use Rattle.sgl_values.specs.declared.fault.Val.TheVariants.{N}
use Rattle.sgl_lanes.specs.Lanes.{has, held, lane_of, EachLane}
use Rattle.sgl_lanes.proofs.LaneSets.{has_zero}
use Rattle.sgl_lanes.specs.declared.kind.Lanes.{Lanes}
use Rattle.task_scratch.specs.declared.slot_column.SlotColumn.{SlotColumn}
use Rattle.task_scratch.specs.Columns.{fault_past, row_in, rows_in, value_by, value_in}
use Rattle.task_scratch.specs.Scratch.{slots_in, AreLanesSet, AreWide, IsRowSet}

pub length-rows_in : (columns : List SlotColumn) → length (rows_in columns) ≡ 64
unfolding rows_in
length-rows_in columns = length-map-range_with_len (row_in columns) 0 64

pub slots_in-rows_in : (columns : List SlotColumn) (k : ℕ) → k < 64 → slots_in (rows_in columns) k ≡ row_in columns k
unfolding rows_in
slots_in-rows_in columns k below = get_or-map-range_with_len (row_in columns) 0 64 k k [] below (zero-add k)

slots_in_past : (columns : List SlotColumn) (k : ℕ) → 64 ≤ k → slots_in (rows_in columns) k ≡ []
slots_in_past columns k past = get_or_past (rows_in columns) k [] (omega (arith, length-rows_in columns, past))

-- a row has as many slots as there are columns
pub length-slots_in : (columns : List SlotColumn) (k : ℕ) → k < 64 → length (slots_in (rows_in columns) k) ≡ length columns
length-slots_in columns k below = ap length (slots_in-rows_in columns k below) ∙ length-map columns (λ column. value_in column k)

length-slots_in-le : (columns : List SlotColumn) (k : ℕ) → length (slots_in (rows_in columns) k) ≤ length columns
length-slots_in-le columns k = elim (cases_lt k 64) [
  | inl below ↦ omega (arith, length-slots_in columns k below)
  | inr past ↦ omega (arith, ap length (slots_in_past columns k past))
]

pub are_wide : (columns : List SlotColumn) (width : ℕ) → length columns ≡ width → AreWide width (rows_in columns)
are_wide columns width long = record {
  is = λ row inside. length-slots_in columns row (omega (arith, inside, length-rows_in columns)) ∙ long;
}

pub row_long : (columns : List SlotColumn) (rows : List (List Val)) (k : ℕ) → rows_in columns ≡ rows → k < 64
    → length (slots_in rows k) ≡ length columns
row_long columns rows k is below = ap (λ rs. length (slots_in rs k)) (sym is) ∙ length-slots_in columns k below

-- a column of numbers that are 0
zero_at : (k : ℕ) (z : ℤ) → z ≡ pos 0 → get_or (replicate 64 z) k (pos 0) ≡ pos 0
zero_at k z is = elim (cases_lt k 64) [
  | inl below ↦ get_or-replicate 64 k z (pos 0) below ∙ is
  | inr past ↦ get_or_past (replicate 64 z) k (pos 0) (omega (arith, past, length-replicate 64 z))
]

pub zero_in : (faults : List Fault) (k : ℕ) (z : ℤ) → z ≡ pos 0
    → value_by (has 0 k) (has 0 k) (get_or (replicate 64 z) k (pos 0)) (get_or faults k fault_past) ≡ N (pos 0)
zero_in faults k z is = let none : has 0 k ≡ false = has_zero k in rw none (ap N (zero_at k z is))

-- a slot is the value in its column
pub slot_is : (columns : List SlotColumn) (rows : List (List Val)) (k slot : ℕ) (column : SlotColumn) → rows_in columns ≡ rows → k < 64
    → slot < length columns → column ≡ get_or columns slot column → value_in column k ≡ get_or (slots_in rows k) slot (N (pos 0))
slot_is columns rows k slot column is below inside read =
    let P : List (List Val) → Type 0 = λ rs. value_in column k ≡ get_or (slots_in rs k) slot (N (pos 0)) in
    subst P is (
    ap (λ d. value_in d k) read ∙ sym (get_or-map (λ d. value_in d k) columns slot column (N (pos 0)) inside)
    ∙ ap (λ xs. get_or xs slot (N (pos 0))) (sym (slots_in-rows_in columns k below)))

pub slot_past : (columns : List SlotColumn) (rows : List (List Val)) (k slot : ℕ) → rows_in columns ≡ rows → length columns ≤ slot
    → N (pos 0) ≡ get_or (slots_in rows k) slot (N (pos 0))
slot_past columns rows k slot is past =
    let P : List (List Val) → Type 0 = λ rs. N (pos 0) ≡ get_or (slots_in rs k) slot (N (pos 0)) in
    subst P is (sym (get_or_past (slots_in (rows_in columns) k) slot (N (pos 0)) (omega (arith, past, length-slots_in-le columns k))))

-- a row whose column is changed
slots_set : (columns : List SlotColumn) (slot : ℕ) (new : SlotColumn) (k : ℕ) (v : Val) → k < 64 → value_in new k ≡ v
    → slots_in (rows_in (set columns slot new)) k ≡ set (slots_in (rows_in columns) k) slot v
slots_set columns slot new k v below is =
    slots_in-rows_in (set columns slot new) k below ∙ map-set (λ column. value_in column k) columns slot new
    ∙ ap (λ x. set (row_in columns k) slot x) is ∙ ap (λ xs. set xs slot v) (sym (slots_in-rows_in columns k below))

-- a row for which the column is what it was
row_kept : (columns : List SlotColumn) (slot : ℕ) (new old : SlotColumn) (k : ℕ) → old ≡ get_or columns slot old
    → value_in new k ≡ value_in old k → row_in (set columns slot new) k ≡ row_in columns k
row_kept columns slot new old k read is =
    map-set (λ column. value_in column k) columns slot new ∙ ap (λ x. set (row_in columns k) slot x) (is ∙ ap (λ d. value_in d k) read)
    ∙ sym (map-set (λ column. value_in column k) columns slot (get_or columns slot old))
    ∙ ap (λ cs. row_in cs k) (set-get_or columns slot old)

slots_kept : (columns : List SlotColumn) (slot : ℕ) (new old : SlotColumn) (k : ℕ) → old ≡ get_or columns slot old
    → value_in new k ≡ value_in old k → slots_in (rows_in (set columns slot new)) k ≡ slots_in (rows_in columns) k
slots_kept columns slot new old k read is = elim (cases_lt k 64) [
  | inl below ↦
      slots_in-rows_in (set columns slot new) k below ∙ row_kept columns slot new old k read is ∙ sym (slots_in-rows_in columns k below)
  | inr past ↦ slots_in_past (set columns slot new) k past ∙ sym (slots_in_past columns k past)
]

-- where there is no such column, there is no such slot
slots_past : (columns : List SlotColumn) (slot k : ℕ) (v : Val) → length columns ≤ slot
    → slots_in (rows_in columns) k ≡ set (slots_in (rows_in columns) k) slot v
slots_past columns slot k v past = sym (set_past (slots_in (rows_in columns) k) slot v (omega (arith, past, length-slots_in-le columns k)))

pub row_set : (columns : List SlotColumn) (rows : List (List Val)) (row slot : ℕ) (value : Val) (new old : SlotColumn)
    → rows_in columns ≡ rows → row < 64 → old ≡ get_or columns slot old → value_in new row ≡ value
    → ((k : ℕ) → k ≢ row → value_in new k ≡ value_in old k)
    → IsRowSet row slot value rows (rows_in (set columns slot new))
row_set columns rows row slot value new old is below read same other =
    let P : List (List Val) → Type 0 = λ rs. IsRowSet row slot value rs (rows_in (set columns slot new)) in
    subst P is (record {
      same = slots_set columns slot new row value below same;
      other = λ k apart. slots_kept columns slot new old k read (other k apart);
    })

pub row_set_past : (columns : List SlotColumn) (rows : List (List Val)) (row slot : ℕ) (value : Val) → rows_in columns ≡ rows
    → length columns ≤ slot → IsRowSet row slot value rows rows
row_set_past columns rows row slot value is past =
    let P : List (List Val) → Type 0 = λ rs. IsRowSet row slot value rs rs in
    subst P is (record { same = slots_past columns slot row value past; other = λ k apart. refl })

pub lanes_set : (columns : List SlotColumn) (rows : List (List Val)) (slot mask : ℕ) (kind : Lanes) (numbers : List ℤ)
    (new old : SlotColumn) → rows_in columns ≡ rows → old ≡ get_or columns slot old
    → EachLane mask (λ k. value_in new k ≡ held kind (lane_of numbers k))
    → ((k : ℕ) → has mask k ≡ false → value_in new k ≡ value_in old k)
    → AreLanesSet slot mask kind numbers rows (rows_in (set columns slot new))
lanes_set columns rows slot mask kind numbers new old is read inside outside =
    let P : List (List Val) → Type 0 = λ rs. AreLanesSet slot mask kind numbers rs (rows_in (set columns slot new)) in
    subst P is (record {
      inside = λ k below within. slots_set columns slot new k (held kind (lane_of numbers k)) below (inside k below within);
      outside = λ k without. slots_kept columns slot new old k read (outside k without);
    })

pub lanes_set_past : (columns : List SlotColumn) (rows : List (List Val)) (slot mask : ℕ) (kind : Lanes) (numbers : List ℤ)
    → rows_in columns ≡ rows → length columns ≤ slot → AreLanesSet slot mask kind numbers rows rows
lanes_set_past columns rows slot mask kind numbers is past =
    let P : List (List Val) → Type 0 = λ rs. AreLanesSet slot mask kind numbers rs rs in
    subst P is (record {
      inside = λ k below within. slots_past columns slot k (held kind (lane_of numbers k)) past;
      outside = λ k without. refl;
    })

-- as many rows whatever the columns are
pub long_as : (columns : List SlotColumn) (rows : List (List Val)) (others : List SlotColumn) → rows_in columns ≡ rows
    → length (rows_in others) ≡ length rows
long_as columns rows others is = length-rows_in others ∙ sym (length-rows_in columns) ∙ ap length is
