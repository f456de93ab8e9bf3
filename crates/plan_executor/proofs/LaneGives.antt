-- Rows that give side by side, write by write: the items of all writes, in another order than row by row.
use Rattle.std.proofs.Common.{◌≡◌, ℕ, ℤ, suc, ◌+◌, ◌-◌, ◌*◌, ◌<◌, ◌≤◌, ◌&&◌, cond, Bool, true, false, List, [], ◌∷◌, ◌++◌, drop, get_or, inl, inr, length, map, refl, ap, sym, ◌∙◌, subst, arith, append_assoc}
use Rattle.std.specs.Prelude.{filter, flat_map}
use Rattle.std.specs.List.{list_all}
use Rattle.std.specs.List.Sorted.{IsPermutation}
use Rattle.std.proofs.lemmas.Bool.{cases_lt, false≢true}
use Rattle.std.proofs.lemmas.List.{append-nil, at_drop_more}
use Rattle.std.proofs.lemmas.List.Sorted.{IsPermutation-append_comm, IsPermutation-append_left, IsPermutation-append_right, IsPermutation-cons, IsPermutation-refl, IsPermutation-trans}
use Rattle.sgl_values.specs.Amounts.{is_amount, plain_amount}
use Rattle.sgl_values.specs.ItemOrder.{item_fault_cmp}
use Rattle.sgl_values.specs.Least.{least_of, lesser_of}
use Rattle.sgl_values.specs.declared.fault.Tag.{Tag}
use Rattle.sgl_values.specs.declared.item.Item.{Item}
use Rattle.sgl_values.specs.declared.item.ItemFault.{ItemFault}
use Rattle.sgl_typed.specs.Items.{writes}
use Rattle.sgl_typed.specs.Tick.{item_faults}
use Rattle.sgl_typed.specs.Value.{Context}
use Rattle.sgl_typed.specs.declared.script.TWrite.{TWrite}
use Rattle.battle_algebra.specs.Meaning.{effects}
use Rattle.battle_algebra.specs.declared.plan.EffectUse.{EffectUse}
use Rattle.sgl_lanes.specs.Lanes.{has, lane_of}
use Rattle.sgl_lanes.specs.declared.values.LaneValues.{LaneValues}
use Rattle.sgl_lanes.proofs.LaneSets.{has_past}
use Rattle.effect_board.specs.Lanes.{is_in, lane_gives, number_give}
use Rattle.effect_board.specs.Views.{giving, giving_all}
use Rattle.effect_board.specs.declared.view.View.{View}
use Rattle.effect_combine.specs.declared.cell.Cell.{Cell}
use Rattle.tick_core.specs.declared.event.Give.{Give}
use Rattle.task_scratch.specs.Job.{item_fits}
use Rattle.plan_executor.specs.Clauses.{column, columns, items_at, lane_item, target_of, GiveBy, GiveNumbers}
use Rattle.plan_executor.specs.Frames.{Slots, all_rows, frames, members, with_slots}
use Rattle.plan_executor.specs.Giving.{IsGiven}
use Rattle.plan_executor.specs.Running.{base_of}
use Rattle.plan_executor.specs.Sinking.{Bounds, State, Pushes}
use Rattle.plan_executor.specs.declared.aiming.Aims.{Aims}
use Rattle.plan_executor.specs.declared.run.Run.{Run}
use Rattle.plan_executor.proofs.Bags.{alike_moved, pushes_alike}
use Rattle.plan_executor.proofs.Cells.{given_one}
use Rattle.plan_executor.proofs.Pushing.{no_more, pushed_many}

-- ---- the items of a row

row_items : (c : Context) (aims : Aims) (k : ℕ) (writing : List TWrite) (amounts : List LaneValues) → GiveNumbers c (target_of aims.targets k) k writing amounts
    → writes c (target_of aims.targets k) writing ≡ items_at aims writing amounts k
row_items c aims k [] amounts gives = refl
row_items c aims k (write ∷ writing) [] gives = absurd (omega (arith, gives.room))
row_items c aims k (write ∷ writing) (values ∷ amounts) gives =
    λ i. gives.give 0 write (omega arith) i ∷ row_items c aims k writing amounts record { room = omega (arith, gives.room); give = λ n w lt. gives.give (suc n) w (omega (arith, lt)) } i

module _ (run : Run) (slots : Slots) (act : EffectUse) (mask : ℕ) (writing : List TWrite) (aims : Aims) (amounts : List LaneValues) (gives : GiveBy run slots act mask writing aims amounts) where
  one : (k : ℕ) → has aims.aimed k ≡ true → effects act (with_slots (base_of run) slots k) ≡ items_at aims writing amounts k
  one k goes = sym (gives.hit k goes) ∙ row_items (gives.frame k) aims k writing amounts (gives.numbers k goes)

  abbrev of_mask : ℕ → List ℕ → Bool → List Item
  of_mask k rows b = flat_map (effects act) (map (with_slots (base_of run) slots) (cond b (k ∷ filter (has mask) rows) (filter (has mask) rows)))

  abbrev of_aimed : ℕ → List ℕ → Bool → List Item
  of_aimed k rows b = flat_map (items_at aims writing amounts) (cond b (k ∷ filter (has aims.aimed) rows) (filter (has aims.aimed) rows))

  items_in : (rows : List ℕ) → flat_map (effects act) (map (with_slots (base_of run) slots) (filter (has mask) rows)) ≡ flat_map (items_at aims writing amounts) (filter (has aims.aimed) rows)
  items_in [] = refl
  items_in (k ∷ rows) = step (items_in rows) (has mask k) (has aims.aimed k) refl refl
    where
      step : of_mask k rows false ≡ of_aimed k rows false → (t u : Bool) → has mask k ≡ t → has aims.aimed k ≡ u → of_mask k rows (has mask k) ≡ of_aimed k rows (has aims.aimed k)
      step rest true true own goes = ap (of_mask k rows) own ∙ (λ i. one k goes i ++ rest i) ∙ sym (ap (of_aimed k rows) goes)
      step rest true false own stays = ap (of_mask k rows) own ∙ (λ i. gives.miss k own stays i ++ rest i) ∙ sym (ap (of_aimed k rows) stays)
      step rest false true out goes = absurd (false≢true (sym out ∙ gives.part k goes))
      step rest false false out stays = ap (of_mask k rows) out ∙ rest ∙ sym (ap (of_aimed k rows) stays)

  items_are : flat_map (effects act) (frames (base_of run) slots (members mask)) ≡ flat_map (items_at aims writing amounts) (members aims.aimed)
  unfolding members
  items_are = items_in all_rows

-- ---- row by row, and write by write

parted : {A : Type 0} (f : A → Item) (g : A → List Item) (ks : List A) → IsPermutation (map f ks ++ flat_map g ks) (flat_map (λ k. f k ∷ g k) ks)
parted f g [] = IsPermutation-refl []
parted f g (k ∷ ks) =
    IsPermutation-cons (f k) (map f ks ++ (g k ++ flat_map g ks)) (g k ++ flat_map (λ n. f n ∷ g n) ks)
    (IsPermutation-trans (map f ks ++ (g k ++ flat_map g ks)) (g k ++ (map f ks ++ flat_map g ks)) (g k ++ flat_map (λ n. f n ∷ g n) ks)
    (subst (λ l. IsPermutation l (g k ++ (map f ks ++ flat_map g ks))) (append_assoc (map f ks) (g k) (flat_map g ks))
    (subst (IsPermutation ((map f ks ++ g k) ++ flat_map g ks)) (append_assoc (g k) (map f ks) (flat_map g ks))
    (IsPermutation-append_left (flat_map g ks) (map f ks ++ g k) (g k ++ map f ks) (IsPermutation-append_comm (map f ks) (g k)))))
    (IsPermutation-append_right (g k) (map f ks ++ flat_map g ks) (flat_map (λ n. f n ∷ g n) ks) (parted f g ks)))

abbrev nothing : List Item
nothing = []

none_at : {A : Type 0} (ks : List A) → flat_map (λ (k : A). nothing) ks ≡ []
none_at [] = refl
none_at (k ∷ ks) = none_at ks

by_columns : (aims : Aims) (writing : List TWrite) (amounts : List LaneValues) → IsPermutation (columns aims writing amounts) (flat_map (items_at aims writing amounts) (members aims.aimed))
by_columns aims [] amounts = subst (IsPermutation []) (sym (none_at (members aims.aimed))) (IsPermutation-refl [])
by_columns aims (write ∷ writing) [] = subst (IsPermutation []) (sym (none_at (members aims.aimed))) (IsPermutation-refl [])
by_columns aims (write ∷ writing) (values ∷ amounts) =
    let ks = members aims.aimed in
    IsPermutation-trans (column aims write values ++ columns aims writing amounts) (column aims write values ++ flat_map (items_at aims writing amounts) ks) (flat_map (items_at aims (write ∷ writing) (values ∷ amounts)) ks)
    (IsPermutation-append_right (column aims write values) (columns aims writing amounts) (flat_map (items_at aims writing amounts) ks) (by_columns aims writing amounts))
    (parted (lane_item aims write values) (items_at aims writing amounts) ks)

-- what was given write by write was given row by row
pub pushed_rows : (run : Run) (slots : Slots) (act : EffectUse) (mask : ℕ) (writing : List TWrite) (aims : Aims) (amounts : List LaneValues) (bounds : Bounds) (old new : State)
    → GiveBy run slots act mask writing aims amounts → Pushes bounds old new (columns aims writing amounts)
    → Pushes bounds old new (flat_map (effects act) (frames (base_of run) slots (members mask)))
pushed_rows run slots act mask writing aims amounts bounds old new gives pushes =
    subst (Pushes bounds old new) (sym (items_are run slots act mask writing aims amounts gives))
    (pushes_alike bounds old new (columns aims writing amounts) (flat_map (items_at aims writing amounts) (members aims.aimed)) (alike_moved _ _ (by_columns aims writing amounts)) pushes)

-- ---- a column

module _ (aims : Aims) (write : TWrite) (values : LaneValues) where
  no_faults : (ks : List ℕ) → item_faults (map (lane_item aims write values) ks) ≡ []
  no_faults [] = refl
  no_faults (k ∷ ks) = no_faults ks

  abbrev fits : ℕ → List ℕ → Bool → Bool
  fits k ks b = list_all item_fits (map (lane_item aims write values) (cond b (k ∷ filter (has aims.aimed) ks) (filter (has aims.aimed) ks)))

  all_fit : (ks : List ℕ) → ((k : ℕ) → has aims.aimed k ≡ true → is_amount (plain_amount (lane_of values.numbers k)) ≡ true)
      → list_all item_fits (map (lane_item aims write values) (filter (has aims.aimed) ks)) ≡ true
  all_fit [] fit = refl
  all_fit (k ∷ ks) fit = step (all_fit ks fit) (has aims.aimed k) refl
    where
      step : fits k ks false ≡ true → (t : Bool) → has aims.aimed k ≡ t → fits k ks (has aims.aimed k) ≡ true
      step rest true own = ap (fits k ks) own ∙ (λ i. fit k own i && rest i)
      step rest false out = ap (fits k ks) out ∙ rest

  long : (ks : List ℕ) → length (map (lane_item aims write values) ks) ≡ length ks
  long [] = refl
  long (k ∷ ks) = ap suc (long ks)

  module _ (rows : ℕ) (tags : List Tag) (start : View) (cells : List Cell) (inside : write.effect < length tags) where
    abbrev give : ℕ → Give
    give k = number_give tags write.effect (target_of aims.targets k) (lane_of values.numbers k)

    given_many : (ks : List ℕ) (old : View) (items : List Item) → IsGiven rows tags start old cells items
        → IsGiven rows tags start (giving_all old (map give ks)) cells (items ++ map (lane_item aims write values) ks)
    given_many [] old items given =
        subst (λ (l : List Item). IsGiven rows tags start (giving_all old []) cells l) (sym (append-nil items))
        (subst (λ (l : List Give). IsGiven rows tags start (record old { gives = l }) cells items) (sym (append-nil old.gives)) given)
    given_many (k ∷ ks) old items given =
        let item : Item = lane_item aims write values k in
        let first = given_one rows tags start old (giving old (give k)) cells items (target_of aims.targets k) write.effect (plain_amount (lane_of values.numbers k)) inside refl given in
        let rest = given_many ks (giving old (give k)) (items ++ item ∷ []) first in
        subst (λ (l : List Item). IsGiven rows tags start (giving_all old (map give (k ∷ ks))) cells l) (append_assoc items (item ∷ []) (map (lane_item aims write values) ks))
        (subst (λ (l : List Give). IsGiven rows tags start (record old { gives = l }) cells ((items ++ item ∷ []) ++ map (lane_item aims write values) ks))
        (append_assoc old.gives (give k ∷ []) (map give ks)) rest)

-- a column was given
pub pushed_column : (bounds : Bounds) (old new : State) (count : ℕ) (aims : Aims) (write : TWrite) (values : LaneValues) → write.effect < length bounds.tags
    → old.over ≡ false → count ≡ length (members aims.aimed) → old.items + count ≤ bounds.limit → new.over ≡ false → new.items ≡ old.items + count → new.least ≡ old.least → new.cells ≡ old.cells
    → ((k : ℕ) → has aims.aimed k ≡ true → is_amount (plain_amount (lane_of values.numbers k)) ≡ true)
    → new.view ≡ giving_all old.view (map (λ k. number_give bounds.tags write.effect (target_of aims.targets k) (lane_of values.numbers k)) (members aims.aimed))
    → Pushes bounds old new (column aims write values)
unfolding members
pushed_column bounds old new count aims write values inside fresh counts room still more least same fit gave =
    let ks : List ℕ = members aims.aimed in
    let items : List Item = column aims write values in
    let many : length items ≡ count = long aims write values ks ∙ sym counts in
    pushed_many bounds old new items fresh (omega (arith, room, many)) still (omega (arith, more, many))
    (least ∙ sym (no_more old.least) ∙ ap (λ (fs : List ItemFault). lesser_of item_fault_cmp old.least (least_of item_fault_cmp fs)) (sym (no_faults aims write values ks)))
    (all_fit aims write values all_rows fit)
    (λ start earlier given.
    subst (λ (v : View). IsGiven bounds.rows bounds.tags start v new.cells (earlier ++ items)) (sym gave)
    (subst (λ (cells : List Cell). IsGiven bounds.rows bounds.tags start (giving_all old.view (map (λ k. number_give bounds.tags write.effect (target_of aims.targets k) (lane_of values.numbers k)) ks)) cells (earlier ++ items)) (sym same)
    (given_many aims write values bounds.rows bounds.tags start old.cells inside ks old.view earlier given)))

-- ---- what the board was given

pub in_has : (mask k : ℕ) → is_in mask k ≡ has mask k
unfolding has
in_has mask k = refl

pub gives_of_members : (tags : List Tag) (attr : ℕ) (aims : Aims) (numbers : List ℤ)
    → lane_gives tags attr aims.aimed aims.targets numbers ≡ map (λ k. number_give tags attr (target_of aims.targets k) (lane_of numbers k)) (members aims.aimed)
unfolding members all_rows has
gives_of_members tags attr aims numbers = refl

pub fit_in_all : (mask : ℕ) (numbers : List ℤ) → mask < 18446744073709551616
    → ((k : ℕ) → k < 64 → is_in mask k ≡ true → is_amount (plain_amount (lane_of numbers k)) ≡ true) → (k : ℕ) → has mask k ≡ true → is_amount (plain_amount (lane_of numbers k)) ≡ true
fit_in_all mask numbers small fit k own = elim (cases_lt k 64) [
  | inl below ↦ fit k below (in_has mask k ∙ own)
  | inr past ↦ absurd (false≢true (sym (has_past mask k small past) ∙ own))
]

-- one column of those that are still to come
pub next_column : (aims : Aims) (writing : List TWrite) (amounts : List LaneValues) (i : ℕ) (write : TWrite) (values : LaneValues) → i < length writing → i < length amounts
    → write ≡ get_or writing i write → values ≡ get_or amounts i values
    → columns aims (drop i writing) (drop i amounts) ≡ column aims write values ++ columns aims (drop (i + 1) writing) (drop (i + 1) amounts)
next_column aims writing amounts i write values in_writing in_amounts is are =
    at_drop_more (λ (ws : List TWrite). columns aims ws (drop i amounts)) writing i write in_writing
    ∙ at_drop_more (λ (vs : List LaneValues). columns aims (get_or writing i write ∷ drop (i + 1) writing) vs) amounts i values in_amounts
    ∙ (λ j. column aims (sym is j) (sym are j) ++ columns aims (drop (i + 1) writing) (drop (i + 1) amounts))

-- room for one column less
pub room_left : (items rows count number limit : ℕ) → number < count → rows ≤ 64 → items + 64 * (count - number) ≤ limit → (items + rows ≤ limit) × (items + rows + 64 * (count - (number + 1)) ≤ limit)
room_left items rows count number limit below few room =
    let one : count - number ≡ (count - (number + 1)) + 1 = omega (arith, below) in
    let all : 64 * (count - number) ≡ 64 * (count - (number + 1)) + 64 = ap (λ (n : ℕ). 64 * n) one ∙ omega arith in
    (omega (arith, room, all, few), omega (arith, room, all, few))
