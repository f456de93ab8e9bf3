-- Clauses of effects that go by a key alone.
use Rattle.std.proofs.Common.{◌≡◌, ◌≢◌, ◌<◌, ◌≤◌, ℕ, ℤ, pos, suc, ◌+◌, ◌&&◌, ◌==◌, rules, Decides, Bool, true, false, List, [], ◌∷◌, All, length, map, take, get_or, refl, ap, sym, ◌∙◌, subst, arith}
use Rattle.std.specs.Prelude.{cond, flat_map, slice_index_or, slice_set, slice_get, Some, None, Ok, Option, IfSome}
use Rattle.std.specs.Ordering.{int_eq}
use Rattle.std.proofs.lemmas.Bool.{false≢true}
use Rattle.std.proofs.lemmas.Bool.Decides.{Decides-eqb}
use Rattle.std.specs.Option.{option_map, unwrap_or}
use Rattle.std.proofs.lemmas.Option.{slice_get-map, slice_get_past, unwrap_or-slice_get}
use Rattle.std.proofs.lemmas.List.{append-nil, get_or-set_other, get_or-set_same, get_or-take, get_or_default, length-take}
use Rattle.sgl_values.specs.Amounts.{Amount, plain_amount}
use Rattle.sgl_values.specs.World.{Row, KeysRise, row_at}
use Rattle.sgl_values.specs.declared.fault.Val.{Val}
use Rattle.sgl_values.specs.declared.fault.Val.TheVariants.{N}
use Rattle.sgl_values.specs.declared.operator.CmpOp.TheVariants.{Eq}
use Rattle.sgl_values.specs.declared.item.Item.TheVariants.{Effect}
use Rattle.sgl_typed.specs.Aggregate.{number_in, right_sides, simple_value, with_first}
use Rattle.sgl_typed.specs.Items.{by_written, clause_items, writes, written}
use Rattle.sgl_typed.specs.Value.{Context}
use Rattle.sgl_typed.specs.declared.script.Attr.TheVariants.{Key}
use Rattle.sgl_typed.specs.declared.script.TExpr.{TExpr}
use Rattle.sgl_typed.specs.declared.script.TExpr.TheVariants.{Slot}
use Rattle.sgl_typed.specs.declared.script.TOn.{TOn}
use Rattle.sgl_typed.specs.declared.script.TTest.{TTest}
use Rattle.sgl_typed.specs.declared.script.TTest.TheVariants.{Compare}
use Rattle.sgl_typed.specs.declared.script.TWrite.{TWrite}
use Rattle.sgl_evaluate.specs.Rights.{number_or_zero, passes_each, right_of}
use Rattle.battle_algebra.specs.Meaning.{Frame, clause_of, effects, items_of_clause}
use Rattle.battle_algebra.specs.declared.plan.EffectUse.{EffectUse}
use Rattle.sgl_lanes.specs.Lanes.{has, lane_of, Holds}
use Rattle.sgl_lanes.specs.declared.kind.Lanes.TheVariants.{Unknown}
use Rattle.sgl_lanes.specs.declared.values.LaneValues.{LaneValues}
use Rattle.sgl_lanes.proofs.Held.{held-is}
use Rattle.index_set.specs.Keyed.{key_asked}
use Rattle.index_set.specs.Targets.{passing_rows}
use Rattle.index_set.proofs.Aiming.{key_rest, none_rest, only_keyed}
use Rattle.plan_executor.specs.Clauses.{arg_at, lanes_at, target_of, values_of, with_target, AreAims, AreArgs, GiveBy, GiveNumbers, GivesArg, GivesNumber, IsHeld, ReadFirst}
use Rattle.plan_executor.specs.Frames.{Slots, with_slots}
use Rattle.plan_executor.specs.Running.{base_of}
use Rattle.plan_executor.specs.Targets.{writes_at}
use Rattle.plan_executor.specs.declared.aiming.Aims.{Aims}
use Rattle.plan_executor.specs.declared.run.Run.{Run}
use Rattle.plan_executor.proofs.TargetRows.{clause_passing}

-- ---- arguments

-- lists whose elements give the same, place by place
map_pairs : {A B C : Type 0} (f : A → C) (g : B → C) (xs : List A) (ys : List B) → length xs ≡ length ys
    → ((i : ℕ) (a : A) (b : B) → i < length xs → f (get_or xs i a) ≡ g (get_or ys i b)) → map f xs ≡ map g ys
map_pairs f g [] [] long same = refl
map_pairs f g [] (y ∷ ys) long same = absurd (omega (arith, long))
map_pairs f g (x ∷ xs) [] long same = absurd (omega (arith, long))
map_pairs f g (x ∷ xs) (y ∷ ys) long same =
    let first : f x ≡ g y = same 0 x y (omega arith) in
    let rest : map f xs ≡ map g ys = map_pairs f g xs ys (omega (arith, long)) (λ i a b lt. same (suc i) a b (omega (arith, lt))) in
    (λ i. first i ∷ rest i)

module _ (base : ℕ → Frame) (slots : Slots) (exprs : List TExpr) (mask : ℕ) (lanes : List LaneValues) (room : length exprs ≤ length lanes) (read : ReadFirst base slots exprs mask (length exprs) lanes) where
  abbrev unread : LaneValues
  unread = record { kind = Unknown; numbers = [] }

  first_lanes : (i : ℕ) (d : LaneValues) → i < length exprs → get_or (take (length exprs) lanes) i d ≡ lanes_at lanes i
  first_lanes i d lt = get_or-take (length exprs) lanes i d lt ∙ get_or_default lanes i d unread (omega (arith, lt, room))

  few : length (take (length exprs) lanes) ≡ length exprs
  few = let long = length-take (length exprs) lanes in omega (arith, long, room)

  value_held : (k i : ℕ) (e : TExpr) → has mask k ≡ true → i < length exprs → arg_at k (lanes_at lanes i) ≡ simple_value (with_slots base slots k) (get_or exprs i e)
  value_held k i e own lt = held-is (lanes_at lanes i).kind (lane_of (lanes_at lanes i).numbers k) (simple_value (with_slots base slots k) (get_or exprs i e)) (read.hold i k e lt own) (read.known i lt)

  one_held : (k i : ℕ) (e : TExpr) → has mask k ≡ true → i < length exprs → IsHeld k (lanes_at lanes i)
  one_held k i e own lt = record {
    known = read.known i lt;
    holds = subst (λ (v : Val). Holds (lanes_at lanes i).kind (lane_of (lanes_at lanes i).numbers k) v) (sym (value_held k i e own lt)) (read.hold i k e lt own);
  }

  -- all of them were read
  pub args_read : AreArgs base slots exprs mask (take (length exprs) lanes)
  args_read = record {
    held = λ k own i d lt.
        let below : i < length exprs = omega (arith, lt, few) in
        subst (IsHeld k) (sym (first_lanes i d below)) (one_held k i (Slot 0) own below);
    values = λ k own. map_pairs (arg_at k) (simple_value (with_slots base slots k)) (take (length exprs) lanes) exprs few
        (λ i a e lt. let below : i < length exprs = omega (arith, lt, few) in ap (arg_at k) (first_lanes i a below) ∙ value_held k i e own below);
  }

-- a slot that is no argument
pub no_slot : (k slot : ℕ) (args : List LaneValues) → length args ≤ slot → slice_index_or (map (arg_at k) args) slot (N (pos 0)) ≡ N (pos 0)
no_slot k slot args past = sym (unwrap_or-slice_get (map (arg_at k) args) slot (N (pos 0))) ∙ ap (λ (o : Option Val). unwrap_or o (N (pos 0))) (slice_get-map (arg_at k) args slot ∙ ap (option_map (arg_at k)) (slice_get_past args slot past))

-- ---- one test, that the key equals a value

module _ (c : Context) (right : TExpr) (z : ℤ) (value : simple_value c right ≡ N z) where
  abbrev only : List TTest
  only = Compare Key Eq right ∷ []

  asks : right_of c (Compare Key Eq right) ≡ z
  asks = ap (λ (v : Val). number_or_zero (number_in v)) value

  sole_sound : right_sides c only ≡ Ok (map (right_of c) only)
  sole_sound = ap (λ (v : Val). with_first (number_in v) (Ok [])) value ∙ ap (λ (n : ℤ). Ok (n ∷ [])) (sym asks)

  sole_asked : key_asked (right_of c) only ≡ Some z
  sole_asked = ap Some asks

  same_key : (n : ℤ) → int_eq n n ≡ true
  same_key n = search rules

  sole_passes : (row : Row) → pos row.key ≡ z → passes_each c only row ≡ true
  sole_passes row is =
      ap (λ (n : ℤ). int_eq (pos row.key) n && true) (asks ∙ sym is) ∙ ap (λ b. b && true) (same_key (pos row.key))

  sole_found : (target : ℕ) → KeysRise 0 c.world.rows → target < length c.world.rows → pos (row_at c.world target).key ≡ z → passing_rows c only ≡ target ∷ []
  sole_found target rise inside is =
      let none : Row = record { key = 0; values = [] } in
      sym (key_rest (passes_each c only) c.world.rows target none rise inside (only_keyed c only z (row_at c.world target) sole_asked is))
      ∙ ap (λ b. cond b (target ∷ []) []) (sole_passes (row_at c.world target) is)

  sole_missing : All (λ row. pos row.key ≢ z) c.world.rows → passing_rows c only ≡ []
  sole_missing missing = sym (none_rest c only z sole_asked missing)

  module _ (clause : TOn) (are : clause.tests ≡ only) where
    sound : right_sides c clause.tests ≡ Ok (map (right_of c) clause.tests)
    sound = subst (λ (tests : List TTest). right_sides c tests ≡ Ok (map (right_of c) tests)) (sym are) sole_sound

    pub key_found : (target : ℕ) → KeysRise 0 c.world.rows → target < length c.world.rows → pos (row_at c.world target).key ≡ z
        → writes (with_target c.world c target) target clause.writes ≡ clause_items c clause
    key_found target rise inside is =
        sym (clause_passing c clause sound ∙ ap (flat_map (writes_at c clause.writes)) (ap (passing_rows c) are ∙ sole_found target rise inside is) ∙ append-nil _)

    pub key_missing : All (λ row. pos row.key ≢ z) c.world.rows → clause_items c clause ≡ []
    key_missing missing = clause_passing c clause sound ∙ ap (flat_map (writes_at c clause.writes)) (ap (passing_rows c) are ∙ sole_missing missing)

-- ---- the items of an effect

-- those of its clause, with its arguments as slots
module _ (run : Run) (slots : Slots) (act : EffectUse) (mask : ℕ) (clause : TOn) (args : Slots)
    (is : Some clause ≡ clause_of (slice_get run.tick.script.now.actions act.action) act.clause) (arguments : (k : ℕ) → has mask k ≡ true → args k ≡ values_of (base_of run) slots act.args k) where
  clause_is : (k : ℕ) → has mask k ≡ true → clause_items (with_slots (base_of run) args k) clause ≡ effects act (with_slots (base_of run) slots k)
  clause_is k own =
      (λ i. clause_items (record (base_of run k) { slots = arguments k own i }) clause)
      ∙ ap (items_of_clause (record (base_of run k) { slots = map (simple_value (with_slots (base_of run) slots k)) act.args })) is

  pub given_by : (right : TExpr) (aims : Aims) (amounts : List LaneValues) → clause.tests ≡ Compare Key Eq right ∷ [] → KeysRise 0 run.tick.world.now.world.rows → length clause.writes ≤ length amounts
      → AreAims run.tick.world.now.world (with_slots (base_of run) args) right mask aims
      → ((k : ℕ) → has aims.aimed k ≡ true → GiveNumbers (with_target run.tick.world.now.world (with_slots (base_of run) args k) (target_of aims.targets k)) (target_of aims.targets k) k clause.writes amounts)
      → GiveBy run slots act mask clause.writes aims amounts
  given_by right aims amounts are rise room aimed numbers = record {
    room = room;
    frame = λ k. with_target run.tick.world.now.world (with_slots (base_of run) args k) (target_of aims.targets k);
    part = aimed.part;
    within = λ k goes. (aimed.found k (aimed.part k goes)).within goes;
    numbers = numbers;
    hit = λ k goes.
        let own : has mask k ≡ true = aimed.part k goes in
        let found = aimed.found k own in
        key_found (with_slots (base_of run) args k) right (aimed.key k) (aimed.asked k own) clause are (target_of aims.targets k) rise (found.within goes) (found.hit goes)
        ∙ clause_is k own;
    miss = λ k own stays.
        sym (clause_is k own) ∙ key_missing (with_slots (base_of run) args k) right (aimed.key k) (aimed.asked k own) clause are ((aimed.found k own).miss stays);
  }

  -- the same of what is given, where something is
  pub gift_given : {W : Type 0} (writes_in : W → List TWrite) (right : TExpr) (gift : Option W) (aims : Aims) (amounts : List LaneValues) → clause.tests ≡ Compare Key Eq right ∷ [] → KeysRise 0 run.tick.world.now.world.rows
      → length clause.writes ≤ length amounts
      → IfSome gift (λ writing. writes_in writing ≡ clause.writes)
      → IfSome gift (λ writing. AreAims run.tick.world.now.world (with_slots (base_of run) args) right mask aims)
      → IfSome gift (λ writing. (k : ℕ) → has aims.aimed k ≡ true
      → GiveNumbers (with_target run.tick.world.now.world (with_slots (base_of run) args k) (target_of aims.targets k)) (target_of aims.targets k) k clause.writes amounts)
      → IfSome gift (λ writing. GiveBy run slots act mask (writes_in writing) aims amounts)
  gift_given writes_in right None aims amounts are rise room writing aimed numbers = writing
  gift_given writes_in right (Some given) aims amounts are rise room writing aimed numbers =
      subst (λ (ws : List TWrite). GiveBy run slots act mask ws aims amounts) (sym writing) (given_by right aims amounts are rise room aimed numbers)

-- ---- one write

-- an argument that is given as it stands
pub arg_given : (f c : Frame) (target row : ℕ) (exprs : List TExpr) (write : TWrite) (arg : TExpr) (values : LaneValues) → GivesArg exprs write arg
    → c.slots ≡ map (simple_value f) exprs → simple_value f arg ≡ N (lane_of values.numbers row) → GivesNumber c target row write values
arg_given f c target row exprs write arg values gives are number =
    let read : slice_index_or c.slots gives.slot (N (pos 0)) ≡ N (lane_of values.numbers row) =
    ap (λ (vs : List Val). slice_index_or vs gives.slot (N (pos 0))) are
    ∙ sym (unwrap_or-slice_get (map (simple_value f) exprs) gives.slot (N (pos 0)))
    ∙ ap (λ (o : Option Val). unwrap_or o (N (pos 0))) (slice_get-map (simple_value f) exprs gives.slot ∙ ap (option_map (simple_value f)) gives.is)
    ∙ number in
    ap (λ (x : TExpr). written c target write (simple_value c x)) gives.amount
    ∙ ap (written c target write) read
    ∙ ap (by_written c target write.effect (lane_of values.numbers row)) gives.plain

-- the number of its lane is what it gives
pub number_given : (c : Context) (target row : ℕ) (writing : List TWrite) (amounts : List LaneValues) (i : ℕ) (write : TWrite) (values : LaneValues) (amount : Amount) → GiveNumbers c target row writing amounts
    → i < length writing → write ≡ get_or writing i write → amount ≡ plain_amount (lane_of (get_or amounts i values).numbers row)
    → Effect target (get_or writing i write).effect amount ≡ written c target write (simple_value c write.amount)
number_given c target row writing amounts i write values amount gives lt is plain =
    let lanes : get_or amounts i values ≡ lanes_at amounts i = get_or_default amounts i values record { kind = Unknown; numbers = [] } (omega (arith, lt, gives.room)) in
    ap (λ (a : Amount). Effect target (get_or writing i write).effect a) (plain ∙ ap (λ (v : LaneValues). plain_amount (lane_of v.numbers row)) lanes)
    ∙ sym (gives.give i write lt)
    ∙ ap (λ (w : TWrite). written c target w (simple_value c w.amount)) (sym is)

-- the writes before this one and this one
pub one_more_number : (frame : ℕ → Context) (aims : Aims) (writing : List TWrite) (old new : List LaneValues) (count : ℕ) (write : TWrite) (values : LaneValues) → count < length writing → count < length old
    → write ≡ get_or writing count write → new ≡ slice_set old count values
    → ((k : ℕ) → has aims.aimed k ≡ true → GivesNumber (frame k) (target_of aims.targets k) k write values)
    → ((i k : ℕ) (w : TWrite) → i < count → has aims.aimed k ≡ true → GivesNumber (frame k) (target_of aims.targets k) k (slice_index_or writing i w) (lanes_at old i))
    → (i k : ℕ) (w : TWrite) → i < count + 1 → has aims.aimed k ≡ true → GivesNumber (frame k) (target_of aims.targets k) k (slice_index_or writing i w) (lanes_at new i)
one_more_number frame aims writing old new count write values within room is made gives before i k w lt own = step (i == count) (Decides-eqb i count)
  where
    none : LaneValues
    none = record { kind = Unknown; numbers = [] }

    step : (t : Bool) → Decides t (i ≡ count) → GivesNumber (frame k) (target_of aims.targets k) k (slice_index_or writing i w) (lanes_at new i)
    step true d =
        let same : i ≡ count = d.0 refl in
        subst (λ (pair : TWrite × LaneValues). GivesNumber (frame k) (target_of aims.targets k) k pair.0 pair.1)
        (λ j. ((is ∙ get_or_default writing count write w within ∙ ap (λ n. get_or writing n w) (sym same)) j, (sym (get_or-set_same old count values record { kind = Unknown; numbers = [] } room) ∙ ap (λ (l : List LaneValues). lanes_at l count) (sym made) ∙ ap (lanes_at new) (sym same)) j))
        (gives k own)
    step false d =
        let apart : i ≢ count = λ e. false≢true (d.1 e) in
        subst (λ (v : LaneValues). GivesNumber (frame k) (target_of aims.targets k) k (slice_index_or writing i w) v)
        (sym (ap (λ (l : List LaneValues). lanes_at l i) made ∙ get_or-set_other old count i values record { kind = Unknown; numbers = [] } apart))
        (before i k w (omega (arith, lt, apart)) own)
