-- The items of a tick are at rows of the world, and at effects of the script.
use Rattle.std.proofs.Common.{◌≡◌, ℕ, ℤ, pos, ◌+◌, ◌<◌, ◌≤◌, Bool, true, false, List, [], ◌∷◌, ◌++◌, flat_map, length, take, slice_get, zero, suc, arith, subst, sym, Option, Some, None, Result, Ok, Err}
use Rattle.std.specs.Prelude.{nat_lt, if◌then◌else◌}
use Rattle.std.specs.List.{All}
use Rattle.std.specs.Option.{IfSome}
use Rattle.std.proofs.lemmas.Bool.{and_parts}
use Rattle.std.proofs.lemmas.Bool.Decides.{nat_tests}
use Rattle.std.proofs.lemmas.List.Elements.{All-append, All-cons, All-head, All-map, All-nil, All-tail, All-take, All-weaker}
use Rattle.std.proofs.lemmas.List.Sums.{AllPass-from_list_all}
use Rattle.sgl_values.specs.World.{Row, World}
use Rattle.sgl_values.specs.declared.fault.Fault.{Fault}
use Rattle.sgl_values.specs.declared.fault.Val.{Val}
use Rattle.sgl_values.specs.declared.fault.Val.TheVariants.{N, B, F}
use Rattle.sgl_values.specs.declared.item.Item.{Item}
use Rattle.sgl_values.specs.declared.place.Place.{Place}
use Rattle.sgl_typed.specs.declared.schema.Schema.{Schema}
use Rattle.sgl_typed.specs.declared.script.TAction.{TAction}
use Rattle.sgl_typed.specs.declared.script.TOn.{TOn}
use Rattle.sgl_typed.specs.declared.script.TExpr.{TExpr}
use Rattle.sgl_typed.specs.declared.script.TScript.{TScript}
use Rattle.sgl_typed.specs.declared.script.TStmt.{TStmt, Row_of-TStmt, end_of-TStmt, more_of-TStmt}
use Rattle.sgl_typed.specs.declared.script.TStmt.TheVariants.{Let, If', Act, Call}
use Rattle.sgl_typed.specs.declared.script.TWrite.{TWrite}
use Rattle.sgl_typed.specs.Aggregate.{passes, right_sides, simple_value, value}
use Rattle.sgl_typed.specs.Items.{action_items, after, block_items, chosen, clause_given, clause_items, faulty, items, items_of, row_items, rows_items, start, statement_items, tick_items, unit_items, writes, written, by_written, by_priority, priority_of, ranked}
use Rattle.sgl_typed.specs.Value.{Context}
use Rattle.sgl_typed.specs.WellFormed.{Body, action_fits, clause_fits, definition_body, write_fits}
use Rattle.sgl_typed.proofs.Forms.{form_of}
use Rattle.effect_combine.specs.Combined.{IsWithin}

-- ---- the effects that a script writes

-- the effect of a write is below this number
abbrev IsBelow : ℕ → TWrite → Type 0
IsBelow width write = write.effect < width

abbrev ClauseIsBelow : ℕ → TOn → Type 0
ClauseIsBelow width clause = All (IsBelow width) clause.writes

abbrev ActionIsBelow : ℕ → TAction → Type 0
ActionIsBelow width action = All (ClauseIsBelow width) action.ons

below : (n m : ℕ) → nat_lt n m ≡ true → n < m
below n m lt = grind (arith, nat_tests)

write_below : (schema : Schema) (b : Body) (write : TWrite) → write_fits schema b write ≡ true → IsBelow (length schema.effects) write
write_below schema b write fits = below write.effect (length schema.effects) (and_parts _ _ fits).0

clause_below : (schema : Schema) (b : Body) (clause : TOn) → clause_fits schema b clause ≡ true → ClauseIsBelow (length schema.effects) clause
clause_below schema b clause fits =
    All-weaker (λ write. write_fits schema b write ≡ true) (IsBelow (length schema.effects)) (write_below schema b) clause.writes
    (AllPass-from_list_all (write_fits schema b) clause.writes (and_parts _ _ fits).1)

action_below : (schema : Schema) (action : TAction) → action_fits schema action ≡ true → ActionIsBelow (length schema.effects) action
action_below schema action fits =
    let b = definition_body schema action.params in
    All-weaker (λ clause. clause_fits schema b clause ≡ true) (ClauseIsBelow (length schema.effects)) (clause_below schema b) action.ons
    (AllPass-from_list_all (clause_fits schema b) action.ons (and_parts _ _ fits).1)

actions_below : (script : TScript) → All (ActionIsBelow (length script.schema.effects)) script.actions
actions_below script =
    All-weaker (λ action. action_fits script.schema action ≡ true) (ActionIsBelow (length script.schema.effects)) (action_below script.schema) script.actions
    (AllPass-from_list_all (action_fits script.schema) script.actions (form_of script).actions)

-- an element that there is has what each has
if_each : {A : Type 0} (P : A → Type 0) (xs : List A) (i : ℕ) → All P xs → IfSome (slice_get xs i) P
if_each P [] i each = tt
if_each P (x ∷ xs) zero each = All-head P x xs each
if_each P (x ∷ xs) (suc i) each = if_each P xs i (All-tail P x xs each)

module _ (size width : ℕ) where
  abbrev AreWithin : List Item → Type 0
  AreWithin = All (IsWithin size width)

  none_within : AreWithin []
  none_within = All-nil (IsWithin size width)

  faulty_within : (key : ℕ) (fault : Fault) (target : ℕ) → AreWithin (faulty key fault target ∷ [])
  faulty_within key fault target = All-cons (IsWithin size width) (faulty key fault target) [] tt none_within

  both_within : (xs ys : List Item) → AreWithin xs → AreWithin ys → AreWithin (xs ++ ys)
  both_within xs ys = All-append (IsWithin size width) xs ys

  -- ---- one `on` clause

  ranked_within : (c : Context) (row effect : ℕ) (value : ℤ) (place : Place) (priority : Option ℕ) → row < size → effect < width → IsWithin size width (ranked c row effect value place priority)
  ranked_within c row effect value place (Some priority) in_rows below = (in_rows, below)
  ranked_within c row effect value place None in_rows below = tt

  priority_within : (c : Context) (row effect : ℕ) (value : ℤ) (place : Place) (v : Val) → row < size → effect < width → IsWithin size width (by_priority c row effect value place v)
  priority_within c row effect value place (N z) in_rows below = ranked_within c row effect value place (priority_of z) in_rows below
  priority_within c row effect value place (B b) in_rows below = (in_rows, below)
  priority_within c row effect value place (F fault) in_rows below = tt

  by_within : (c : Context) (row effect : ℕ) (value : ℤ) (by : Option (Place × TExpr)) → row < size → effect < width → IsWithin size width (by_written c row effect value by)
  by_within c row effect value None in_rows below = (in_rows, below)
  by_within c row effect value (Some by) in_rows below = priority_within c row effect value by.0 (simple_value c by.1) in_rows below

  written_within : (c : Context) (row : ℕ) (write : TWrite) (v : Val) → row < size → write.effect < width → IsWithin size width (written c row write v)
  written_within c row write (N value) in_rows below = by_within c row write.effect value write.by in_rows below
  written_within c row write (B b) in_rows below = by_within c row write.effect (pos 0) write.by in_rows below
  written_within c row write (F fault) in_rows below = tt

  writes_within : (c : Context) (row : ℕ) (ws : List TWrite) → row < size → All (IsBelow width) ws → AreWithin (writes c row ws)
  writes_within c row ws in_rows below =
      All-map (IsWithin size width) (λ write. written c row write (simple_value c write.amount)) ws
      (All-weaker (IsBelow width) (λ write. IsWithin size width (written c row write (simple_value c write.amount)))
      (λ write lt. written_within c row write (simple_value c write.amount) in_rows lt) ws below)

  row_within : (c : Context) (clause : TOn) (rights : List ℤ) (number : ℕ) (row : Row) → number < size → ClauseIsBelow width clause → AreWithin (row_items c clause rights number row)
  row_within c clause rights number row in_rows below = where_met (passes c.unit clause.tests rights row)
    where
      where_met : (met : Bool) → AreWithin (if met then writes (record c { target = row }) number clause.writes else [])
      where_met true = writes_within (record c { target = row }) number clause.writes in_rows below
      where_met false = none_within

  rows_within : (c : Context) (clause : TOn) (rights : List ℤ) (number : ℕ) (rows : List Row) → number + length rows ≤ size → ClauseIsBelow width clause → AreWithin (rows_items c clause rights number rows)
  rows_within c clause rights number [] in_rows below = none_within
  rows_within c clause rights number (row ∷ rows) in_rows below =
      both_within (row_items c clause rights number row) (rows_items c clause rights (number + 1) rows)
      (row_within c clause rights number row (omega arith) below) (rows_within c clause rights (number + 1) rows (omega arith) below)

  given_within : (c : Context) (clause : TOn) (rights : Result (List ℤ) Fault) → length c.world.rows ≤ size → ClauseIsBelow width clause → AreWithin (clause_given c clause rights)
  given_within c clause (Err fault) in_rows below = faulty_within c.unit.key fault 0
  given_within c clause (Ok rights) in_rows below = rows_within c clause rights 0 c.world.rows (omega arith) below

  clauses_within : (c : Context) (clauses : List TOn) → length c.world.rows ≤ size → All (ClauseIsBelow width) clauses → AreWithin (flat_map (clause_items c) clauses)
  clauses_within c [] in_rows below = none_within
  clauses_within c (clause ∷ clauses) in_rows below =
      both_within (clause_items c clause) (flat_map (clause_items c) clauses)
      (given_within c clause (right_sides c clause.tests) in_rows (All-head (ClauseIsBelow width) clause clauses below))
      (clauses_within c clauses in_rows (All-tail (ClauseIsBelow width) clause clauses below))

  action_within : (c : Context) (action : Option TAction) → length c.world.rows ≤ size → IfSome action (ActionIsBelow width) → AreWithin (action_items c action)
  action_within c None in_rows below = none_within
  action_within c (Some action) in_rows below = clauses_within c action.ons in_rows below

  -- ---- statements

  -- a context of so many rows, whose actions write to effects below the width
  record Suits (c : Context) : Type 0 where
    in_rows : length c.world.rows ≤ size
    below : All (ActionIsBelow width) c.script.actions

  suits_after : (s : TStmt) (c : Context) → Suits c → Suits (after s c)
  suits_after (Let slot e place) c suits = record { in_rows = suits.in_rows; below = suits.below }
  suits_after (If' cond place shape taken shape' other) c suits = suits
  suits_after (Act action args place) c suits = suits
  suits_after (Call routine args places) c suits = suits

  chosen_within : (c : Context) (v : Val) (taken other : List Item) → AreWithin taken → AreWithin other → AreWithin (chosen c v taken other)
  chosen_within c (F fault) taken other first second = faulty_within c.unit.key fault 0
  chosen_within c (B true) taken other first second = first
  chosen_within c (B false) taken other first second = second
  chosen_within c (N n) taken other first second = second

  mutual
    statement_within : (s : TStmt) (c : Context) → Suits c → AreWithin (statement_items s c)
    statement_within (Let slot e place) c suits = none_within
    statement_within (If' cond place shape taken shape' other) c suits =
        chosen_within c (value c cond) (block_items taken c) (block_items other c) (block_within taken c suits) (block_within other c suits)
    statement_within (Act action args place) c suits =
        action_within _ (slice_get c.script.actions action) suits.in_rows (if_each (ActionIsBelow width) c.script.actions action suits.below)
    statement_within (Call routine args places) c suits = none_within

    block_within : {m : _} (block : Row_of-TStmt m) (c : Context) → Suits c → AreWithin (block_items block c)
    block_within end_of-TStmt c suits = none_within
    block_within (more_of-TStmt statement rest) c suits =
        both_within (statement_items statement c) (block_items rest (after statement c))
        (statement_within statement c suits) (block_within rest (after statement c) (suits_after statement c suits))

  items_within : (statements : List TStmt) (c : Context) → Suits c → AreWithin (items statements c)
  items_within [] c suits = none_within
  items_within (statement ∷ rest) c suits =
      both_within (statement_items statement c) (items rest (after statement c))
      (statement_within statement c suits) (items_within rest (after statement c) (suits_after statement c suits))

-- ---- a tick

units_within : (script : TScript) (world : World) (seed : ℕ) (units : List Row) → All (IsWithin (length world.rows) (length script.schema.effects)) (items_of script world seed units)
units_within script world seed [] = none_within (length world.rows) (length script.schema.effects)
units_within script world seed (unit ∷ units) =
    let suits : Suits (length world.rows) (length script.schema.effects) (start script world seed unit) = record { in_rows = omega arith; below = actions_below script } in
    both_within (length world.rows) (length script.schema.effects) (unit_items script world seed unit) (items_of script world seed units)
    (items_within (length world.rows) (length script.schema.effects) script.main (start script world seed unit) suits) (units_within script world seed units)

-- every item of a tick is at a row of the world, and at an effect of the script
pub tick_within : (script : TScript) (world : World) (seed : ℕ) → All (IsWithin (length world.rows) (length script.schema.effects)) (tick_items script world seed)
tick_within script world seed = units_within script world seed world.rows

-- and so are the first of them
pub first_within : (script : TScript) (world : World) (seed limit : ℕ) (first : List Item) → first ≡ take limit (tick_items script world seed)
    → All (IsWithin (length world.rows) (length script.schema.effects)) first
first_within script world seed limit first is =
    subst (All (IsWithin (length world.rows) (length script.schema.effects))) (sym is)
    (All-take (IsWithin (length world.rows) (length script.schema.effects)) limit (tick_items script world seed) (tick_within script world seed))
