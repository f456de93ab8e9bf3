-- What every script keeps: numbers in range, kinds that fit, slots that are read where they are set.
use Rattle.std.specs.Prelude.{ℕ, ◌+◌, ◌==◌, ◌&&◌, nat_lt, nat_le, Bool, true, false, List, [], ◌∷◌, ◌++◌, map, length, slice_get, Option, Some, None, if◌then◌else◌}
use Rattle.std.specs.List.{list_all, sum_by}
use Rattle.sgl_values.specs.declared.operator.BinOp.{BinOp}
use Rattle.sgl_values.specs.declared.operator.BinOp.TheVariants.{Cmp, And, Or}
use Rattle.sgl_values.specs.declared.operator.FoldKind.{FoldKind}
use Rattle.sgl_values.specs.declared.operator.FoldKind.TheVariants.{Count, Nearest}
use Rattle.sgl_values.specs.declared.place.Place.{Place}
use Rattle.sgl_typed.specs.declared.script.Attr.{Attr}
use Rattle.sgl_typed.specs.declared.script.Attr.TheVariants.{Key, Const}
use Rattle.sgl_typed.specs.declared.script.Kind.{Kind}
use Rattle.sgl_typed.specs.declared.script.Kind.TheVariants.{Numeric, Logical}
use Rattle.sgl_typed.specs.declared.schema.Schema.{Schema}
use Rattle.sgl_typed.specs.declared.script.TAction.{TAction}
use Rattle.sgl_typed.specs.declared.script.TAgg.{TAgg}
use Rattle.sgl_typed.specs.declared.script.TExpr.{TExpr, Row_of-TExpr, end_of-TExpr, more_of-TExpr}
use Rattle.sgl_typed.specs.declared.script.TExpr.TheVariants.{Number, Truth, Slot, Unit as OfUnit, Target, Combined, Random, Agg', Neg', Not', Binary'}
use Rattle.sgl_typed.specs.declared.script.TOn.{TOn}
use Rattle.sgl_typed.specs.declared.script.TRoutine.{TRoutine}
use Rattle.sgl_typed.specs.declared.script.TRule.{TRule}
use Rattle.sgl_typed.specs.declared.script.TSpawn.{TSpawn}
use Rattle.sgl_typed.specs.declared.script.TStmt.{TStmt, Row_of-TStmt, end_of-TStmt, more_of-TStmt}
use Rattle.sgl_typed.specs.declared.script.TStmt.TheVariants.{Let, If', Act, Call}
use Rattle.sgl_typed.specs.declared.script.TTest.{TTest}
use Rattle.sgl_typed.specs.declared.script.TTest.TheVariants.{Compare, Within}
use Rattle.sgl_typed.specs.declared.script.TWrite.{TWrite}
use Rattle.sgl_typed.specs.SchemaForm.{differ}
use Rattle.sgl_values.specs.declared.limit.TheConstants.{AGGREGATES_MAX, CLAUSES_MAX, PARAMS_MAX}

-- ---- expressions

-- What an expression of one body may name. Where no call may stand there are no aggregates, and outside `post` no effects.
pub record Body : Type 0 where
  pub consts : ℕ
  pub effects : ℕ
  pub has_target : Bool
  -- the parameters of each aggregate
  pub aggs : List ℕ
  -- the slots in scope, and their kinds
  pub slots : List (ℕ × Kind)

-- the kind of a slot, where it is in scope
abbrev pub slot_kind : ℕ → List (ℕ × Kind) → Option Kind
slot_kind slot [] = None
slot_kind slot ((other, kind) ∷ more) = if slot == other then Some kind else slot_kind slot more

-- the attribute exists
abbrev pub has_attr : Body → Attr → Bool
has_attr b Key = true
has_attr b (Const i) = nat_lt i b.consts

-- the kind, where the test holds
abbrev pub kind_if : Bool → Kind → Option Kind
kind_if false kind = None
kind_if true kind = Some kind

-- there is a kind, and it is that of numbers
abbrev pub is_number : Option Kind → Bool
is_number (Some Numeric) = true
is_number k = false

-- there is a kind, and it is that of truths
abbrev pub is_truth : Option Kind → Bool
is_truth (Some Logical) = true
is_truth k = false

-- the kind of an operation, where those of its operands fit
abbrev pub operation_kind : BinOp → Option Kind → Option Kind → Option Kind
operation_kind And v w = kind_if (is_truth v && is_truth w) Logical
operation_kind Or v w = kind_if (is_truth v && is_truth w) Logical
operation_kind (Cmp op) v w = kind_if (is_number v && is_number w) Logical
operation_kind op v w = kind_if (is_number v && is_number w) Numeric

-- as many numbers as the definition has parameters
abbrev pub fit : Option ℕ → List (Option Kind) → Bool
fit None kinds = false
fit (Some params) kinds = (params == length kinds) && list_all is_number kinds

-- the kind of an expression, or none where it is not well-formed
abbrev mutual
  pub kind_of : Body → TExpr → Option Kind
  kind_of b (Number n) = Some Numeric
  kind_of b (Truth t) = Some Logical
  kind_of b (Slot i) = slot_kind i b.slots
  kind_of b (OfUnit attr) = kind_if (has_attr b attr) Numeric
  kind_of b (Target attr) = kind_if (b.has_target && has_attr b attr) Numeric
  kind_of b (Combined i) = kind_if (nat_lt i b.effects) Numeric
  kind_of b (Random i) = Some Numeric
  kind_of b (Agg' agg shape args place) = kind_if (fit (slice_get b.aggs agg) (kinds_of b args)) Numeric
  kind_of b (Neg' shape (more_of-TExpr inner end_of-TExpr)) = kind_if (is_number (kind_of b inner)) Numeric
  kind_of b (Not' shape (more_of-TExpr inner end_of-TExpr)) = kind_if (is_truth (kind_of b inner)) Logical
  kind_of b (Binary' op shape (more_of-TExpr left end_of-TExpr) shape' (more_of-TExpr right end_of-TExpr) place) =
      operation_kind op (kind_of b left) (kind_of b right)

  pub kinds_of : {m : _} → Body → Row_of-TExpr m → List (Option Kind)
  kinds_of b end_of-TExpr = []
  kinds_of b (more_of-TExpr e rest) = kind_of b e ∷ kinds_of b rest

-- ---- tests, aggregates and actions

-- parameters are slots from this number on
abbrev pub params_from : ℕ → ℕ → List (ℕ × Kind)
params_from number ℕ.zero = []
params_from number (ℕ.suc params) = (number, Numeric) ∷ params_from (number + 1) params

-- what tests and amounts of a definition with so many parameters may name
abbrev pub definition_body : Schema → ℕ → Body
definition_body schema params = record {
  consts = length schema.consts;
  effects = 0;
  has_target = false;
  aggs = [];
  slots = params_from 0 params;
}

-- its attributes exist, and its right side is a number
abbrev pub test_fits : Body → TTest → Bool
test_fits b (Compare attr op right) = has_attr b attr && is_number (kind_of b right)
test_fits b (Within x y radius) = (has_attr b x && has_attr b y) && is_number (kind_of b radius)

-- a count reads no attribute, which is said by the key
abbrev pub fold_fits : FoldKind → Attr → Bool
fold_fits Count Key = true
fold_fits Count (Const i) = false
fold_fits kind attr = true

-- only the nearest reads a second attribute; of other folds it is the key
abbrev pub second_fits : FoldKind → Attr → Bool
second_fits Nearest attr = true
second_fits kind Key = true
second_fits kind (Const i) = false

-- few parameters, attributes that exist, and tests that fit
abbrev pub agg_fits : Schema → TAgg → Bool
agg_fits schema agg =
    let b = definition_body schema agg.params in
    nat_le agg.params PARAMS_MAX && (fold_fits agg.kind agg.attr && second_fits agg.kind agg.second)
    && (has_attr b agg.attr && has_attr b agg.second) && list_all (test_fits b) agg.tests

-- a priority that is written is a number
abbrev pub by_fits : Body → Option (Place × TExpr) → Bool
by_fits b None = true
by_fits b (Some by) = is_number (kind_of b by.1)

-- its effect attribute exists, and its amount and its priority are numbers
abbrev pub write_fits : Schema → Body → TWrite → Bool
write_fits schema b write =
    nat_lt write.effect (length schema.effects)
    && (is_number (kind_of (record b { has_target = true }) write.amount) && by_fits (record b { has_target = true }) write.by)

-- each of its tests and writes fits
abbrev pub clause_fits : Schema → Body → TOn → Bool
clause_fits schema b clause = list_all (test_fits b) clause.tests && list_all (write_fits schema b) clause.writes

-- few parameters, and one or more clauses that fit
abbrev pub action_fits : Schema → TAction → Bool
action_fits schema action =
    nat_le action.params PARAMS_MAX && nat_lt 0 (length action.ons)
    && list_all (clause_fits schema (definition_body schema action.params)) action.ons

-- ---- statements

-- what the statements of one body may call: the number of parameters of each action, and of each routine
pub record Callees : Type 0 where
  pub actions : List ℕ
  pub routines : List ℕ

-- the slots in scope with one more
abbrev pub slots_with : ℕ → Option Kind → List (ℕ × Kind) → List (ℕ × Kind)
slots_with slot None slots = slots
slots_with slot (Some kind) slots = (slot, kind) ∷ slots

-- the body behind a statement
abbrev pub body_behind : TStmt → Body → Body
body_behind (Let slot e place) b = record b { slots = slots_with slot (kind_of b e) b.slots }
body_behind statement b = b

-- there is a kind
abbrev pub is_formed : Option Kind → Bool
is_formed None = false
is_formed (Some kind) = true

-- a statement fits in a body
abbrev mutual
  pub statement_fits : Callees → TStmt → Body → Bool
  statement_fits callees (Let slot e place) b = is_formed (kind_of b e)
  statement_fits callees (If' cond place shape taken shape' other) b =
      is_truth (kind_of b cond) && block_fits callees taken b && block_fits callees other b
  statement_fits callees (Act action args place) b = fit (slice_get callees.actions action) (map (kind_of b) args)
  statement_fits callees (Call routine args places) b =
      fit (slice_get callees.routines routine) (map (kind_of b) args) && (length places == length args)

  pub block_fits : {m : _} → Callees → Row_of-TStmt m → Body → Bool
  block_fits callees end_of-TStmt b = true
  block_fits callees (more_of-TStmt statement rest) b = statement_fits callees statement b && block_fits callees rest (body_behind statement b)

-- each statement fits in the body behind those before it
abbrev pub statements_fit : Callees → List TStmt → Body → Bool
statements_fit callees [] b = true
statements_fit callees (statement ∷ rest) b = statement_fits callees statement b && statements_fit callees rest (body_behind statement b)

-- the slots that statements set
abbrev mutual
  pub slots_set : TStmt → List ℕ
  slots_set (Let slot e place) = slot ∷ []
  slots_set (If' cond place shape taken shape' other) = slots_set_in taken ++ slots_set_in other
  slots_set (Act action args place) = []
  slots_set (Call routine args places) = []

  pub slots_set_in : {m : _} → Row_of-TStmt m → List ℕ
  slots_set_in end_of-TStmt = []
  slots_set_in (more_of-TStmt statement rest) = slots_set statement ++ slots_set_in rest

-- the slots that a list of statements sets
abbrev pub slots_of_all : List TStmt → List ℕ
slots_of_all [] = []
slots_of_all (statement ∷ rest) = slots_set statement ++ slots_of_all rest

-- the slots that routines set, their parameters among them
abbrev pub slots_of_routines : List TRoutine → List ℕ
slots_of_routines [] = []
slots_of_routines (routine ∷ more) = routine.params ++ slots_of_all routine.body ++ slots_of_routines more

-- ---- a script

-- what `main`, or a routine with these slots of parameters, may name
abbrev pub main_body : Schema → List TAgg → List (ℕ × Kind) → Body
main_body schema aggs slots = record {
  consts = length schema.consts;
  effects = 0;
  has_target = false;
  aggs = map (λ agg. agg.params) aggs;
  slots = slots;
}

-- each routine calls only earlier ones; the parameters of these are given
abbrev pub routines_fit : Schema → List TAgg → List TAction → List ℕ → List TRoutine → Bool
routines_fit schema aggs actions earlier [] = true
routines_fit schema aggs actions earlier (routine ∷ more) =
    nat_le (length routine.params) PARAMS_MAX
    && statements_fit (record { actions = map (λ action. action.params) actions; routines = earlier }) routine.body
    (main_body schema aggs (map (λ slot. (slot, Numeric)) routine.params))
    && routines_fit schema aggs actions (earlier ++ length routine.params ∷ []) more

-- what `post` may name
abbrev pub post_body : Schema → Body
post_body schema = record { consts = length schema.consts; effects = length schema.effects; has_target = false; aggs = []; slots = [] }

-- numbers are assigned to attributes that exist, to none twice
abbrev pub rules_fit : Schema → List TRule → Bool
rules_fit schema rules =
    list_all (λ rule. nat_lt rule.attr (length schema.consts) && is_number (kind_of (post_body schema) rule.value)) rules
    && differ (map (λ rule. rule.attr) rules)

-- `spawn when` is a truth, and the rules of its block fit by themselves
abbrev pub spawn_fits : Schema → Option TSpawn → Bool
spawn_fits schema None = true
spawn_fits schema (Some spawn) = is_truth (kind_of (post_body schema) spawn.cond) && rules_fit schema spawn.rules

-- `remove when` is a truth
abbrev pub removal_fits : Schema → Option TExpr → Bool
removal_fits schema None = true
removal_fits schema (Some e) = is_truth (kind_of (post_body schema) e)

-- each slot is set at one place, and is below the number of slots
abbrev pub slots_fit : List TRoutine → List TStmt → ℕ → Bool
slots_fit routines main slots =
    let set = slots_of_routines routines ++ slots_of_all main in
    differ set && list_all (λ slot. nat_lt slot slots) set

-- all that a script keeps
unfoldable pub is_well_formed : Schema → List TAgg → List TAction → List TRoutine → List TStmt → ℕ → List TRule → Option TSpawn → Option TExpr → Bool
is_well_formed schema aggs actions routines main slots rules spawn removal =
    nat_le (length aggs) AGGREGATES_MAX
    && nat_le (sum_by (λ action. length action.ons) actions) CLAUSES_MAX
    && list_all (agg_fits schema) aggs
    && list_all (action_fits schema) actions
    && routines_fit schema aggs actions [] routines
    && statements_fit (record { actions = map (λ action. action.params) actions; routines = map (λ routine. length routine.params) routines }) main (main_body schema aggs [])
    && slots_fit routines main slots
    && rules_fit schema rules
    && spawn_fits schema spawn
    && removal_fits schema removal
