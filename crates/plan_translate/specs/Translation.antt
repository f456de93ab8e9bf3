-- The plan of a script's statements.
use Rattle.std.specs.Prelude.{ℕ, ◌+◌, List, [], ◌∷◌, ◌++◌, slice_get, Option, Some, None}
use Rattle.sgl_values.specs.declared.place.Place.{Place}
use Rattle.sgl_typed.specs.declared.script.TAction.{TAction}
use Rattle.sgl_typed.specs.declared.script.TExpr.{TExpr}
use Rattle.sgl_typed.specs.declared.script.TOn.{TOn}
use Rattle.sgl_typed.specs.declared.script.TScript.{TScript}
use Rattle.sgl_typed.specs.declared.script.TStmt.{TStmt, Row_of-TStmt, end_of-TStmt, more_of-TStmt}
use Rattle.sgl_typed.specs.declared.script.TStmt.TheVariants.{Let, If', Act, Call}
use Rattle.plan_translate.specs.Calls.{Lifted, calls_in, lifted, lifted_calls}
use Rattle.battle_algebra.specs.Tree.{Tree, Nothing, Extended, Counted, Parted, Acting, Joined}
use Rattle.battle_algebra.specs.declared.plan.EffectWay.TheVariants as effect_way
use Rattle.battle_algebra.specs.declared.plan.Way.TheVariants as way

-- ---- lists of arguments

abbrev pub calls_in_list : List TExpr → ℕ
calls_in_list [] = 0
calls_in_list (e ∷ es) = calls_in e + calls_in_list es

abbrev pub lifted_list : List TExpr → ℕ → List TExpr
lifted_list [] next = []
lifted_list (e ∷ es) next = lifted e next ∷ lifted_list es (next + calls_in e)

abbrev pub lifted_calls_list : List TExpr → ℕ → List Lifted
lifted_calls_list [] next = []
lifted_calls_list (e ∷ es) next = lifted_calls e next ++ lifted_calls_list es (next + calls_in e)

-- ---- statements

-- the calls first, each in a node of its own
abbrev pub with_calls : List Lifted → Tree → Tree
with_calls [] tree = tree
with_calls (lifting ∷ more) tree = Counted lifting.slot lifting.call way.Scan (with_calls more tree)

-- a clause of an action, or the clauses from this number on
abbrev pub clauses : List TOn → ℕ → ℕ → List TExpr → Place → Tree
clauses [] clause action args place = Nothing
clauses (on ∷ []) clause action args place =
    Acting (record { action = action; clause = clause; args = args; place = place }) effect_way.Scan
clauses (on ∷ next ∷ more) clause action args place =
    Joined (Acting (record { action = action; clause = clause; args = args; place = place }) effect_way.Scan)
    (clauses (next ∷ more) (clause + 1) action args place)

abbrev pub clauses_in : Option TAction → List TOn
clauses_in None = []
clauses_in (Some action) = action.ons

-- a statement that is the last stands alone
abbrev pub followed : {m : _} → Row_of-TStmt m → Tree → Tree → Tree
followed end_of-TStmt tree rest = tree
followed (more_of-TStmt statement more) tree rest = Joined tree rest

abbrev mutual
  pub calls_of : TStmt → ℕ
  calls_of (Let slot e place) = calls_in e
  calls_of (If' cond place shape taken shape' other) = calls_in cond + (calls_of_block taken + calls_of_block other)
  calls_of (Act action args place) = calls_in_list args
  calls_of (Call routine args places) = 0

  pub calls_of_block : {m : _} → Row_of-TStmt m → ℕ
  calls_of_block end_of-TStmt = 0
  calls_of_block (more_of-TStmt statement rest) = calls_of statement + calls_of_block rest

-- the actions, the number of the first free slot, and how the rest is put behind
abbrev mutual
  pub statement_tree : List TAction → TStmt → ℕ → (Tree → Tree → Tree) → Tree → Tree
  statement_tree actions (Let slot e place) next behind rest =
      with_calls (lifted_calls e next) (Extended slot (lifted e next) place rest)
  statement_tree actions (If' cond place shape taken shape' other) next behind rest =
      behind
      (with_calls (lifted_calls cond next)
      (Parted (lifted cond next) place (block_tree actions taken (next + calls_in cond))
      (block_tree actions other (next + calls_in cond + calls_of_block taken))))
      rest
  statement_tree actions (Act action args place) next behind rest =
      behind
      (with_calls (lifted_calls_list args next) (clauses (clauses_in (slice_get actions action)) 0 action (lifted_list args next) place))
      rest
  statement_tree actions (Call routine args places) next behind rest = behind Nothing rest

  pub block_tree : {m : _} → List TAction → Row_of-TStmt m → ℕ → Tree
  block_tree actions end_of-TStmt next = Nothing
  block_tree actions (more_of-TStmt statement rest) next =
      statement_tree actions statement next (followed rest) (block_tree actions rest (next + calls_of statement))

-- ---- a list of statements

abbrev pub followed_by : List TStmt → Tree → Tree → Tree
followed_by [] tree rest = tree
followed_by (statement ∷ more) tree rest = Joined tree rest

abbrev pub calls_of_all : List TStmt → ℕ
calls_of_all [] = 0
calls_of_all (statement ∷ rest) = calls_of statement + calls_of_all rest

abbrev pub translated : List TAction → List TStmt → ℕ → Tree
translated actions [] next = Nothing
translated actions (statement ∷ rest) next =
    statement_tree actions statement next (followed_by rest) (translated actions rest (next + calls_of statement))

-- the plan of a script as a tree, and how many slots it has
abbrev pub translation : TScript → Tree
translation script = translated script.actions script.main script.slots

abbrev pub translation_slots : TScript → ℕ
translation_slots script = script.slots + calls_of_all script.main

-- ---- parts, for the code

-- what a statement gives by itself
abbrev pub alone : List TAction → TStmt → ℕ → Tree
alone actions statement next = statement_tree actions statement next (followed_by []) Nothing

-- a statement with others behind it
abbrev pub before : List TAction → TStmt → ℕ → Tree → Tree
before actions statement next rest = statement_tree actions statement next Joined rest
