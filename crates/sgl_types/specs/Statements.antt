-- Statements: their broken rules, and their resolved form.
use Rattle.std.specs.Prelude.{ℕ, ◌+◌, ◌||◌, Bool, true, false, bytes_eq, is_some, List, [], ◌∷◌, ◌++◌, map, length, Option, Some, None, if◌then◌else◌}
use Rattle.sgl_values.specs.declared.place.Place.{Place}
use Rattle.sgl_values.specs.Totals.{total}
use Rattle.sgl_tree.specs.declared.expression.Name.{Name}
use Rattle.sgl_tree.specs.declared.expression.Expr.{Expr}
use Rattle.sgl_tree.specs.declared.statement.Stmt.{Stmt, Row_of-Stmt, end_of-Stmt, more_of-Stmt}
use Rattle.sgl_tree.specs.declared.statement.Stmt.TheVariants.{Let, If', Perform}
use Rattle.sgl_typed.specs.declared.script.Kind.{Kind}
use Rattle.sgl_typed.specs.declared.script.Kind.TheVariants.{Logical}
use Rattle.sgl_typed.specs.declared.script.TExpr.{TExpr}
use Rattle.sgl_typed.specs.declared.script.TStmt.{TStmt}
use Rattle.sgl_typed.specs.declared.script.TStmt.TheVariants as made
use Rattle.sgl_types.specs.declared.bodies.Body.{Body}
use Rattle.sgl_types.specs.declared.declared.Declared.{Declared}
use Rattle.sgl_types.specs.declared.bodies.Local.{Local}
use Rattle.sgl_types.specs.declared.statements.Performed.{Performed}
use Rattle.sgl_types.specs.declared.statements.Performed.TheVariants.{Action, Routine, Later, Unknown}
use Rattle.sgl_types.specs.declared.finding.Finding.{Finding}
use Rattle.sgl_types.specs.Rules.{unknown_name, used_before_defined, twice, wrong_count}
use Rattle.sgl_types.specs.Scope.{Scope, find_local, definition_of, may_be_performed, scope_of}
use Rattle.sgl_types.specs.Faults.{kind_of, place_of, operand_faults, numbers_faults, faults}
use Rattle.sgl_types.specs.Typed.{typed}

-- where a statement stands, with the number of the next slot
pub record Standing : Type 0 where
  pub scope : Scope
  pub next : ℕ

abbrev pub standing : Body → List Local → ℕ → Standing
standing body locals next = record { scope = scope_of body locals; next = next }

-- ---- lets

abbrev mutual
  pub lets_of : Stmt → ℕ
  lets_of (Let name value) = 1
  lets_of (If' cond shape taken shape' other) = lets_in taken + lets_in other
  lets_of (Perform place name unit args) = 0

  pub lets_in : {m : _} → Row_of-Stmt m → ℕ
  lets_in end_of-Stmt = 0
  lets_in (more_of-Stmt statement rest) = lets_of statement + lets_in rest

abbrev pub lets : List Stmt → ℕ
lets statements = total (λ m n. m + n) 0 lets_of statements

abbrev pub is_local : Scope → List ℕ → Bool
is_local s name = bytes_eq name s.unit || is_some (find_local name s.locals)

abbrev pub with_local : Scope → List ℕ → ℕ → Kind → Scope
with_local s name slot kind = record s { locals = s.locals ++ record { name = name; slot = slot; kind = kind } ∷ [] }

abbrev pub past : ℕ → Standing → Standing
past lets t = record { scope = t.scope; next = lets + t.next }

-- where the next statement stands
abbrev pub behind : Stmt → Standing → Standing
behind (Let name value) t = record { scope = with_local t.scope name.text t.next (kind_of t.scope value); next = 1 + t.next }
behind (If' cond shape taken shape' other) t = past (lets_in other) (past (lets_in taken) t)
behind (Perform place name unit args) t = t

-- what each of a list of statements gives where it stands
abbrev pub along : {A : Type 0} → (Stmt → Standing → List A) → List Stmt → Standing → List A
along given [] t = []
along given (statement ∷ rest) t = given statement t ++ along given rest (behind statement t)

-- ---- what a statement may perform

abbrev pub routine_or : Performed → Option (ℕ × ℕ) → Performed
routine_or other None = other
routine_or other (Some p) = Routine p.0 p.1

abbrev pub action_or : Performed → Option (ℕ × ℕ) → Performed
action_or other None = other
action_or other (Some p) = Action p.0 p.1

abbrev pub performed_of : Declared → Declared → List ℕ → Performed
performed_of all earlier name =
    action_or (routine_or (if may_be_performed all name then Later else Unknown) (definition_of name earlier.routines)) (definition_of name earlier.actions)

abbrev pub performed_faults : ℕ → Place → Performed → List Finding
performed_faults args place (Action number params) = wrong_count args params place
performed_faults args place (Routine number params) = wrong_count args params place
performed_faults args place Later = used_before_defined true place
performed_faults args place Unknown = unknown_name false place

-- a call of a routine keeps the places of its arguments
abbrev pub performing : Performed → List TExpr → List Place → Place → TStmt
performing (Action number params) args places place = made.Act number args place
performing (Routine number params) args places place = made.Call number args places
performing performed args places place = made.Act 0 args place

-- ---- statements

abbrev pub let_faults : Standing → Name → Expr → List Finding
let_faults t name value = faults t.scope value ++ twice (is_local t.scope name.text) name.place

abbrev pub perform_faults : Standing → Name → Name → List Expr → List Finding
perform_faults t name unit args =
    performed_faults (length args) name.place (performed_of t.scope.all t.scope.earlier name.text)
    ++ unknown_name (bytes_eq unit.text t.scope.unit) unit.place ++ numbers_faults t.scope args

abbrev mutual
  pub statement_faults : Stmt → Standing → List Finding
  statement_faults (Let name value) t = let_faults t name value
  statement_faults (If' cond shape taken shape' other) t =
      operand_faults Logical t.scope cond ++ block_faults taken t ++ block_faults other (past (lets_in taken) t)
  statement_faults (Perform place name unit args) t = perform_faults t name unit args

  pub block_faults : {m : _} → Row_of-Stmt m → Standing → List Finding
  block_faults end_of-Stmt t = []
  block_faults (more_of-Stmt statement rest) t = statement_faults statement t ++ block_faults rest (behind statement t)

abbrev pub statements_faults : List Stmt → Standing → List Finding
statements_faults statements t = along statement_faults statements t

abbrev mutual
  pub typed_statement : Stmt → Standing → TStmt
  typed_statement (Let name value) t = made.Let t.next (typed t.scope value) (place_of value)
  typed_statement (If' cond shape taken shape' other) t =
      made.If (typed t.scope cond) (place_of cond) (typed_block taken t) (typed_block other (past (lets_in taken) t))
  typed_statement (Perform place name unit args) t =
      performing (performed_of t.scope.all t.scope.earlier name.text) (map (typed t.scope) args) (map place_of args) place

  pub typed_block : {m : _} → Row_of-Stmt m → Standing → List TStmt
  typed_block end_of-Stmt t = []
  typed_block (more_of-Stmt statement rest) t = typed_statement statement t ∷ typed_block rest (behind statement t)

abbrev pub typed_statements : List Stmt → Standing → List TStmt
typed_statements statements t = along (λ statement t. typed_statement statement t ∷ []) statements t
