-- A walk over the statements of a block.
use Rattle.std.proofs.Common.{◌≡◌, ℕ, ◌+◌, ◌<◌, ◌≤◌, List, [], ◌∷◌, ◌++◌, length, take, drop, get_or, Option, refl, ap, sym, ◌∙◌, append-nil, subst, arith}
use Rattle.std.proofs.lemmas.List.{drop_all, append_assoc}
use Rattle.std.proofs.Math.Seq.{take-append_seam}
use denote.Hole.Carrier.{hidden}
use Rattle.sgl_values.specs.declared.place.Place.{Place}
use Rattle.sgl_tree.specs.declared.expression.Expr.{Expr}
use Rattle.sgl_tree.specs.declared.statement.Stmt.{Stmt}
use Rattle.sgl_tree.specs.declared.statement.Stmt.TheVariants.{Let, If, If', Perform}
use Rattle.sgl_tree.specs.declared.statement.Stmt.TheBlock.{shape-the_row-Stmt-0, hidden-the_row-Stmt-0}
use Rattle.sgl_typed.specs.declared.script.Kind.TheVariants.{Logical}
use Rattle.sgl_typed.specs.declared.script.TExpr.{TExpr}
use Rattle.sgl_typed.specs.declared.script.TStmt.{TStmt}
use Rattle.sgl_typed.specs.declared.script.TStmt.TheVariants as made
use Rattle.sgl_types.specs.declared.bodies.Body.{Body}
use Rattle.sgl_types.specs.declared.bodies.Local.{Local}
use Rattle.sgl_types.specs.declared.finding.Finding.{Finding}
use Rattle.sgl_types.specs.declared.statements.Progress.{Progress}
use Rattle.sgl_types.specs.Findings.{noted}
use Rattle.sgl_types.specs.Faults.{kind_of, place_of, operand_faults}
use Rattle.sgl_types.specs.Scope.{scope_of}
use Rattle.sgl_types.specs.Typed.{typed}
use Rattle.sgl_types.specs.Statements.{Standing, standing, behind, past, lets, lets_in, lets_of, statement_faults, block_faults, statements_faults, typed_statement, typed_block, typed_statements}
use Rattle.sgl_types.proofs.Arms.{at-next, then}
use Rattle.sgl_types.proofs.Equations.{noted-append}

-- ---- the equations of `if`

lets-hidden : (ss : List Stmt) → lets_in (hidden-the_row-Stmt-0 ss) ≡ lets ss
unfolding shape-the_row-Stmt-0 hidden-the_row-Stmt-0 hidden
lets-hidden [] = refl
lets-hidden (s ∷ ss) = ap (λ n. lets_of s + n) (lets-hidden ss)

faults-hidden : (ss : List Stmt) (t : Standing) → block_faults (hidden-the_row-Stmt-0 ss) t ≡ statements_faults ss t
unfolding shape-the_row-Stmt-0 hidden-the_row-Stmt-0 hidden
faults-hidden [] t = refl
faults-hidden (s ∷ ss) t = ap (λ fs. statement_faults s t ++ fs) (faults-hidden ss (behind s t))

typed-hidden : (ss : List Stmt) (t : Standing) → typed_block (hidden-the_row-Stmt-0 ss) t ≡ typed_statements ss t
unfolding shape-the_row-Stmt-0 hidden-the_row-Stmt-0 hidden
typed-hidden [] t = refl
typed-hidden (s ∷ ss) t = ap (λ ms. typed_statement s t ∷ ms) (typed-hidden ss (behind s t))

pub behind-If : (t : Standing) (cond : Expr) (taken other : List Stmt) → behind (If cond taken other) t ≡ past (lets other) (past (lets taken) t)
unfolding shape-the_row-Stmt-0 hidden-the_row-Stmt-0 hidden
behind-If t cond taken other = λ i. past (lets-hidden other i) (past (lets-hidden taken i) t)

pub faults-If : (t : Standing) (cond : Expr) (taken other : List Stmt)
    → statement_faults (If cond taken other) t ≡ operand_faults Logical t.scope cond ++ statements_faults taken t ++ statements_faults other (past (lets taken) t)
unfolding shape-the_row-Stmt-0 hidden-the_row-Stmt-0 hidden
faults-If t cond taken other =
    (λ i. operand_faults Logical t.scope cond ++ faults-hidden taken t i ++ block_faults (hidden-the_row-Stmt-0 other) (past (lets-hidden taken i) t))
    ∙ ap (λ fs. operand_faults Logical t.scope cond ++ statements_faults taken t ++ fs) (faults-hidden other (past (lets taken) t))

pub typed-If : (t : Standing) (cond : Expr) (taken other : List Stmt)
    → typed_statement (If cond taken other) t ≡ made.If (typed t.scope cond) (place_of cond) (typed_statements taken t) (typed_statements other (past (lets taken) t))
unfolding shape-the_row-Stmt-0 hidden-the_row-Stmt-0 hidden
typed-If t cond taken other =
    (λ i. made.If (typed t.scope cond) (place_of cond) (typed-hidden taken t i) (typed_block (hidden-the_row-Stmt-0 other) (past (lets-hidden taken i) t)))
    ∙ ap (λ ms. made.If (typed t.scope cond) (place_of cond) (typed_statements taken t) ms) (typed-hidden other (past (lets taken) t))

-- ---- the parts of an `if`

-- the first block begins where the `if` does
same-standing : (body : Body) (p q : Progress) → q.locals ≡ p.locals → q.next ≡ p.next → standing body q.locals q.next ≡ standing body p.locals p.next
same-standing body p q locals-are next-is = λ i. standing body (locals-are i) (next-is i)

-- the second begins past the first
past-standing : (body : Body) (p q r : Progress) (taken taken' : List Stmt) → taken' ≡ taken → q.locals ≡ p.locals → q.next ≡ p.next → r.locals ≡ q.locals → r.next ≡ lets taken' + q.next
    → standing body r.locals r.next ≡ past (lets taken) (standing body p.locals p.next)
past-standing body p q r taken taken' is q-locals q-next r-locals r-next = λ i. standing body ((r-locals ∙ q-locals) i) ((r-next ∙ (λ j. lets (is j) + q-next j)) i)

-- what is made and found of an `if` is that of its parts, each where it begins
pub checked-If : (body : Body) (p q r : Progress) {s : Stmt} (cond : Expr) (taken other taken' other' : List Stmt) {m : TExpr} {place : Place} {ms ns : List TStmt} {found : Option Finding}
    → s ≡ If cond taken other → taken' ≡ taken → other' ≡ other → q.locals ≡ p.locals → q.next ≡ p.next → r.locals ≡ q.locals → r.next ≡ lets taken' + q.next
    → m ≡ typed (scope_of body p.locals) cond → place ≡ place_of cond → ms ≡ typed_statements taken' (standing body q.locals q.next) → ns ≡ typed_statements other' (standing body r.locals r.next)
    → q.found ≡ noted p.found (operand_faults Logical (scope_of body p.locals) cond) → r.found ≡ noted q.found (statements_faults taken' (standing body q.locals q.next)) → found ≡ noted r.found (statements_faults other' (standing body r.locals r.next))
    → (made.If m place ms ns ≡ typed_statement s (standing body p.locals p.next)) × (found ≡ noted p.found (statement_faults s (standing body p.locals p.next)))
checked-If body p q r cond taken other taken' other' is taken-is other-is q-locals q-next r-locals r-next m-is place-is ms-is ns-is q-found r-found found-is =
    let t = standing body p.locals p.next in
    let first = same-standing body p q q-locals q-next in
    let second = past-standing body p q r taken taken' taken-is q-locals q-next r-locals r-next in (
      (λ i. made.If (m-is i) (place-is i) ((ms-is ∙ (λ j. typed_statements (taken-is j) (first j))) i) ((ns-is ∙ (λ j. typed_statements (other-is j) (second j))) i))
          ∙ sym (ap (λ s. typed_statement s t) is ∙ typed-If t cond taken other),
      then p.found (operand_faults Logical t.scope cond ++ statements_faults taken t) (statements_faults other (past (lets taken) t))
          (then p.found (operand_faults Logical t.scope cond) (statements_faults taken t) q-found (r-found ∙ (λ j. noted q.found (statements_faults (taken-is j) (first j)))))
          (found-is ∙ (λ j. noted r.found (statements_faults (other-is j) (second j))))
          ∙ sym (ap (noted p.found) (ap (λ s. statement_faults s t) is ∙ faults-If t cond taken other)),
    )

-- ---- the walk

-- what the statements that are left add leads to what all of them do
pub record Walks (start : Standing) (first : Option Finding) (all : List Stmt) (now : Standing) (found : Option Finding) (so_far : List TStmt) (rest : List Stmt) : Type 0 where
  pub finds : noted found (statements_faults rest now) ≡ noted first (statements_faults all start)
  pub makes : so_far ++ typed_statements rest now ≡ typed_statements all start
  pub counts : lets rest + now.next ≡ lets all + start.next
  pub added : List Local
  pub keeps : now.scope.locals ≡ start.scope.locals ++ added

pub begins : (start : Standing) (first : Option Finding) (all : List Stmt) → Walks start first all start first [] all
begins start first all = record { finds = refl; makes = refl; counts = refl; added = []; keeps = sym (append-nil start.scope.locals) }

shuffled : (a b c : ℕ) → b + (a + c) ≡ (a + b) + c
shuffled a b c = omega arith

none : (n : ℕ) → n ≡ 0 + n
none n = omega arith

pub behind-next : (s : Stmt) (t : Standing) → (behind s t).next ≡ lets_of s + t.next
behind-next (Let name value) t = refl
behind-next (If' cond shape taken shape' other) t = shuffled (lets_in taken) (lets_in other) t.next
behind-next (Perform place name unit args) t = none t.next

pub record Adds (s : Stmt) (t : Standing) : Type 0 where
  pub more : List Local
  pub adds : (behind s t).scope.locals ≡ t.scope.locals ++ more

behind-locals : (s : Stmt) (t : Standing) → Adds s t
behind-locals (Let name value) t = record { more = record { name = name.text; slot = t.next; kind = kind_of t.scope value } ∷ []; adds = refl }
behind-locals (If' cond shape taken shape' other) t = record { more = []; adds = sym (append-nil t.scope.locals) }
behind-locals (Perform place name unit args) t = record { more = []; adds = sym (append-nil t.scope.locals) }

-- one more statement
step : (start : Standing) (first : Option Finding) (all : List Stmt) (t t' : Standing) (found found' : Option Finding) (so_far so_far' : List TStmt) (s : Stmt) (m : TStmt) (rest : List Stmt)
    → t' ≡ behind s t → found' ≡ noted found (statement_faults s t) → m ≡ typed_statement s t → so_far' ≡ so_far ++ m ∷ []
    → Walks start first all t found so_far (s ∷ rest) → Walks start first all t' found' so_far' rest
step start first all t t' found found' so_far so_far' s m rest t-is found-is m-is so_far-is w = record {
  finds = (λ i. noted (found-is i) (statements_faults rest (t-is i))) ∙ sym (noted-append found (statement_faults s t) (statements_faults rest (behind s t))) ∙ w.finds;
  makes = (λ i. so_far-is i ++ typed_statements rest (t-is i)) ∙ append_assoc so_far (m ∷ []) (typed_statements rest (behind s t)) ∙ ap (λ m. so_far ++ m ∷ typed_statements rest (behind s t)) m-is ∙ w.makes;
  counts = ap (λ t. lets rest + t.next) t-is ∙ ap (λ n. lets rest + n) (behind-next s t) ∙ shuffled (lets_of s) (lets rest) t.next ∙ w.counts;
  added = w.added ++ (behind-locals s t).more;
  keeps = ap (λ t. t.scope.locals) t-is ∙ (behind-locals s t).adds ∙ ap (λ ls. ls ++ (behind-locals s t).more) w.keeps ∙ append_assoc start.scope.locals w.added (behind-locals s t).more;
}

-- one more statement of a list, at this index
pub walked : (start : Standing) (first : Option Finding) (all : List Stmt) (t t' : Standing) (found found' : Option Finding) (so_far so_far' : List TStmt) (s : Stmt) (m : TStmt) (i : ℕ)
    → i < length all → s ≡ get_or all i s → t' ≡ behind s t → found' ≡ noted found (statement_faults s t) → m ≡ typed_statement s t → so_far' ≡ so_far ++ m ∷ []
    → Walks start first all t found so_far (drop i all) → Walks start first all t' found' so_far' (drop (i + 1) all)
walked start first all t t' found found' so_far so_far' s m i lt is t-is found-is m-is so_far-is w =
    step start first all t t' found found' so_far so_far' s m (drop (i + 1) all) t-is found-is m-is so_far-is
    (subst (λ rest. Walks start first all t found so_far rest) (at-next all i s lt is) w)

-- ---- at the end of a block

pub ends : (start : Standing) (first : Option Finding) (all : List Stmt) (t : Standing) (found : Option Finding) (so_far : List TStmt) (i : ℕ)
    → length all ≤ i → Walks start first all t found so_far (drop i all) → Walks start first all t found so_far []
ends start first all t found so_far i le w = subst (λ rest. Walks start first all t found so_far rest) (drop_all i all le) w

pub kept : {start : Standing} {first : Option Finding} {all : List Stmt} {t : Standing} {found : Option Finding} {so_far : List TStmt} {rest : List Stmt}
    → Walks start first all t found so_far rest → take (length start.scope.locals) t.scope.locals ≡ start.scope.locals
kept {start = start} w = ap (take (length start.scope.locals)) w.keeps ∙ take-append_seam start.scope.locals w.added

pub made-all : {start : Standing} {first : Option Finding} {all : List Stmt} {t : Standing} {found : Option Finding} {so_far : List TStmt}
    → Walks start first all t found so_far [] → so_far ≡ typed_statements all start
made-all {so_far = so_far} w = sym (append-nil so_far) ∙ w.makes
