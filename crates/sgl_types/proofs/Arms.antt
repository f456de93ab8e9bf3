-- The steps of a check, over plain variables.
use Rattle.std.proofs.Common.{◌≡◌, ℕ, ◌+◌, ◌<◌, List, [], ◌∷◌, ◌++◌, ◌==◌, length, map, flat_map, take, drop, get_or, Option, refl, ap, sym, ◌∙◌, add-one, drop-cons}
use Rattle.std.proofs.lemmas.List.{map_more}
use Rattle.sgl_values.specs.declared.place.Place.{Place}
use Rattle.sgl_tree.specs.declared.expression.Expr.{Expr}
use Rattle.sgl_tree.specs.declared.expression.Name.{Name}
use Rattle.sgl_tree.specs.declared.item.Fold.{Fold}
use Rattle.sgl_tree.specs.declared.item.Literal.{Literal}
use Rattle.sgl_tree.specs.declared.item.OnClause.{OnClause}
use Rattle.sgl_tree.specs.declared.item.Test.{Test}
use Rattle.sgl_typed.specs.declared.script.TExpr.{TExpr}
use Rattle.sgl_types.specs.declared.bodies.Part.TheVariants.{Test as TestSide}
use Rattle.sgl_types.specs.declared.finding.Finding.{Finding}
use Rattle.sgl_types.specs.declared.finding.TypeKind.TheVariants.{TooMany}
use Rattle.sgl_types.specs.Findings.{noted}
use Rattle.sgl_types.specs.Items.{Setting, definition_scope, definition_faults, row_faults, fold_attrs_faults, else_faults, tests_faults, aggregate_faults, clause_faults, clauses_faults}
use Rattle.sgl_types.specs.Scope.{Scope}
use Rattle.sgl_types.specs.Faults.{faults}
use Rattle.sgl_types.specs.Rules.{fault_if}
use Rattle.sgl_types.specs.Typed.{typed}
use Rattle.sgl_types.proofs.Equations.{noted-append}

pub found-by : (s : Scope) {e e' : Expr} (old : Option Finding) {fs : List Finding} {new : Option Finding} → e ≡ e' → faults s e' ≡ fs → new ≡ noted old fs → new ≡ noted old (faults s e)
found-by s old is equation found = found ∙ sym (ap (noted old) (ap (faults s) is ∙ equation))

pub made-by : (s : Scope) {e e' : Expr} {v w : TExpr} → e ≡ e' → typed s e' ≡ w → v ≡ w → v ≡ typed s e
made-by s is equation made = made ∙ sym (ap (typed s) is ∙ equation)

pub then : (old : Option Finding) (fs gs : List Finding) {first second : Option Finding} → first ≡ noted old fs → second ≡ noted first gs → second ≡ noted old (fs ++ gs)
then old fs gs first second = second ∙ ap (λ f. noted f gs) first ∙ sym (noted-append old fs gs)

-- one more element of a list that is made of another
pub made-more : {A B : Type 0} (f : A → B) (xs : List A) (i : ℕ) (x : A) {made now : List B} {v : B}
    → i < length xs → x ≡ get_or xs i x → v ≡ f x → now ≡ made ++ v ∷ [] → made ≡ map f (take i xs)
    → now ≡ map f (take (i + 1) xs)
made-more f xs i x lt is v-is now-is made-is =
    now-is ∙ (λ j. made-is j ++ (v-is ∙ ap f is) j ∷ []) ∙ sym (map_more f xs i x lt)

-- what is left of a list at this index
pub at-next : {A : Type 0} (xs : List A) (i : ℕ) (x : A) → i < length xs → x ≡ get_or xs i x → drop i xs ≡ x ∷ drop (i + 1) xs
at-next xs i x lt is = rw (add-one, drop-cons xs i x, ← is) refl

-- one more element of a list that is checked one by one, at this index
pub found-more : {A : Type 0} (rules : A → List Finding) (xs : List A) (i : ℕ) (x : A) (before : Option Finding) {after all : Option Finding}
    → i < length xs → x ≡ get_or xs i x → after ≡ noted before (rules x)
    → noted before (flat_map rules (drop i xs)) ≡ all → noted after (flat_map rules (drop (i + 1) xs)) ≡ all
found-more rules xs i x before lt is after-is all-is =
    ap (λ f. noted f (flat_map rules (drop (i + 1) xs))) after-is
    ∙ sym (noted-append before (rules x) (flat_map rules (drop (i + 1) xs)))
    ∙ sym (ap (λ left. noted before (flat_map rules left)) (at-next xs i x lt is)) ∙ all-is

-- one more clause of an action, at this index
pub clause-more : (g : Setting) (params : List Name) (many : ℕ) (ons : List OnClause) (i : ℕ) (clause : OnClause) (before : Option Finding) {counted checked all : Option Finding} {next : ℕ}
    → i < length ons → clause ≡ get_or ons i clause → counted ≡ noted before (fault_if (many == 64) TooMany clause.place) → checked ≡ noted counted (clause_faults g params clause) → next ≡ many + 1
    → noted before (clauses_faults g params many (drop i ons)) ≡ all → noted checked (clauses_faults g params next (drop (i + 1) ons)) ≡ all
clause-more g params many ons i clause before lt is counted-is checked-is next-is all-is =
    (λ j. noted (then before (fault_if (many == 64) TooMany clause.place) (clause_faults g params clause) counted-is checked-is j) (clauses_faults g params (next-is j) (drop (i + 1) ons)))
    ∙ sym (noted-append before (fault_if (many == 64) TooMany clause.place ++ clause_faults g params clause) (clauses_faults g params (many + 1) (drop (i + 1) ons)))
    ∙ sym (ap (λ ons. noted before (clauses_faults g params many ons)) (at-next ons i clause lt is)) ∙ all-is

-- the parts of an aggregate, in the order of the check
pub aggregate-found : (g : Setting) (s : Scope) (name : Name) (params : List Name) (fold : Fold) (tests : List Test) (otherwise : Option (Place × Literal)) (old : Option Finding)
    {named full row attrs other all : Option Finding} → s ≡ definition_scope g TestSide params fold.row.text
    → named ≡ noted old (definition_faults g name params) → full ≡ noted named (fault_if (length g.earlier.aggs == 64) TooMany name.place) → row ≡ noted full (row_faults s fold.row)
    → attrs ≡ noted row (fold_attrs_faults g fold) → other ≡ noted attrs (else_faults fold.kind fold.place otherwise) → all ≡ noted other (tests_faults s tests)
    → all ≡ noted old (aggregate_faults g name params fold tests otherwise)
aggregate-found g s name params fold tests otherwise old {full = full} {other = other} is named-is full-is row-is attrs-is other-is all-is =
    let scope = definition_scope g TestSide params fold.row.text in
    let one = definition_faults g name params in
    let two = one ++ fault_if (length g.earlier.aggs == 64) TooMany name.place in
    let three = two ++ row_faults scope fold.row in
    let four = three ++ fold_attrs_faults g fold in
    then old (four ++ else_faults fold.kind fold.place otherwise) (tests_faults scope tests)
    (then old four (else_faults fold.kind fold.place otherwise)
    (then old three (fold_attrs_faults g fold)
    (then old two (row_faults scope fold.row)
    (then old one (fault_if (length g.earlier.aggs == 64) TooMany name.place) named-is full-is)
    (row-is ∙ ap (λ s. noted full (row_faults s fold.row)) is))
    attrs-is)
    other-is)
    (all-is ∙ ap (λ s. noted other (tests_faults s tests)) is)
