-- The parts of an item that breaks no rule are well-formed once resolved.
use Rattle.std.proofs.Common.{◌≡◌, ℕ, ◌+◌, ◌≤◌, ◌==◌, ◌&&◌, Bool, true, false, List, [], ◌∷◌, ◌++◌, map, length, nat_lt, nat_le, slice_get, Option, Some, None, bytes_eq, suc, refl, ap, ◌∙◌, arith}
use Rattle.std.specs.List.{list_all}
use Rattle.sgl_values.specs.declared.place.Place.{Place}
use Rattle.sgl_values.specs.declared.fault.Tag.{Tag}
use Rattle.sgl_values.specs.declared.operator.FoldKind.{FoldKind}
use Rattle.sgl_values.specs.declared.operator.FoldKind.TheVariants.{Count, Nearest}
use Rattle.sgl_tree.specs.declared.expression.Expr.{Expr}
use Rattle.sgl_tree.specs.declared.expression.Name.{Name}
use Rattle.sgl_tree.specs.declared.item.Fold.{Fold}
use Rattle.sgl_tree.specs.declared.item.Literal.{Literal}
use Rattle.sgl_tree.specs.declared.item.OnClause.{OnClause}
use Rattle.sgl_tree.specs.declared.item.Test.{Test}
use Rattle.sgl_tree.specs.declared.item.Test.TheVariants.{Compare, Within}
use Rattle.sgl_tree.specs.declared.item.Write.{Write}
use Rattle.sgl_tree.specs.declared.statement.Stmt.{Stmt}
use Rattle.sgl_typed.specs.declared.script.Kind.TheVariants.{Numeric, Logical}
use Rattle.sgl_typed.specs.declared.schema.Schema.{Schema}
use Rattle.sgl_typed.specs.declared.script.TAgg.{TAgg}
use Rattle.sgl_typed.specs.WellFormed.{Body, Callees, has_attr, is_number, is_truth, kind_of as formed, test_fits, fold_fits, second_fits, by_fits, write_fits, clause_fits, agg_fits, action_fits, definition_body, main_body, statements_fit}
use Rattle.sgl_types.specs.declared.bodies.Part.TheVariants.{Test as TestSide, Amount}
use Rattle.sgl_types.specs.declared.declared.AttrName.{AttrName}
use Rattle.sgl_types.specs.declared.declared.AttrName.TheVariants.{Const, Effect}
use Rattle.sgl_types.specs.declared.finding.TypeKind.{TypeKind}
use Rattle.sgl_types.specs.declared.finding.TypeKind.TheVariants.{UnknownName, Twice, TooMany}
use Rattle.sgl_types.specs.Declarations.{after_unit}
use Rattle.sgl_types.specs.Faults.{faults, wants, kind_of, place_of, operand_faults}
use Rattle.sgl_types.specs.Rules.{fault_if, fault_unless, by_unwanted}
use Rattle.sgl_types.specs.Items.{Setting, attribute, definition_scope, routine_start, main_start, param_locals, repeated, at_name, params_faults, definition_faults, row_faults, fold_attr_faults, second_of, fold_attrs_faults, else_faults, column_faults, test_faults, tests_faults, written_faults, tag_of_name, priority_faults, write_faults, writes_faults, clause_faults, clauses_faults, aggregate_faults, action_faults, routine_faults}
use Rattle.sgl_types.proofs.Matches.{Matches}
use Rattle.sgl_types.specs.Scope.{Scope, defines, attribute_of}
use Rattle.sgl_types.specs.Statements.{statements_faults}
use Rattle.sgl_types.specs.Typed.{typed}
use Rattle.sgl_types.specs.TypedItems.{effect_number, attr_or_key, fold_attr, column, typed_test, typed_priority, typed_write, typed_clause, typed_aggregate, typed_action, typed_routine, typed_main}
use Rattle.sgl_types.proofs.Fits.{neither, same_kind, has_named, fits}
use Rattle.sgl_types.proofs.Fronts.{Fronts, effect-below}
use Rattle.sgl_types.proofs.Parts.{test-matches, amount-matches, Calls, routine-stands, main-stands}
use Rattle.sgl_types.proofs.Starts.{list-fits}

pub fails : (b : Bool) (kind : TypeKind) (place : Place) → fault_if b kind place ≡ [] → b ≡ false
fails true kind place e = absurd (cc)
fails false kind place e = refl

-- ---- right sides and amounts

pub number-fits : (s : Scope) (b : Body) → Matches s b → (e : Expr) → operand_faults Numeric s e ≡ [] → is_number (formed b (typed s e)) ≡ true
number-fits s b m e none =
    let parts = neither (faults s e) (wants Numeric s e) none in
    ap is_number (fits s b m e parts.0 ∙ ap (λ k. Some k) (same_kind Numeric (kind_of s e) (place_of e) parts.1))

pub truth-fits : (s : Scope) (b : Body) → Matches s b → (e : Expr) → operand_faults Logical s e ≡ [] → is_truth (formed b (typed s e)) ≡ true
truth-fits s b m e none =
    let parts = neither (faults s e) (wants Logical s e) none in
    ap is_truth (fits s b m e parts.0 ∙ ap (λ k. Some k) (same_kind Logical (kind_of s e) (place_of e) parts.1))

column-fits : (s : Scope) (b : Body) → Matches s b → (name : Name) → column_faults s name ≡ [] → has_attr b (column s name) ≡ true
column-fits s b m name none = has_named b (attribute_of s.all s.earlier name.text) name.place (m.consts name.text) none

test-fits : (s : Scope) (b : Body) → Matches s b → (test : Test) → test_faults s test ≡ [] → test_fits b (typed_test s test) ≡ true
test-fits s b m (Compare row attr op right) none =
    let named = fault_unless (bytes_eq row.text s.target) UnknownName row.place in
    let two = neither (named ++ column_faults s attr) (operand_faults Numeric s right) none in
    let one = neither named (column_faults s attr) two.0 in
    λ i. column-fits s b m attr one.1 i && number-fits s b m right two.1 i
test-fits s b m (Within place x y radius) none =
    let two = neither (column_faults s x ++ column_faults s y) (operand_faults Numeric s radius) none in
    let one = neither (column_faults s x) (column_faults s y) two.0 in
    λ i. (column-fits s b m x one.0 i && column-fits s b m y one.1 i) && number-fits s b m radius two.1 i

tests-fit : (s : Scope) (b : Body) → Matches s b → (tests : List Test) → tests_faults s tests ≡ [] → list_all (test_fits b) (map (typed_test s) tests) ≡ true
tests-fit s b m [] none = refl
tests-fit s b m (test ∷ more) none =
    let parts = neither (test_faults s test) (tests_faults s more) none in
    λ i. test-fits s b m test parts.0 i && tests-fit s b m more parts.1 i

effect-written : (name : AttrName) (place : Place) (many : ℕ) → ((i : ℕ) → name ≡ Effect i → nat_lt i many ≡ true) → written_faults name place ≡ [] → nat_lt (effect_number name) many ≡ true
effect-written (Effect i) place many h e = h i refl
effect-written name place many h e = absurd (cc)

priority-fits : (s : Scope) (b : Body) → Matches s b → (tag : Option Tag) (place : Place) (by : Option (Place × Expr)) → priority_faults s tag place by ≡ [] → by_fits b (typed_priority s by) ≡ true
priority-fits s b m tag place None none = refl
priority-fits s b m tag place (Some by) none = number-fits s b m by.1 (neither (by_unwanted tag by.0) (operand_faults Numeric s by.1) none).1

write-fits : (s : Scope) (schema : Schema) (b : Body) → Matches s (record b { has_target = true }) → ((name : List ℕ) (i : ℕ) → attribute_of s.all s.earlier name ≡ Effect i → nat_lt i (length schema.effects) ≡ true)
    → (write : Write) → write_faults s write ≡ [] → write_fits schema b (typed_write s write) ≡ true
write-fits s schema b m below write none =
    let name = attribute_of s.all s.earlier write.attr.text in
    let tag = tag_of_name s.earlier name in
    let two = neither (written_faults name write.attr.place ++ operand_faults Numeric s write.value) (priority_faults s tag write.attr.place write.by) none in
    let one = neither (written_faults name write.attr.place) (operand_faults Numeric s write.value) two.0 in
    λ i. effect-written name write.attr.place (length schema.effects) (below write.attr.text) one.0 i
    && (number-fits s (record b { has_target = true }) m write.value one.1 i && priority-fits s (record b { has_target = true }) m tag write.attr.place write.by two.1 i)

writes-fit : (s : Scope) (schema : Schema) (b : Body) → Matches s (record b { has_target = true }) → ((name : List ℕ) (i : ℕ) → attribute_of s.all s.earlier name ≡ Effect i → nat_lt i (length schema.effects) ≡ true)
    → (writes : List Write) → writes_faults s writes ≡ [] → list_all (write_fits schema b) (map (typed_write s) writes) ≡ true
writes-fit s schema b m below [] none = refl
writes-fit s schema b m below (write ∷ more) none =
    let parts = neither (write_faults s write) (writes_faults s more) none in
    λ i. write-fits s schema b m below write parts.0 i && writes-fit s schema b m below more parts.1 i

-- ---- parameters

few : {A : Type 0} (xs : List A) (k : ℕ) → slice_get xs k ≡ None → length xs ≤ k
few [] k e = omega arith
few (x ∷ xs) ℕ.zero e = absurd (cc)
few (x ∷ xs) (ℕ.suc k) e = let le : length xs ≤ k = few xs k e in omega arith

none-at : (name : Option Name) → at_name name ≡ [] → name ≡ None
none-at None e = refl
none-at (Some name) e = absurd (cc)

behind-few : (params : List Name) → length params ≤ 17 → nat_le (length (after_unit params)) 16 ≡ true
behind-few [] le = refl
behind-few (unit ∷ params) le = grind (arith)

few-params : (g : Setting) (name : Name) (params : List Name) → definition_faults g name params ≡ [] → nat_le (length (after_unit params)) 16 ≡ true
few-params g name params none =
    let one = neither (fault_if (defines g.earlier name.text) Twice name.place) (params_faults params) none in
    let two = neither (repeated [] params) (at_name (slice_get params 17)) one.1 in
    behind-few params (few params 17 (none-at (slice_get params 17) two.1))

-- ---- aggregates

has-attr-or-key : (g : Setting) (b : Body) → ((text : List ℕ) (i : ℕ) → attribute_of g.all g.earlier text ≡ Const i → nat_lt i b.consts ≡ true)
    → (name : Option Name) → fold_attr_faults g name ≡ [] → has_attr b (attr_or_key g name) ≡ true
has-attr-or-key g b consts None none = refl
has-attr-or-key g b consts (Some name) none = has_named b (attribute g name) name.place (consts name.text) none

first-fits : (g : Setting) (kind : FoldKind) (name : Option Name) → fold_fits kind (fold_attr g kind name) ≡ true
first-fits g Count name = refl
first-fits g kind name = refl

first-has : (g : Setting) (b : Body) (kind : FoldKind) (name : Option Name) → has_attr b (attr_or_key g name) ≡ true → has_attr b (fold_attr g kind name) ≡ true
first-has g b Count name has = refl
first-has g b kind name has = has

second-fits : (g : Setting) (kind : FoldKind) (name : Option Name) → second_fits kind (attr_or_key g (second_of kind name)) ≡ true
second-fits g Nearest name = refl
second-fits g kind name = refl

-- the parts of an aggregate that breaks no rule break none
pub record AggregateParts (g : Setting) (name : Name) (params : List Name) (fold : Fold) (tests : List Test) : Type 0 where
  pub definition : definition_faults g name params ≡ []
  pub room : fault_if (length g.earlier.aggs == 64) TooMany name.place ≡ []
  pub first : fold_attr_faults g fold.attr ≡ []
  pub second : fold_attr_faults g (second_of fold.kind fold.second) ≡ []
  pub tests-none : tests_faults (definition_scope g TestSide params fold.row.text) tests ≡ []

pub aggregate-parts : (g : Setting) (name : Name) (params : List Name) (fold : Fold) (tests : List Test) (otherwise : Option (Place × Literal))
    → aggregate_faults g name params fold tests otherwise ≡ [] → AggregateParts g name params fold tests
aggregate-parts g name params fold tests otherwise none =
    let s = definition_scope g TestSide params fold.row.text in
    let d = definition_faults g name params in
    let full = fault_if (length g.earlier.aggs == 64) TooMany name.place in
    let row = row_faults s fold.row in
    let five = neither (d ++ full ++ row ++ fold_attrs_faults g fold ++ else_faults fold.kind fold.place otherwise) (tests_faults s tests) none in
    let four = neither (d ++ full ++ row ++ fold_attrs_faults g fold) (else_faults fold.kind fold.place otherwise) five.0 in
    let three = neither (d ++ full ++ row) (fold_attrs_faults g fold) four.0 in
    let attrs = neither (fold_attr_faults g fold.attr) (fold_attr_faults g (second_of fold.kind fold.second)) three.1 in
    let two = neither (d ++ full) row three.0 in
    let one = neither d full two.0 in
    record { definition = one.0; room = one.1; first = attrs.0; second = attrs.1; tests-none = five.1 }

pub aggregate-fits : (g : Setting) (schema : Schema) → Fronts g.earlier g.all → length schema.consts ≡ length g.all.consts
    → (name : Name) (params : List Name) (fold : Fold) (tests : List Test) (otherwise : Option (Place × Literal))
    → aggregate_faults g name params fold tests otherwise ≡ [] → agg_fits schema (typed_aggregate g name params fold tests otherwise) ≡ true
aggregate-fits g schema f long name params fold tests otherwise none =
    let s = definition_scope g TestSide params fold.row.text in
    let b = definition_body schema (length (after_unit params)) in
    let parts = aggregate-parts g name params fold tests otherwise none in
    let m = test-matches g schema params fold.row.text f long in
    λ i. few-params g name params parts.definition i
    && (first-fits g fold.kind fold.attr i && second-fits g fold.kind fold.second i)
    && (first-has g b fold.kind fold.attr (has-attr-or-key g b m.consts fold.attr parts.first) i && has-attr-or-key g b m.consts (second_of fold.kind fold.second) parts.second i)
    && tests-fit s b m tests parts.tests-none i

-- ---- actions

clause-fits : (g : Setting) (schema : Schema) → Fronts g.earlier g.all → length schema.consts ≡ length g.all.consts → length schema.effects ≡ length g.all.effects
    → (params : List Name) (clause : OnClause) → clause_faults g params clause ≡ [] → clause_fits schema (definition_body schema (length (after_unit params))) (typed_clause g params clause) ≡ true
clause-fits g schema f long many params clause none =
    let s = definition_scope g TestSide params clause.row.text in
    let w = definition_scope g Amount params clause.row.text in
    let b = definition_body schema (length (after_unit params)) in
    let two = neither (row_faults s clause.row ++ tests_faults s clause.tests) (writes_faults w clause.writes) none in
    let one = neither (row_faults s clause.row) (tests_faults s clause.tests) two.0 in
    λ i. tests-fit s b (test-matches g schema params clause.row.text f long) clause.tests one.1 i
    && writes-fit w schema b (amount-matches g schema params clause.row.text f long) (λ name i e. ap (nat_lt i) many ∙ effect-below g.all g.earlier name i f e) clause.writes two.1 i

clauses-fit : (g : Setting) (schema : Schema) → Fronts g.earlier g.all → length schema.consts ≡ length g.all.consts → length schema.effects ≡ length g.all.effects
    → (params : List Name) (before : ℕ) (ons : List OnClause) → clauses_faults g params before ons ≡ []
    → list_all (clause_fits schema (definition_body schema (length (after_unit params)))) (map (typed_clause g params) ons) ≡ true
clauses-fit g schema f long many params before [] none = refl
clauses-fit g schema f long many params before (clause ∷ more) none =
    let two = neither (fault_if (before == 64) TooMany clause.place ++ clause_faults g params clause) (clauses_faults g params (before + 1) more) none in
    let one = neither (fault_if (before == 64) TooMany clause.place) (clause_faults g params clause) two.0 in
    λ i. clause-fits g schema f long many params clause one.1 i && clauses-fit g schema f long many params (before + 1) more two.1 i

some-clause : (g : Setting) (params : List Name) (ons : List OnClause) → nat_lt 0 (length ons) ≡ true → nat_lt 0 (length (map (typed_clause g params) ons)) ≡ true
some-clause g params [] e = e
some-clause g params (clause ∷ more) e = grind (arith)

pub action-fits : (g : Setting) (schema : Schema) → Fronts g.earlier g.all → length schema.consts ≡ length g.all.consts → length schema.effects ≡ length g.all.effects
    → (name : Name) (params : List Name) (ons : List OnClause) → nat_lt 0 (length ons) ≡ true → action_faults g name params ons ≡ [] → action_fits schema (typed_action g name params ons) ≡ true
action-fits g schema f long many name params ons some none =
    let parts = neither (definition_faults g name params) (clauses_faults g params g.earlier.ons ons) none in
    λ i. few-params g name params parts.0 i && some-clause g params ons some i && clauses-fit g schema f long many params g.earlier.ons ons parts.1 i

-- ---- routines and main

slots-long : (n : ℕ) (ps : List Name) → length (map (λ l. l.slot) (param_locals n ps)) ≡ length ps
slots-long n [] = refl
slots-long n (p ∷ ps) = ap suc (slots-long (1 + n) ps)

pub routine-few : (g : Setting) (name : Name) (params : List Name) (body : List Stmt) → routine_faults g name params body ≡ [] → nat_le (length (typed_routine g params body).params) 16 ≡ true
routine-few g name params body none =
    ap (λ n. nat_le n 16) (slots-long g.slots (after_unit params))
    ∙ few-params g name params (neither (definition_faults g name params) (statements_faults body (routine_start g params)) none).0

pub routine-long : (g : Setting) (params : List Name) (body : List Stmt) → length (typed_routine g params body).params ≡ length (after_unit params)
routine-long g params body = slots-long g.slots (after_unit params)

pub routine-fits : (g : Setting) (schema : Schema) (aggs : List TAgg) (callees : Callees) → Calls g schema aggs callees
    → (name : Name) (params : List Name) (body : List Stmt) → routine_faults g name params body ≡ []
    → statements_fit callees (typed_routine g params body).body (main_body schema aggs (map (λ slot. (slot, Numeric)) (typed_routine g params body).params)) ≡ true
routine-fits g schema aggs callees c name params body none =
    list-fits callees body (routine_start g params) (main_body schema aggs (map (λ slot. (slot, Numeric)) (map (λ l. l.slot) (param_locals g.slots (after_unit params)))))
    (routine-stands g schema aggs callees params c) (neither (definition_faults g name params) (statements_faults body (routine_start g params)) none).1

pub main-fits : (g : Setting) (schema : Schema) (aggs : List TAgg) (callees : Callees) → Calls g schema aggs callees
    → (unit : Name) (body : List Stmt) → statements_faults body (main_start g unit) ≡ []
    → statements_fit callees (typed_main g unit body) (main_body schema aggs []) ≡ true
main-fits g schema aggs callees c unit body none =
    list-fits callees body (main_start g unit) (main_body schema aggs []) (main-stands g schema aggs callees unit c) none
