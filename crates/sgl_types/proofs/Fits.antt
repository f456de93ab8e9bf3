-- An expression that breaks no rule is well-formed once resolved, and of the same kind.
use Rattle.std.proofs.Common.{◌≡◌, ℕ, ◌==◌, ◌&&◌, ◌||◌, suc, Bool, true, false, List, [], ◌∷◌, ◌++◌, map, length, bytes_eq, nat_lt, slice_get, Option, Some, None, refl, ap, sym, ◌∙◌}
use Rattle.std.specs.List.{list_all}
use Rattle.std.proofs.lemmas.Bool.{eqb-true, eq-eqb}
use denote.Hole.Carrier.{hidden}
use Rattle.sgl_values.specs.declared.place.Place.{Place}
use Rattle.sgl_values.specs.declared.operator.BinOp.{BinOp}
use Rattle.sgl_values.specs.declared.operator.BinOp.TheVariants.{Add}
use Rattle.sgl_tree.specs.declared.expression.Expr.{Expr, Row_of-Expr, end_of-Expr, more_of-Expr}
use Rattle.sgl_tree.specs.declared.expression.Expr.TheVariants.{Number, Truth, Local as Named, Field, Call', Random, Neg', Not', Binary'}
use Rattle.sgl_typed.specs.declared.script.AggUse.{AggUse}
use Rattle.sgl_typed.specs.declared.script.Attr.{Attr}
use Rattle.sgl_typed.specs.declared.script.Kind.{Kind}
use Rattle.sgl_typed.specs.declared.script.Kind.TheVariants.{Numeric, Logical}
use Rattle.sgl_typed.specs.declared.script.TExpr.{TExpr}
use Rattle.sgl_typed.specs.declared.script.TExpr.TheVariants as made
use Rattle.sgl_typed.specs.declared.script.TExpr.TheBlock.{shape-the_row-TExpr-0, hidden-the_row-TExpr-0, shape-the_row-TExpr-1, hidden-the_row-TExpr-1}
use Rattle.sgl_typed.specs.WellFormed.{Body, slot_kind, has_attr, kind_if, is_number, is_truth, operation_kind, fit, kind_of as formed, kinds_of}
use Rattle.sgl_types.specs.declared.bodies.Local.{Local}
use Rattle.sgl_types.specs.declared.bodies.Part.{Part}
use Rattle.sgl_types.specs.declared.bodies.Part.TheVariants.{Statements, Amount, Post}
use Rattle.sgl_types.specs.declared.declared.AttrName.{AttrName}
use Rattle.sgl_types.specs.declared.declared.AttrName.TheVariants.{Key, Const, Effect}
use Rattle.sgl_types.specs.declared.declared.Callee.{Callee}
use Rattle.sgl_types.specs.declared.declared.Callee.TheVariants.{Known}
use Rattle.sgl_types.specs.declared.finding.TypeKind.{TypeKind}
use Rattle.sgl_types.specs.declared.finding.TypeKind.TheVariants.{UnknownName, WrongCount}
use Rattle.sgl_types.specs.Scope.{Scope, find_local, attribute_of, callee_of}
use Rattle.sgl_types.specs.Faults.{faults, args_faults, wants, unwanted, kind_of, place_of, name_kind, kind_or, name_faults, undeclared_faults, dotted_faults, local_faults, is_row_of, is_row, call_faults_in, call_faults, row_length, operand_kind, result_kind, operand_faults}
use Rattle.sgl_types.specs.Rules.{fault_unless}
use Rattle.sgl_types.proofs.Matches.{Matches}
use Rattle.sgl_types.specs.Typed.{typed, all_typed, named, bare, attr, slot, read, callee_number}

-- ---- lists of faults that are empty

pub neither : {A : Type 0} (xs ys : List A) → xs ++ ys ≡ [] → (xs ≡ []) × (ys ≡ [])
neither [] ys e = (refl, e)
neither (x ∷ xs) ys e = absurd (cc)

pub holds : (b : Bool) (kind : TypeKind) (place : Place) → fault_unless b kind place ≡ [] → b ≡ true
holds true kind place e = refl
holds false kind place e = absurd (cc)

pub same_kind : (wanted kind : Kind) (place : Place) → unwanted wanted kind place ≡ [] → kind ≡ wanted
same_kind Numeric Numeric place e = refl
same_kind Numeric Logical place e = absurd (cc)
same_kind Logical Numeric place e = absurd (cc)
same_kind Logical Logical place e = refl

-- ---- the kinds of resolved expressions, by their variants

formed-Neg : (b : Body) (e : TExpr) → formed b (made.Neg e) ≡ kind_if (is_number (formed b e)) Numeric
unfolding shape-the_row-TExpr-0 hidden-the_row-TExpr-0 shape-the_row-TExpr-1 hidden-the_row-TExpr-1 hidden
formed-Neg b e = refl

formed-Not : (b : Body) (e : TExpr) → formed b (made.Not e) ≡ kind_if (is_truth (formed b e)) Logical
unfolding shape-the_row-TExpr-0 hidden-the_row-TExpr-0 shape-the_row-TExpr-1 hidden-the_row-TExpr-1 hidden
formed-Not b e = refl

formed-Binary : (b : Body) (op : BinOp) (l r : TExpr) (place : Place) → formed b (made.Binary op l r place) ≡ operation_kind op (formed b l) (formed b r)
unfolding shape-the_row-TExpr-0 hidden-the_row-TExpr-0 shape-the_row-TExpr-1 hidden-the_row-TExpr-1 hidden
formed-Binary b op l r place = refl

kinds-hidden : (b : Body) (es : List TExpr) → kinds_of b (hidden-the_row-TExpr-0 es) ≡ map (formed b) es
unfolding shape-the_row-TExpr-0 hidden-the_row-TExpr-0 hidden
kinds-hidden b [] = refl
kinds-hidden b (e ∷ es) = ap (λ ks. formed b e ∷ ks) (kinds-hidden b es)

formed-Agg : (b : Body) (use' : AggUse) → formed b (made.Agg use') ≡ kind_if (fit (slice_get b.aggs use'.agg) (map (formed b) use'.args)) Numeric
unfolding shape-the_row-TExpr-0 hidden-the_row-TExpr-0 shape-the_row-TExpr-1 hidden-the_row-TExpr-1 hidden
formed-Agg b use' = ap (λ ks. kind_if (fit (slice_get b.aggs use'.agg) ks) Numeric) (kinds-hidden b use'.args)

-- ---- names

pub has_named : (b : Body) (name : AttrName) (place : Place) → ((i : ℕ) → name ≡ Const i → nat_lt i b.consts ≡ true) → dotted_faults name place ≡ [] → has_attr b (attr name) ≡ true
has_named b Key place consts e = refl
has_named b (Const i) place consts e = consts i refl
has_named b name place consts e = absurd (cc)

bare-fits : (b : Body) (name : AttrName) (place : Place)
    → ((i : ℕ) → name ≡ Const i → nat_lt i b.consts ≡ true) → ((i : ℕ) → name ≡ Effect i → nat_lt i b.effects ≡ true)
    → undeclared_faults name place ≡ [] → formed b (bare name) ≡ Some Numeric
bare-fits b Key place consts effects e = refl
bare-fits b (Const i) place consts effects e = ap (λ h. kind_if h Numeric) (consts i refl)
bare-fits b (Effect i) place consts effects e = ap (λ h. kind_if h Numeric) (effects i refl)
bare-fits b name place consts effects e = absurd (cc)

slot-fits : (b : Body) (local : Option Local) (place : Place)
    → ((l : Local) → local ≡ Some l → slot_kind l.slot b.slots ≡ Some l.kind)
    → local_faults local place ≡ [] → formed b (slot local) ≡ Some (kind_or Numeric local)
slot-fits b None place slots e = absurd (cc)
slot-fits b (Some l) place slots e = slots l refl

name-fits : (b : Body) (part : Part) (name : AttrName) (local : Option Local) (place : Place)
    → ((i : ℕ) → name ≡ Const i → nat_lt i b.consts ≡ true) → ((i : ℕ) → part ≡ Post → name ≡ Effect i → nat_lt i b.effects ≡ true)
    → ((l : Local) → local ≡ Some l → slot_kind l.slot b.slots ≡ Some l.kind)
    → name_faults part name local place ≡ [] → formed b (named part name local) ≡ Some (name_kind part local)
name-fits b Post name local place consts effects slots e = bare-fits b name place consts (λ i. effects i refl) e
name-fits b part name local place consts effects slots e = slot-fits b local place slots e

read-unit : (b : Body) (unit : Bool) (a : Attr) → unit ≡ true → has_attr b a ≡ true → formed b (read unit a) ≡ Some Numeric
read-unit b true a is has = ap (λ h. kind_if h Numeric) has
read-unit b false a is has = absurd (cc)

read-row : (b : Body) (unit target : Bool) (a : Attr) → (unit || target) ≡ true → b.has_target ≡ true → has_attr b a ≡ true → formed b (read unit a) ≡ Some Numeric
read-row b true target a is may has = ap (λ h. kind_if h Numeric) has
read-row b false target a is may has = λ i. kind_if (may i && has i) Numeric

field-fits : (b : Body) (part : Part) (unit target of : List ℕ) (a : Attr)
    → (part ≡ Amount → b.has_target ≡ true) → is_row_of part unit target of ≡ true → has_attr b a ≡ true → formed b (read (bytes_eq of unit) a) ≡ Some Numeric
field-fits b Post unit target of a may is has = absurd (cc)
field-fits b Amount unit target of a may is has = read-row b (bytes_eq of unit) (bytes_eq of target) a is (may refl) has
field-fits b part unit target of a may is has = read-unit b (bytes_eq of unit) a is has

-- what a call without a fault is a call of
callee-fits : (b : Body) (part : Part) (callee : Callee) (args : ℕ) (place : Place)
    → ((number params : ℕ) → part ≡ Statements → callee ≡ Known number params → slice_get b.aggs number ≡ Some params)
    → call_faults_in part callee args place ≡ [] → slice_get b.aggs (callee_number callee) ≡ Some args
callee-fits b Statements (Known number params) args place aggs e =
    aggs number params refl refl ∙ ap (λ n. Some n) (sym (eqb-true args params (holds (args == params) WrongCount place e)))
callee-fits b part callee args place aggs e = absurd (cc)

-- ---- operations

operation-fits : (op : BinOp) (k l : Kind) → k ≡ operand_kind op → l ≡ operand_kind op → operation_kind op (Some k) (Some l) ≡ Some (result_kind op)
operation-fits Add k l p q = λ i. operation_kind Add (Some (p i)) (Some (q i))
operation-fits op k l p q = λ i. operation_kind op (Some (p i)) (Some (q i))

-- numbers alone, as many as these
pub record AreNumbers (count : ℕ) (kinds : List (Option Kind)) : Type 0 where
  pub are : list_all is_number kinds ≡ true
  pub many : count ≡ length kinds

pub fit-of : (params : Option ℕ) (count : ℕ) (kinds : List (Option Kind)) → params ≡ Some count → AreNumbers count kinds → fit params kinds ≡ true
fit-of params count kinds is n = ap (λ p. fit p kinds) is ∙ (λ i. (eq-eqb count (length kinds) n.many i) && n.are i)

-- ---- expressions

mutual
  pub fits : (s : Scope) (b : Body) → Matches s b → (e : Expr) → faults s e ≡ [] → formed b (typed s e) ≡ Some (kind_of s e)
  fits s b m (Number value place) none = refl
  fits s b m (Truth value place) none = refl
  fits s b m (Named name) none =
      name-fits b s.part (attribute_of s.all s.earlier name.text) (find_local name.text s.locals) name.place (m.consts name.text) (m.effects name.text) (m.slots name.text) none
  fits s b m (Field of name) none =
      let parts = neither (fault_unless (is_row s of.text) UnknownName of.place) (dotted_faults (attribute_of s.all s.earlier name.text) name.place) none in
      field-fits b s.part s.unit s.target of.text (attr (attribute_of s.all s.earlier name.text)) m.target (holds (is_row s of.text) UnknownName of.place parts.0)
      (has_named b (attribute_of s.all s.earlier name.text) name.place (m.consts name.text) parts.1)
  fits s b m (Call' name unit shape args) none =
      let names = call_faults s name (row_length args) ++ fault_unless (bytes_eq unit.text s.unit) UnknownName unit.place in
      let parts = neither names (args_faults s args) none in
      let callee = callee_of s.all.aggs s.earlier.aggs name.text in
      let call = (neither (call_faults s name (row_length args)) (fault_unless (bytes_eq unit.text s.unit) UnknownName unit.place) parts.0).0 in
      formed-Agg b record { agg = callee_number callee; args = all_typed s args; place = name.place }
      ∙ ap (λ h. kind_if h Numeric) (fit-of (slice_get b.aggs (callee_number callee)) (row_length args) (map (formed b) (all_typed s args))
      (callee-fits b s.part callee (row_length args) name.place (m.aggs name.text) call) (all-fit s b m args parts.1))
  fits s b m (Random place index index_place) none = refl
  fits s b m (Neg' shape (more_of-Expr inner end_of-Expr) place) none =
      let parts = neither (faults s inner) (wants Numeric s inner) none in
      let kind = fits s b m inner parts.0 ∙ ap (λ k. Some k) (same_kind Numeric (kind_of s inner) (place_of inner) parts.1) in
      formed-Neg b (typed s inner) ∙ ap (λ k. kind_if (is_number k) Numeric) kind
  fits s b m (Not' shape (more_of-Expr inner end_of-Expr) place) none =
      let parts = neither (faults s inner) (wants Logical s inner) none in
      let kind = fits s b m inner parts.0 ∙ ap (λ k. Some k) (same_kind Logical (kind_of s inner) (place_of inner) parts.1) in
      formed-Not b (typed s inner) ∙ ap (λ k. kind_if (is_truth k) Logical) kind
  fits s b m (Binary' op shape (more_of-Expr left end_of-Expr) shape' (more_of-Expr right end_of-Expr) place) none =
      let both = neither (operand_faults (operand_kind op) s left) (operand_faults (operand_kind op) s right) none in
      let first = neither (faults s left) (wants (operand_kind op) s left) both.0 in
      let second = neither (faults s right) (wants (operand_kind op) s right) both.1 in
      formed-Binary b op (typed s left) (typed s right) place
      ∙ (λ i. operation_kind op (fits s b m left first.0 i) (fits s b m right second.0 i))
      ∙ operation-fits op (kind_of s left) (kind_of s right)
      (same_kind (operand_kind op) (kind_of s left) (place_of left) first.1) (same_kind (operand_kind op) (kind_of s right) (place_of right) second.1)

  pub all-fit : {m : _} → (s : Scope) (b : Body) → Matches s b → (row : Row_of-Expr m) → args_faults s row ≡ [] → AreNumbers (row_length row) (map (formed b) (all_typed s row))
  all-fit s b m end_of-Expr none = record { are = refl; many = refl }
  all-fit s b m (more_of-Expr e rest) none =
      let parts = neither (operand_faults Numeric s e) (args_faults s rest) none in
      let first = neither (faults s e) (wants Numeric s e) parts.0 in
      let kind = fits s b m e first.0 ∙ ap (λ k. Some k) (same_kind Numeric (kind_of s e) (place_of e) first.1) in
      let others = all-fit s b m rest parts.1 in
      record { are = (λ i. is_number (kind i) && others.are i); many = ap suc others.many }
