-- Statements that break no rule are well-formed once resolved.
use Rattle.std.proofs.Common.{◌≡◌, ℕ, ◌+◌, ◌<◌, ◌==◌, ◌&&◌, Bool, true, false, List, [], ◌∷◌, ◌++◌, map, length, bytes_eq, slice_get, Option, Some, None, suc, if◌then◌else◌, ◌⊎◌, inl, inr, subst, refl, ap, sym, ◌∙◌, arith}
use Rattle.std.proofs.lemmas.Bool.{eqb-true, eq-eqb, ne_eqb}
use denote.Hole.Carrier.{hidden}
use Rattle.sgl_values.specs.declared.place.Place.{Place}
use Rattle.sgl_tree.specs.declared.expression.Expr.{Expr}
use Rattle.sgl_tree.specs.declared.statement.Stmt.{Stmt, Row_of-Stmt, end_of-Stmt, more_of-Stmt}
use Rattle.sgl_tree.specs.declared.statement.Stmt.TheVariants.{Let, If', Perform}
use Rattle.sgl_typed.specs.declared.script.Kind.{Kind}
use Rattle.sgl_typed.specs.declared.script.Kind.TheVariants.{Numeric, Logical}
use Rattle.sgl_typed.specs.declared.script.TExpr.{TExpr}
use Rattle.sgl_typed.specs.declared.script.TStmt.{TStmt}
use Rattle.sgl_typed.specs.declared.script.TStmt.TheVariants as made
use Rattle.sgl_typed.specs.declared.script.TStmt.TheBlock.{shape-the_row-TStmt-0, hidden-the_row-TStmt-0}
use Rattle.sgl_typed.specs.WellFormed.{Body, Callees, slot_kind, slots_with, is_formed, is_truth, is_number, kind_of as formed, statement_fits, block_fits, statements_fit, body_behind}
use Rattle.sgl_types.specs.declared.bodies.Local.{Local}
use Rattle.sgl_types.specs.declared.statements.Performed.{Performed}
use Rattle.sgl_types.specs.declared.statements.Performed.TheVariants.{Action, Routine, Later, Unknown}
use Rattle.sgl_types.specs.declared.finding.TypeKind.TheVariants.{UnknownName, Twice, WrongCount}
use Rattle.sgl_types.specs.Scope.{Scope, find_local}
use Rattle.sgl_types.specs.Faults.{faults, wants, kind_of, place_of, operand_faults, numbers_faults}
use Rattle.sgl_types.specs.Rules.{fault_if, fault_unless}
use Rattle.sgl_types.specs.Typed.{typed}
use Rattle.sgl_types.proofs.Matches.{Matches}
use Rattle.sgl_types.specs.Statements.{Standing, behind, past, lets_in, with_local, is_local, performed_of, performed_faults, performing, statement_faults, block_faults as row_faults, typed_statement, typed_block}
use Rattle.sgl_types.proofs.Fits.{neither, fits, same_kind, holds, AreNumbers, fit-of}

pub record Stands (t : Standing) (b : Body) (callees : Callees) : Type 0 where
  pub matches : Matches t.scope b
  pub below : (name : List ℕ) (local : Local) → find_local name t.scope.locals ≡ Some local → local.slot < t.next
  pub actions : (name : List ℕ) (number params : ℕ) → performed_of t.scope.all t.scope.earlier name ≡ Action number params → slice_get callees.actions number ≡ Some params
  pub routines : (name : List ℕ) (number params : ℕ) → performed_of t.scope.all t.scope.earlier name ≡ Routine number params → slice_get callees.routines number ≡ Some params

-- ---- locals

less_not : (a b : ℕ) → a < b → a ≡ b → ⊥
less_not a b lt e = omega arith

chosen : (is : Bool) (new local : Local) (other : Option Local) → other ≡ None → (if is then Some new else other) ≡ Some local → local ≡ new
chosen true new local other none e = cc
chosen false new local other none e = absurd (cc)

either-way : (is : Bool) (l local new : Local) (old now : Option Local) → ((now ≡ Some local) → (old ≡ Some local) ⊎ (local ≡ new))
    → (if is then Some l else now) ≡ Some local → ((if is then Some l else old) ≡ Some local) ⊎ (local ≡ new)
either-way true l local new old now h e = inl e
either-way false l local new old now h e = h e

found-in : (name : List ℕ) (locals : List Local) (new local : Local) → find_local name (locals ++ new ∷ []) ≡ Some local → (find_local name locals ≡ Some local) ⊎ (local ≡ new)
found-in name [] new local e = inr (chosen (bytes_eq new.name name) new local None refl e)
found-in name (l ∷ ls) new local e = either-way (bytes_eq l.name name) l local new (find_local name ls) (find_local name (ls ++ new ∷ [])) (found-in name ls new local) e

abbrev with_slot : Body → ℕ → Kind → Body
with_slot b slot kind = record b { slots = (slot, kind) ∷ b.slots }

old-slot : (b : Body) (slot next : ℕ) (kind : Kind) → slot < next → slot_kind slot ((next, kind) ∷ b.slots) ≡ slot_kind slot b.slots
old-slot b slot next kind lt = ap (λ is. if is then Some kind else slot_kind slot b.slots) (ne_eqb slot next (λ e. less_not slot next lt e))

new-slot : (b : Body) (slot : ℕ) (kind : Kind) → slot_kind slot ((slot, kind) ∷ b.slots) ≡ Some kind
new-slot b slot kind = ap (λ is. if is then Some kind else slot_kind slot b.slots) (eq-eqb slot slot refl)

less-more : (a b lets : ℕ) → a < b → a < lets + b
less-more a b lets lt = omega arith

less-same : (a b n : ℕ) → a ≡ n → b ≡ 1 + n → a < b
less-same a b n p q = omega arith

-- behind a let of a kind
slot-behind : (t : Standing) (b : Body) (callees : Callees) (name : List ℕ) (kind : Kind) (wanted : List ℕ) (local : Local) → Stands t b callees
    → (find_local wanted t.scope.locals ≡ Some local) ⊎ (local ≡ record { name = name; slot = t.next; kind = kind })
    → slot_kind local.slot ((t.next, kind) ∷ b.slots) ≡ Some local.kind
slot-behind t b callees name kind wanted local h (inl e) = old-slot b local.slot t.next kind (h.below wanted local e) ∙ h.matches.slots wanted local e
slot-behind t b callees name kind wanted local h (inr e) =
    subst (λ l. slot_kind l.slot ((t.next, kind) ∷ b.slots) ≡ Some l.kind) (sym e) (new-slot b t.next kind)

below-behind : (t : Standing) (b : Body) (callees : Callees) (name : List ℕ) (kind : Kind) (wanted : List ℕ) (local : Local) → Stands t b callees
    → (find_local wanted t.scope.locals ≡ Some local) ⊎ (local ≡ record { name = name; slot = t.next; kind = kind })
    → local.slot < 1 + t.next
below-behind t b callees name kind wanted local h (inl e) = less-more local.slot t.next 1 (h.below wanted local e)
below-behind t b callees name kind wanted local h (inr e) = less-same local.slot (1 + t.next) t.next (ap (λ l. l.slot) e) refl

let-behind : (t : Standing) (b : Body) (callees : Callees) (name : List ℕ) (kind : Kind) → Stands t b callees
    → Stands (record { scope = with_local t.scope name t.next kind; next = 1 + t.next }) (with_slot b t.next kind) callees
let-behind t b callees name kind h = record {
  matches = record {
    consts = h.matches.consts;
    effects = h.matches.effects;
    target = h.matches.target;
    slots = λ wanted local e. slot-behind t b callees name kind wanted local h (found-in wanted t.scope.locals (record { name = name; slot = t.next; kind = kind }) local e);
    aggs = h.matches.aggs;
  };
  below = λ wanted local e. below-behind t b callees name kind wanted local h (found-in wanted t.scope.locals (record { name = name; slot = t.next; kind = kind }) local e);
  actions = h.actions;
  routines = h.routines;
}

past-stands : (lets : ℕ) (t : Standing) (b : Body) (callees : Callees) → Stands t b callees → Stands (past lets t) b callees
past-stands lets t b callees h = record {
  matches = h.matches;
  below = λ name local e. less-more local.slot t.next lets (h.below name local e);
  actions = h.actions;
  routines = h.routines;
}

-- ---- statements

block-hidden : (callees : Callees) (ss : List TStmt) (b : Body) → block_fits callees (hidden-the_row-TStmt-0 ss) b ≡ statements_fit callees ss b
unfolding shape-the_row-TStmt-0 hidden-the_row-TStmt-0 hidden
block-hidden callees [] b = refl
block-hidden callees (s ∷ ss) b = ap (λ rest. statement_fits callees s b && rest) (block-hidden callees ss (body_behind s b))

fits-If : (callees : Callees) (cond : TExpr) (place : Place) (taken other : List TStmt) (b : Body)
    → statement_fits callees (made.If cond place taken other) b ≡ (is_truth (formed b cond) && statements_fit callees taken b && statements_fit callees other b)
unfolding shape-the_row-TStmt-0 hidden-the_row-TStmt-0 hidden
fits-If callees cond place taken other b = λ i. is_truth (formed b cond) && block-hidden callees taken b i && block-hidden callees other b i

behind-If : (cond : TExpr) (place : Place) (taken other : List TStmt) (b : Body) → body_behind (made.If cond place taken other) b ≡ b
unfolding shape-the_row-TStmt-0 hidden-the_row-TStmt-0 hidden
behind-If cond place taken other b = refl

numbers-fit : (s : Scope) (b : Body) → Matches s b → (es : List Expr) → numbers_faults s es ≡ [] → AreNumbers (length es) (map (formed b) (map (typed s) es))
numbers-fit s b m [] none = record { are = refl; many = refl }
numbers-fit s b m (e ∷ es) none =
    let parts = neither (operand_faults Numeric s e) (numbers_faults s es) none in
    let first = neither (faults s e) (wants Numeric s e) parts.0 in
    let kind = fits s b m e first.0 ∙ ap (λ k. Some k) (same_kind Numeric (kind_of s e) (place_of e) first.1) in
    let others = numbers-fit s b m es parts.1 in
    record { are = (λ i. is_number (kind i) && others.are i); many = ap suc others.many }

perform-fits : (callees : Callees) (b : Body) (p : Performed) (args : ℕ) (es : List TExpr) (places : List Place) (place place' : Place)
    → length places ≡ length es
    → ((number params : ℕ) → p ≡ Action number params → slice_get callees.actions number ≡ Some params)
    → ((number params : ℕ) → p ≡ Routine number params → slice_get callees.routines number ≡ Some params)
    → performed_faults args place p ≡ [] → AreNumbers args (map (formed b) es) → statement_fits callees (performing p es places place') b ≡ true
perform-fits callees b (Action number params) args es places place place' many actions routines none n =
    fit-of (slice_get callees.actions number) args (map (formed b) es) (actions number params refl ∙ ap (λ n. Some n) (sym (eqb-true args params (holds (args == params) WrongCount place none)))) n
perform-fits callees b (Routine number params) args es places place place' many actions routines none n =
    λ i. fit-of (slice_get callees.routines number) args (map (formed b) es) (routines number params refl ∙ ap (λ n. Some n) (sym (eqb-true args params (holds (args == params) WrongCount place none)))) n i
    && eq-eqb (length places) (length es) many i
perform-fits callees b Later args es places place place' many actions routines none n = absurd (cc)
perform-fits callees b Unknown args es places place place' many actions routines none n = absurd (cc)

same-many : {A B C : Type 0} (f : A → B) (g : A → C) (xs : List A) → length (map f xs) ≡ length (map g xs)
same-many f g [] = refl
same-many f g (x ∷ xs) = ap suc (same-many f g xs)

behind-performing : (p : Performed) (es : List TExpr) (places : List Place) (place : Place) (b : Body) → body_behind (performing p es places place) b ≡ b
behind-performing (Action number params) es places place b = refl
behind-performing (Routine number params) es places place b = refl
behind-performing Later es places place b = refl
behind-performing Unknown es places place b = refl

pub stands-behind : (callees : Callees) (s : Stmt) (t : Standing) (b : Body) → Stands t b callees → statement_faults s t ≡ [] → Stands (behind s t) (body_behind (typed_statement s t) b) callees
stands-behind callees (Let name value) t b h none =
    let value-none = (neither (faults t.scope value) (fault_if (is_local t.scope name.text) Twice name.place) none).0 in
    subst (λ kind. Stands (behind (Let name value) t) (record b { slots = slots_with t.next kind b.slots }) callees) (sym (fits t.scope b h.matches value value-none))
    (let-behind t b callees name.text (kind_of t.scope value) h)
stands-behind callees (If' cond shape taken shape' other) t b h none =
    subst (λ b. Stands (past (lets_in other) (past (lets_in taken) t)) b callees)
    (sym (behind-If (typed t.scope cond) (place_of cond) (typed_block taken t) (typed_block other (past (lets_in taken) t)) b))
    (past-stands (lets_in other) (past (lets_in taken) t) b callees (past-stands (lets_in taken) t b callees h))
stands-behind callees (Perform place name unit args) t b h none =
    subst (λ b. Stands t b callees) (sym (behind-performing (performed_of t.scope.all t.scope.earlier name.text) (map (typed t.scope) args) (map place_of args) place b)) h

mutual
  pub statement-fits : (callees : Callees) (s : Stmt) (t : Standing) (b : Body) → Stands t b callees → statement_faults s t ≡ [] → statement_fits callees (typed_statement s t) b ≡ true
  statement-fits callees (Let name value) t b h none =
      ap is_formed (fits t.scope b h.matches value (neither (faults t.scope value) (fault_if (is_local t.scope name.text) Twice name.place) none).0)
  statement-fits callees (If' cond shape taken shape' other) t b h none =
      let two = neither (operand_faults Logical t.scope cond ++ row_faults taken t) (row_faults other (past (lets_in taken) t)) none in
      let one = neither (operand_faults Logical t.scope cond) (row_faults taken t) two.0 in
      let parts = neither (faults t.scope cond) (wants Logical t.scope cond) one.0 in
      let kind = fits t.scope b h.matches cond parts.0 ∙ ap (λ k. Some k) (same_kind Logical (kind_of t.scope cond) (place_of cond) parts.1) in
      fits-If callees (typed t.scope cond) (place_of cond) (typed_block taken t) (typed_block other (past (lets_in taken) t)) b
      ∙ (λ i. is_truth (kind i) && rows-fit callees taken t b h one.1 i && rows-fit callees other (past (lets_in taken) t) b (past-stands (lets_in taken) t b callees h) two.1 i)
  statement-fits callees (Perform place name unit args) t b h none =
      let performed = performed_of t.scope.all t.scope.earlier name.text in
      let unit-faults = fault_unless (bytes_eq unit.text t.scope.unit) UnknownName unit.place in
      let two = neither (performed_faults (length args) name.place performed ++ unit-faults) (numbers_faults t.scope args) none in
      let one = neither (performed_faults (length args) name.place performed) unit-faults two.0 in
      perform-fits callees b performed (length args) (map (typed t.scope) args) (map place_of args) name.place place (same-many place_of (typed t.scope) args) (h.actions name.text) (h.routines name.text) one.0
      (numbers-fit t.scope b h.matches args two.1)

  pub rows-fit : {m : _} → (callees : Callees) (row : Row_of-Stmt m) (t : Standing) (b : Body) → Stands t b callees → row_faults row t ≡ [] → statements_fit callees (typed_block row t) b ≡ true
  rows-fit callees end_of-Stmt t b h none = refl
  rows-fit callees (more_of-Stmt s rest) t b h none =
      let parts = neither (statement_faults s t) (row_faults rest (behind s t)) none in
      λ i. statement-fits callees s t b h parts.0 i && rows-fit callees rest (behind s t) (body_behind (typed_statement s t) b) (stands-behind callees s t b h parts.0) parts.1 i
