-- The slots of resolved statements are numbered in their order.
use Rattle.std.proofs.Common.{◌≡◌, ℕ, ◌+◌, ◌<◌, ◌==◌, ◌&&◌, ◌||◌, not, Bool, true, false, List, [], ◌∷◌, ◌++◌, map, refl, ap, sym, ◌∙◌, arith}
use Rattle.std.specs.List.{list_any}
use Rattle.std.proofs.lemmas.Bool.{ne_eqb}
use denote.Hole.Carrier.{hidden}
use Rattle.sgl_values.specs.declared.place.Place.{Place}
use Rattle.sgl_tree.specs.declared.statement.Stmt.{Stmt, Row_of-Stmt, end_of-Stmt, more_of-Stmt}
use Rattle.sgl_tree.specs.declared.statement.Stmt.TheVariants.{Let, If', Perform}
use Rattle.sgl_typed.specs.declared.script.TExpr.{TExpr}
use Rattle.sgl_typed.specs.declared.script.TStmt.{TStmt}
use Rattle.sgl_typed.specs.declared.script.TStmt.TheVariants as made
use Rattle.sgl_typed.specs.declared.script.TStmt.TheBlock.{shape-the_row-TStmt-0, hidden-the_row-TStmt-0}
use Rattle.sgl_typed.specs.SchemaForm.{differ}
use Rattle.sgl_typed.specs.WellFormed.{slots_set, slots_set_in, slots_of_all}
use Rattle.sgl_types.specs.declared.statements.Performed.{Performed}
use Rattle.sgl_types.specs.declared.statements.Performed.TheVariants.{Action, Routine, Later, Unknown}
use Rattle.sgl_types.specs.Faults.{place_of}
use Rattle.sgl_types.specs.Typed.{typed}
use Rattle.sgl_types.specs.Statements.{Standing, behind, past, lets_of, lets_in, performed_of, performing, typed_statement, typed_block}
use Rattle.sgl_types.proofs.Walks.{behind-next}

-- so many numbers from this one on
abbrev pub numbers : ℕ → ℕ → List ℕ
numbers from ℕ.zero = []
numbers from (ℕ.suc many) = from ∷ numbers (1 + from) many

pub numbers-append : (from a b : ℕ) → numbers from (a + b) ≡ numbers from a ++ numbers (a + from) b
numbers-append from ℕ.zero b =
    let e : 0 + b ≡ b = omega arith in
    let f : from ≡ 0 + from = omega arith in
    ap (numbers from) e ∙ ap (λ n. numbers n b) f
numbers-append from (ℕ.suc a) b =
    let e : ℕ.suc a + b ≡ ℕ.suc (a + b) = omega arith in
    let f : a + (1 + from) ≡ ℕ.suc a + from = omega arith in
    ap (numbers from) e ∙ ap (λ ns. from ∷ ns) (numbers-append (1 + from) a b ∙ ap (λ n. numbers (1 + from) a ++ numbers n b) f)

set-hidden : (ss : List TStmt) → slots_set_in (hidden-the_row-TStmt-0 ss) ≡ slots_of_all ss
unfolding shape-the_row-TStmt-0 hidden-the_row-TStmt-0 hidden
set-hidden [] = refl
set-hidden (s ∷ ss) = ap (λ ns. slots_set s ++ ns) (set-hidden ss)

set-If : (cond : TExpr) (place : Place) (taken other : List TStmt) → slots_set (made.If cond place taken other) ≡ slots_of_all taken ++ slots_of_all other
unfolding shape-the_row-TStmt-0 hidden-the_row-TStmt-0 hidden
set-If cond place taken other = λ i. set-hidden taken i ++ set-hidden other i

set-performing : (p : Performed) (es : List TExpr) (places : List Place) (place : Place) → slots_set (performing p es places place) ≡ []
set-performing (Action number params) es places place = refl
set-performing (Routine number params) es places place = refl
set-performing Later es places place = refl
set-performing Unknown es places place = refl

mutual
  pub set-statement : (s : Stmt) (t : Standing) → slots_set (typed_statement s t) ≡ numbers t.next (lets_of s)
  set-statement (Let name value) t = refl
  set-statement (If' cond shape taken shape' other) t =
      set-If (typed t.scope cond) (place_of cond) (typed_block taken t) (typed_block other (past (lets_in taken) t))
      ∙ (λ i. set-row taken t i ++ set-row other (past (lets_in taken) t) i)
      ∙ sym (numbers-append t.next (lets_in taken) (lets_in other))
  set-statement (Perform place name unit args) t = set-performing (performed_of t.scope.all t.scope.earlier name.text) (map (typed t.scope) args) (map place_of args) place

  pub set-row : {m : _} → (row : Row_of-Stmt m) (t : Standing) → slots_of_all (typed_block row t) ≡ numbers t.next (lets_in row)
  set-row end_of-Stmt t = refl
  set-row (more_of-Stmt s rest) t =
      (λ i. set-statement s t i ++ set-row rest (behind s t) i)
      ∙ ap (λ n. numbers t.next (lets_of s) ++ numbers n (lets_in rest)) (behind-next s t)
      ∙ sym (numbers-append t.next (lets_of s) (lets_in rest))

-- ---- numbers differ

abbrev is_not_in : ℕ → List ℕ → Bool
is_not_in n ns = not (list_any (λ m. n == m) ns)

less_not : (a b : ℕ) → a < b → a ≡ b → ⊥
less_not a b lt e = omega arith

both_false : (x y : Bool) → x ≡ false → y ≡ false → (x || y) ≡ false
both_false x y p q = λ i. p i || q i

pub above : (n from many : ℕ) → n < from → list_any (λ m. n == m) (numbers from many) ≡ false
above n from ℕ.zero lt = refl
above n from (ℕ.suc many) lt =
    let ne : n == from ≡ false = ne_eqb n from (λ e. less_not n from lt e) in
    let less : n < 1 + from = omega arith in
    both_false (n == from) (list_any (λ m. n == m) (numbers (1 + from) many)) ne (above n (1 + from) many less)

pub numbers-differ : (from many : ℕ) → differ (numbers from many) ≡ true
numbers-differ from ℕ.zero = refl
numbers-differ from (ℕ.suc many) =
    let less : from < 1 + from = omega arith in
    λ i. not (above from (1 + from) many less i) && numbers-differ (1 + from) many i
