-- Slots that are not read.
use Rattle.std.proofs.Common.{◌≡◌, ℕ, ◌+◌, ◌<◌, Bool, true, false, List, [], ◌∷◌, ◌++◌, length, take, get_or, refl, ap, sym, ◌∙◌, arith}
use Rattle.std.specs.Prelude.{◌&&◌}
use Rattle.std.proofs.lemmas.List.{take_more}
use Rattle.sgl_values.specs.declared.place.Place.{Place}
use Rattle.sgl_values.specs.declared.operator.BinOp.{BinOp}
use Rattle.sgl_typed.proofs.Equations.{reads-Binary}
use Rattle.sgl_typed.specs.Reads.{reads_only, list_reads_only}
use Rattle.sgl_typed.specs.declared.script.TExpr.{TExpr}
use Rattle.sgl_typed.specs.declared.script.TExpr.TheVariants.{Binary}
use Rattle.battle_algebra.proofs.Bools.{and_push}

pub binary_avoids : (e l r l' r' : TExpr) (op : BinOp) (place : Place) (p : ℕ → Bool) (b c : Bool) → e ≡ Binary op l r place → l' ≡ l → r' ≡ r → b ≡ reads_only l' p → c ≡ reads_only r' p → (b && c) ≡ reads_only e p
binary_avoids e l r l' r' op place p b c is same same' first second =
    (λ i. (first ∙ ap (λ x. reads_only x p) same) i && (second ∙ ap (λ x. reads_only x p) same') i) ∙ sym (reads-Binary op l r place p) ∙ ap (λ x. reads_only x p) (sym is)

list_read-append : (xs ys : List TExpr) (p : ℕ → Bool) → list_reads_only (xs ++ ys) p ≡ (list_reads_only xs p && list_reads_only ys p)
list_read-append [] ys p = refl
list_read-append (x ∷ xs) ys p = ap (λ b. reads_only x p && b) (list_read-append xs ys p) ∙ sym (and_push (reads_only x p) (list_reads_only xs p) (list_reads_only ys p))

pub list_more : (es : List TExpr) (i : ℕ) (e : TExpr) (p : ℕ → Bool) → i < length es → e ≡ get_or es i e → list_reads_only (take i es) p ≡ true → reads_only e p ≡ true → list_reads_only (take (i + 1) es) p ≡ true
list_more es i e p lt is before own =
    ap (λ xs. list_reads_only xs p) (take_more es i e lt ∙ ap (λ x. take i es ++ x ∷ []) (sym is)) ∙ list_read-append (take i es) (e ∷ []) p ∙ (λ k. before k && (own k && true))

pub list_stops : (es : List TExpr) (i : ℕ) (e : TExpr) (p : ℕ → Bool) → i < length es → e ≡ get_or es i e → reads_only e p ≡ false → false ≡ list_reads_only es p
list_stops [] i e p lt is out = absurd (omega (arith, lt))
list_stops (x ∷ es) ℕ.zero e p lt is out = λ k. sym (ap (λ y. reads_only y p) (sym is) ∙ out) k && list_reads_only es p
list_stops (x ∷ es) (ℕ.suc i) e p lt is out = sym (none (reads_only x p)) ∙ ap (λ b. reads_only x p && b) (list_stops es i e p (omega (arith, lt)) is out)
  where
    none : (b : Bool) → (b && false) ≡ false
    none true = refl
    none false = refl
