-- Definitions by the variants of expressions and statements, over plain lists.
use Rattle.std.proofs.Common.{◌≡◌, ℕ, ◌+◌, List, [], ◌∷◌, ◌++◌, Some, refl, ap, ◌∙◌}
use denote.Hole.Carrier.{hidden}
use Rattle.sgl_values.specs.declared.place.Place.{Place}
use Rattle.sgl_typed.specs.declared.script.TExpr.{TExpr}
use Rattle.sgl_typed.specs.declared.script.TStmt.{TStmt}
use Rattle.sgl_typed.specs.declared.script.TStmt.TheVariants.{If}
use Rattle.sgl_typed.specs.declared.script.TStmt.TheBlock.{shape-the_row-TStmt-0, hidden-the_row-TStmt-0}
use Rattle.sgl_expand.specs.declared.numbers.Numbered.{Numbered}
use Rattle.sgl_typed.specs.declared.script.TRoutine.{TRoutine}
use Rattle.sgl_expand.specs.Pruned.{before, pruned, pruned_block, pruned_all}
use Rattle.sgl_expand.specs.Written.{renumbered, lets, Writer, known_behind, written, written_block, written_all}

-- ---- blocks, as lists of statements

pub written-hidden : (writers : List Writer) (block : List TStmt) (known : List Numbered) (next : ℕ) → written_block writers (hidden-the_row-TStmt-0 block) known next ≡ written_all writers block known next
unfolding shape-the_row-TStmt-0 hidden-the_row-TStmt-0 hidden
written-hidden writers [] known next = refl
written-hidden writers (s ∷ rest) known next =
    ap (λ more. written writers s known next ++ more) (written-hidden writers rest (known_behind s known next) (next + lets (written writers s known next)))

pub written-If : (writers : List Writer) (cond : TExpr) (place : Place) (taken other : List TStmt) (known : List Numbered) (next : ℕ)
    → written writers (If cond place taken other) known next
    ≡ If (renumbered known cond) place (written_all writers taken known next) (written_all writers other known (next + lets (written_all writers taken known next))) ∷ []
unfolding shape-the_row-TStmt-0 hidden-the_row-TStmt-0 hidden
written-If writers cond place taken other known next =
    λ i. If (renumbered known cond) place (written-hidden writers taken known next i)
    (written_both i) ∷ []
  where
    written_both : written_block writers (hidden-the_row-TStmt-0 other) known (next + lets (written_block writers (hidden-the_row-TStmt-0 taken) known next)) ≡ written_all writers other known (next + lets (written_all writers taken known next))
    written_both = written-hidden writers other known (next + lets (written_block writers (hidden-the_row-TStmt-0 taken) known next)) ∙ ap (λ first. written_all writers other known (next + lets first)) (written-hidden writers taken known next)

pub known-If : (cond : TExpr) (place : Place) (taken other : List TStmt) (known : List Numbered) (next : ℕ) → known_behind (If cond place taken other) known next ≡ known
unfolding shape-the_row-TStmt-0 hidden-the_row-TStmt-0 hidden
known-If cond place taken other known next = refl

pub pruned-hidden : (done : List TRoutine) (block : List TStmt) → pruned_block done (hidden-the_row-TStmt-0 block) ≡ pruned_all done block
unfolding shape-the_row-TStmt-0 hidden-the_row-TStmt-0 hidden
pruned-hidden done [] = refl
pruned-hidden done (s ∷ rest) = ap (before (pruned done s)) (pruned-hidden done rest)

pub pruned-If : (done : List TRoutine) (cond : TExpr) (place : Place) (taken other : List TStmt) → pruned done (If cond place taken other) ≡ Some (If cond place (pruned_all done taken) (pruned_all done other))
unfolding shape-the_row-TStmt-0 hidden-the_row-TStmt-0 hidden
pruned-If done cond place taken other = λ i. Some (If cond place (pruned-hidden done taken i) (pruned-hidden done other i))
