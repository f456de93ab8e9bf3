-- The quotients of both ends are those of their numbers.
use Rattle.std.proofs.Common.{◌≡◌, ℤ, pos, ◌+ℤ◌, ◌-ℤ◌, rules, subst}
use Rattle.std.specs.Prelude.{◌<ℤ◌}
use Rattle.std.proofs.lemmas.Int.{to_z-of_z}
use mir.Val.{SFits}
use mir.Syntax.{w64}
use Rattle.cell_keep.specs.Grid.{quotient}
use Rattle.cell_keep.proofs.span.Span.around.Goals as goal

pub returns : goal.returns
returns c =
    let first = c.near_quotient-first.result in
    let fits : SFits w64 first = search rules in
    let fits_last : SFits w64 c.near_quotient-last.result = search rules in
    let from : first ≡ quotient (c.args.centre -ℤ c.args.radius) = search rules in
    let to : c.near_quotient-last.result ≡ quotient (c.args.centre +ℤ c.args.radius) = search rules in
    let below : c.near_quotient-last.result <ℤ (first +ℤ pos c.in_ok-count.count) = simp to_z-of_z at c.in_ok-count.ensures in
    simp to_z-of_z (from, subst (λ (z : ℤ). z <ℤ (first +ℤ pos c.in_ok-count.count)) to below, c.near_quotient-first.ensures.low, c.near_quotient-first.ensures.high)
