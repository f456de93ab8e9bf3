-- Behind the blocks that are left, ranks are asked one by one.
use Rattle.std.proofs.Common.{◌+◌, sym, ◌∙◌, arith}
use Rattle.row_groups.specs.Strips.{is_held}
use Rattle.row_groups.proofs.Stripping.{first_here, first_nowhere}
use Rattle.row_groups.proofs.strip.first_held.Goals as goal

pub returns-then-is_held : goal.returns-then-is_held
returns-then-is_held c =
    let held = is_held c.args.low (c.args.last + 1) in
    let past = c.loop-place.invariant.past in
    sym (first_here held c.args.ranks.now c.loop-place.place (omega arith) past (sym c.is_held.ensures ∙ c.if-is_held.true))

pub returns : goal.returns
returns c =
    let held = is_held c.args.low (c.args.last + 1) in
    sym (first_nowhere held c.args.ranks.now (λ k inside. c.loop-place.invariant.past k (omega (arith, inside))))
