use Rattle.std.proofs.Common.{◌≡◌, ◌∙◌, false, ap, sym, arith}
use Rattle.sgl_values.specs.declared.fault.Val.TheVariants.{B}
use Rattle.sgl_lanes.proofs.LaneSets.{has_zero}
use Rattle.tick_postprocess.proofs.lane_sets.known_lanes.Goals as goal

pub returns-then-not-is_there : goal.returns-then-not-is_there
returns-then-not-is_there c lane value below absent held =
    let none : c.args.is_there ≡ false = grind (arith, c.if-not-is_there.true) in
    absent none ∙ ap B (sym (has_zero lane))
