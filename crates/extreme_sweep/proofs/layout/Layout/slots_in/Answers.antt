use Rattle.std.proofs.Common.{rules}
use Rattle.std.proofs.lemmas.Int.{to_z-of_z}
use mir.Val.{SFits}
use mir.Syntax.{w64}
use Rattle.extreme_sweep.proofs.layout.Layout.slots_in.Goals as goal

pub returns : goal.returns
returns c =
    let w = c.args.window.now in
    let low : SFits w64 w.x1 = search rules in let high : SFits w64 w.x2 = search rules in
    simp to_z-of_z at c.places_between.ensures
