use Rattle.std.proofs.Common.{rules}
use Rattle.std.proofs.lemmas.Int.{to_z-of_z}
use mir.Val.{SFits}
use mir.Syntax.{w64}
use Rattle.sgl_values.specs.Range.{is_between}
use Rattle.extreme_sweep.specs.declared.window.SweepPoint.{SweepPoint}
use Rattle.extreme_sweep.specs.Sweeping.{laid_points}
use Rattle.extreme_sweep.proofs.Ranges.{range-unmap}
use Rattle.extreme_sweep.proofs.layout.Layout.places_in.Goals as goal

pub returns : goal.returns
returns c =
    let layout = c.args.self.now in let w = c.args.window.now in let range = c.places_between.result in
    let low : SFits w64 w.y1 = search rules in let high : SFits w64 w.y2 = search rules in
    range-unmap (λ (p : SweepPoint). p.y) (is_between w.y1 w.y2) (laid_points layout) layout.ys range.0 range.1 c.requires.ys (simp to_z-of_z at c.places_between.ensures)
