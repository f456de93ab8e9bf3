-- The points by rising pair are those of the layout in another order.
use Rattle.std.proofs.Common.{◌∙◌}
use Rattle.extreme_sweep.specs.Sweeping.{laid_points}
use Rattle.extreme_sweep.specs.Answers.{window_at}
use Rattle.extreme_sweep.proofs.Scanning.{least-IsPermutation}
use Rattle.extreme_sweep.proofs.sweep_windows.ranks_of.Goals as goal

pub returns : goal.returns
returns g c =
    let layout = c.args.layout.now in
    let windows = c.args.windows.now in
    record {
      count = c.in_ok-ranks.ensures.count;
      each = λ number inside swept.
          c.in_ok-ranks.ensures.each number inside swept
          ∙ least-IsPermutation (window_at windows number) layout.ranked.items (laid_points layout) c.requires.layout.moved;
    }
