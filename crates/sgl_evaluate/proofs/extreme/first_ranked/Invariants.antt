use Rattle.std.proofs.Common.{◌≡◌, ◌<◌, length, drop}
use Rattle.std.specs.List.{filter}
use Rattle.std.specs.Option.{option_map, ForSome}
use Rattle.sgl_values.specs.Least.{least_of}
use Rattle.sgl_values.specs.World.{row_at}
use Rattle.sgl_evaluate.specs.Frame.{context_of}
use Rattle.sgl_evaluate.specs.Rank.{ranked}
use Rattle.sgl_evaluate.specs.Rights.{passes_each}
use Rattle.sgl_evaluate.proofs.extreme.first_ranked.Given as goal

abbrev pub invariant-loop-row : goal.invariant-loop-row
invariant-loop-row l = record {
  found : option_map (row_at l.frame.tick.world.now.world) l.best ≡ least_of (ranked l.rank (context_of l.frame).unit) (filter (passes_each (context_of l.frame) l.tests) (drop l.row l.frame.tick.world.now.world.rows));
  within : ForSome l.best (λ row. row < length l.frame.tick.world.now.world.rows);
}
