-- The first columns are put.
use Rattle.std.proofs.Common.{◌≡◌, ◌<◌, ℕ, [], length, slice_index_or}
use Rattle.tick_postprocess.specs.Blocks.{chosen}
use Rattle.tick_postprocess.proofs.assigning.put_chosen.Given as goal

abbrev pub invariant-loop-attr : goal.invariant-loop-attr
invariant-loop-attr l = record {
  full : length l.new ≡ 32;
  put : (a : ℕ) → a < l.attr → slice_index_or l.new a [] ≡ chosen l.rules l.known a (slice_index_or l.columns a []);
}
