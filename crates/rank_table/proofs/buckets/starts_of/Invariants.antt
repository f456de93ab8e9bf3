-- Behind the buckets of the numbers so far stand ends.
use Rattle.std.proofs.Common.{◌≡◌, ◌+◌, length}
use Rattle.rank_table.specs.Buckets.{AreEnds}
use Rattle.rank_table.proofs.buckets.starts_of.Given as goal

abbrev pub invariant-loop-place : goal.invariant-loop-place
invariant-loop-place l = record {
  size : length l.ends.items ≡ l.buckets + 1;
  ends : AreEnds l.values l.least l.shift l.place l.ends.items;
}
