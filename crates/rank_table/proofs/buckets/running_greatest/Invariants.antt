-- The first numbers have become the greatest of those up to them.
use Rattle.rank_table.proofs.Bucketing.{AreGreatestTo}
use Rattle.rank_table.proofs.buckets.running_greatest.Given as goal

abbrev pub invariant-loop-place : goal.invariant-loop-place
invariant-loop-place l = AreGreatestTo l.initial.numbers.items l.place l.greatest l.numbers.items
