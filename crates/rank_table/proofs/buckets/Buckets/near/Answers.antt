-- A number is in a bucket that has a start, or behind all of them.
use Rattle.std.proofs.Common.{◌≡◌, ◌≤ℤ◌, arith, rules}
use Rattle.std.proofs.lemmas.Int.{to_z-of_z}
use mir.Val.{SFits}
use mir.Syntax.{w64}
use Rattle.rank_table.specs.Buckets.{bucket_of}
use Rattle.rank_table.proofs.Ranking.{not_lt}
use Rattle.rank_table.proofs.Bucketing.{IsNear-bucket, IsNear-behind, IsWhole-bucket}
use Rattle.rank_table.proofs.buckets.Buckets.near.Goals as goal
use Rattle.rank_table.proofs.buckets.Buckets.near.Goals.{After-number_of_bucket-bucket}

-- the number is not below the least one, and its bucket is what was computed
placed : (c : After-number_of_bucket-bucket) → (c.args.self.now.least ≤ℤ c.args.number) × (c.number_of_bucket-bucket.result ≡ bucket_of c.args.self.now.least c.args.self.now.shift c.args.number)
placed c =
    let fits : SFits w64 c.args.number = c.ranges.number in
    let fits_least : SFits w64 c.args.self.now.least = search rules in
    (not_lt _ _ (simp to_z-of_z at c.if-number-self.false), simp to_z-of_z at c.number_of_bucket-bucket.ensures)

pub returns-then-bucket-last : goal.returns-then-bucket-last
returns-then-bucket-last c =
    let at = placed (goal.at.returns-then-bucket-last c).After-number_of_bucket-bucket in
    record {
      near = λ values lies. rw (c.index.ensures, c.index-then-bucket-last.ensures)
          (IsNear-bucket values c.args.self.now lies c.args.number at.0 _ _ _ at.1 (omega arith));
      whole = λ values lies narrow. rw (c.index.ensures, c.index-then-bucket-last.ensures)
          (IsWhole-bucket values c.args.self.now lies c.args.number at.0 _ _ _ narrow at.1 (omega arith));
    }

pub returns-else-bucket-last : goal.returns-else-bucket-last
returns-else-bucket-last c =
    let at = placed (goal.at.returns-else-bucket-last c).After-number_of_bucket-bucket in
    record {
      near = λ values lies. rw c.index-else-bucket-last.ensures (IsNear-behind values c.args.self.now lies c.args.number at.0 _ _ (omega (arith, at.1)) (omega arith));
      whole = λ values lies narrow k d low high. absurd (omega (arith, low, high));
    }
