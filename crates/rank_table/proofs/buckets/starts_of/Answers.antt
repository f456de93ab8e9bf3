-- Behind the bucket of one number more stands the place behind it; and the greatest end up to a bucket is its start.
use Rattle.std.proofs.Common.{◌≡◌, ◌∙◌, ◌<◌, ◌+◌, arith, rules, pos, get_or, length, subst}
use Rattle.std.proofs.lemmas.Int.{to_z-of_z}
use Rattle.std.proofs.lemmas.List.{length-set}
use mir.Val.{SFits}
use mir.Syntax.{w64}
use Rattle.rank_table.specs.Buckets.{AreEnds, bucket_of}
use Rattle.rank_table.proofs.Bucketing.{AreEnds-more, AreStarts-greatest}
use Rattle.rank_table.proofs.buckets.starts_of.Goals as goal

pub loop-place-preserved : goal.loop-place-preserved
loop-place-preserved c =
    let fits : SFits w64 c.args.least = c.ranges.least in
    let zs = c.args.values.now in
    let value = get_or zs c.loop-place.place (pos 0) in
    let fits_value : SFits w64 value = search rules in
    let inside : c.loop-place.place < length zs = omega arith in
    let before = simp to_z-of_z at c.loop-place.invariant.ends in
    let here : c.number_of_bucket-bucket.result ≡ bucket_of c.args.least c.args.shift value = simp to_z-of_z at c.number_of_bucket-bucket.ensures in
    let room : c.number_of_bucket-bucket.result + 1 < length c.loop-place.ends.items =
    omega (arith, here, c.requires.inside c.loop-place.place (pos 0) (omega arith) inside, c.loop-place.invariant.size) in
    let more = AreEnds-more zs c.args.least c.args.shift c.requires.rising c.requires.above c.loop-place.ends.items c.loop-place.place c.number_of_bucket-bucket.result (pos 0) before inside here room in
    simp to_z-of_z (record { size = length-set c.loop-place.ends.items _ _ ∙ c.loop-place.invariant.size; ends = more })

pub returns : goal.returns
returns c =
    let fits : SFits w64 c.args.least = c.ranges.least in
    let zs = c.args.values.now in
    let ends = c.loop-place.ends.items in
    let all : c.loop-place.place ≡ length zs = omega arith in
    let are : AreEnds zs c.args.least c.args.shift c.loop-place.place ends = simp to_z-of_z at c.loop-place.invariant.ends in
    AreStarts-greatest zs c.args.least c.args.shift c.requires.rising c.requires.above c.args.buckets ends _ c.loop-place.invariant.size c.requires.inside
    (subst (λ k. AreEnds zs c.args.least c.args.shift k ends) all are) c.running_greatest.ensures
