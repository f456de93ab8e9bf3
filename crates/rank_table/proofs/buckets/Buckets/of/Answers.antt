-- No number is in a bucket behind that of the last one.
use Rattle.std.proofs.Common.{◌≡◌, ◌∙◌, ◌<◌, ◌-◌, ap, arith, rules, get_or, length, unsigned_abs, ◌-ℤ◌}
use Rattle.std.specs.Option.{unwrap_or}
use Rattle.std.proofs.lemmas.Int.{to_z-of_z}
use Rattle.std.proofs.lemmas.Option.{unwrap_or-slice_get}
use mir.Val.{SFits}
use mir.Syntax.{w64}
use Rattle.rank_table.specs.Buckets.{bucket_of, AreAbove}
use Rattle.rank_table.proofs.Bucketing.{within-last}
use Rattle.rank_table.proofs.buckets.Buckets.of.Goals as goal
use Rattle.rank_table.proofs.buckets.Buckets.of.Goals.{then-is_empty, else-is_empty}

pub starts_of-requires-clause-inside : goal.starts_of-requires-clause-inside
starts_of-requires-clause-inside c k d low high = elim c.if-is_empty.branch [
  | then-is_empty w ↦ absurd (grind (arith, w.if-is_empty.ensures, high))
  | else-is_empty w ↦
      let zs = c.args.values.now in
      let least = c.least_of-least.result in
      let fits : SFits w64 least = search rules in
      let fits_greatest : SFits w64 c.unwrap_or-greatest.result = search rules in
      let above : AreAbove least zs = c.least_of-least.ensures in
      let greatest : c.unwrap_or-greatest.result ≡ unwrap_or c.copied.result least = simp to_z-of_z at c.unwrap_or-greatest.ensures in
      let spread : c.abs_diff-spread.result ≡ unsigned_abs (c.unwrap_or-greatest.result -ℤ least) = simp to_z-of_z at c.abs_diff-spread.ensures in
      let inside = within-last zs least c.shift_for-shift.result c.requires.rising above c.abs_diff-spread.result c.unwrap_or-greatest.result
      (greatest ∙ ap (λ o. unwrap_or o least) (c.copied.ensures ∙ c.last.ensures.value) ∙ unwrap_or-slice_get zs (length zs - 1) least) spread in
      let below : bucket_of least c.shift_for-shift.result (get_or zs k d) < c.if-is_empty.buckets = omega (arith, inside k d low high, w.buckets-is) in
      simp to_z-of_z below
]
