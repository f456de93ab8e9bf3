-- The range is bounded by two ranks.
use Rattle.std.proofs.Common.{◌≡◌, sym}
use Rattle.std.proofs.lemmas.Int.{to_z-of_z}
use Rattle.rank_table.specs.Ranks.{count_below, count_through}
use Rattle.extreme_sweep.proofs.Ranges.{IsRange-same, range-of_ranks}
use Rattle.extreme_sweep.proofs.axis.places_between.Goals as goal
use mir.Val.{SFits}
use mir.Syntax.{w64}
use Rattle.sgl_values.specs.Range.{is_between}

pub returns : goal.returns
returns c =
    let numbers = c.args.numbers.now in let a = c.args.low in let b = c.args.high in
    let a-fits : SFits w64 a = c.ranges.low in
    let b-fits : SFits w64 b = c.ranges.high in
    let low : c.below-first.result ≡ count_below a numbers = simp to_z-of_z at c.below-first.ensures in
    let high : c.through-end.result ≡ count_through b numbers = simp to_z-of_z at c.through-end.ensures in
    IsRange-same (is_between a b) numbers (count_below a numbers) _ (count_through b numbers) _ (sym low) (sym high) (range-of_ranks numbers a b c.requires)
