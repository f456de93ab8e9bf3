use Rattle.std.proofs.Common.{◌+◌, ◌<◌, ◌∙◌, length, pos, arith}
use Rattle.std.proofs.Math.Nat.{suc-mul}
use Rattle.std.proofs.lemmas.List.{get_or-set_other, get_or_default, length-set}
use Rattle.env_table.proofs.Columns.{put_more}
use Rattle.env_table.proofs.arrays.put_some.Goals as goal

pub loop-place-preserved : goal.loop-place-preserved
loop-place-preserved c =
    let inv = c.loop-place.invariant in
    let n = c.loop-place.place in
    let width = c.args.width in
    let column = c.args.column.now in
    let inside : c.loop-place.at < length c.loop-place.values = omega (arith, inv.at, inv.long, c.requires.inside n c.loop-place-test.true) in
    let value = get_or_default column (c.args.lane + n) c.index-column-lane.result (pos 0) (omega (arith, c.loop-place-test.true, c.requires.lanes, c.told-column)) in
    record {
      at = omega (arith, inv.at, suc-mul n width);
      long = length-set c.loop-place.values c.loop-place.at _ ∙ inv.long;
      put = put_more c.loop-place.values column c.args.from width c.args.lane n c.loop-place.at _ c.requires.narrow.0 inv.at inside value inv.put;
      other = λ i d apart.
          get_or-set_other c.loop-place.values c.loop-place.at i _ d (λ same. apart n (omega arith) (same ∙ inv.at))
          ∙ inv.other i d (λ k lt. apart k (omega (arith, lt)));
    }
