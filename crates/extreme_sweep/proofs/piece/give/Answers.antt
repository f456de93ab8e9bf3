use Rattle.std.proofs.Common.{◌∙◌, get_or, length-set, arith}
use Rattle.extreme_sweep.proofs.Giving.{found-at, swept-given}
use Rattle.extreme_sweep.proofs.piece.give.Goals as goal

pub loop-number-preserved : goal.loop-number-preserved
loop-number-preserved c =
    let turns = c.args.turns.now in let found = c.args.found.now in let ranks = c.loop-number.ranks.items in let k = c.loop-number.number in let old = c.loop-number.invariant in
    let turn = get_or turns k 0 in let rank = get_or found k 0 in
    record {
      count = length-set ranks turn rank ∙ old.count;
      gives = λ layout windows are before.
          let now = old.gives layout windows are before in
          swept-given layout windows ranks turn rank (omega (arith, c.requires.turns k 0 c.loop-number-test.true, before.count)) (found-at layout windows turns found are k c.loop-number-test.true) now;
    }
