use Rattle.std.proofs.Common.{List, Option, ◌+◌, sym, subst}
use Rattle.index_set.specs.Owned.{AreOwn}
use Rattle.index_set.specs.Rounds.{IsRound}
use Rattle.index_set.specs.declared.round.Round.{Round}
use Rattle.index_set.proofs.Owning.{own_more}
use Rattle.index_set.proofs.round.round_aggs.Goals as goal

pub loop-number-preserved : goal.loop-number-preserved
loop-number-preserved g c =
    let script = c.args.of.now.script.now in
    let is = IsRound c.args.of.now.world.now.world in
    subst (λ (rounds : List (Option Round)). AreOwn is rounds (c.loop-number.number + 1) script) (sym c.in_ok-push.ensures.items)
    (own_more is script c.loop-number.rounds.items c.loop-number.number c.in_ok-round_for.field-0 c.loop-number.invariant c.in_ok-round_for.ensures)
