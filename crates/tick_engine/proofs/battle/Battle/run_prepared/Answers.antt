use Rattle.std.proofs.Common.{◌≡◌, subst}
use Rattle.task_scratch.specs.Scratch.{reach_at}
use Rattle.tick_engine.specs.Jobs.{frames_at}
use Rattle.tick_engine.specs.State.{State}
use Rattle.tick_engine.proofs.battle.Battle.run_prepared.Goals as goal

pub returns-in_ok-next-in-Planned-clause-reach : goal.returns-in_ok-next-in-Planned-clause-reach
returns-in_ok-next-in-Planned-clause-reach g c = λ planned node.
    subst (λ (s : State). reach_at c.in_ok-next-in-Planned.reached.items node ≡ frames_at s.script s.plan s.world.world s.settings.seed node) c.self.view_is
    (c.in_ok-next-in-Planned.ensures.reach node)
