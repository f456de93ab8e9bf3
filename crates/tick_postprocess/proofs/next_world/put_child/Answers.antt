use Rattle.std.proofs.Common.{subst, sym}
use Rattle.env_table.specs.Table.{Building}
use Rattle.tick_postprocess.specs.Rows.{bit, Grows}
use Rattle.tick_postprocess.proofs.RowSteps.{grown}
use Rattle.tick_postprocess.proofs.next_world.put_child.Goals as goal

pub returns-clause-grows : goal.returns-clause-grows
returns-clause-grows c =
    subst (λ (b : Building). Grows c.args.out.now b c.args.key (bit c.spawns-born.result)) (sym c.push_if.ensures)
    (grown c.args.out.now c.args.key c.args.ending.now.tick.world.now.width c.post_row.new.child c.spawns-born.result c.requires.push)
