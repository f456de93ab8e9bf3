use Rattle.std.proofs.Common.{List, subst, sym}
use Rattle.index_set.specs.Prepared.{ArePreparedOf}
use Rattle.index_set.specs.declared.prepared.PreparedUse.{PreparedUse}
use Rattle.index_set.proofs.Preparing.{none_ready}
use Rattle.index_set.proofs.prepared.prepare_nodes.Goals as goal

pub loop-node-init : goal.loop-node-init
loop-node-init g c =
    let of = c.args.of.now in
    subst (λ (uses : List PreparedUse). ArePreparedOf uses c.args.shelf.now of) (sym c.new-ready.ensures)
    (none_ready c.args.shelf.now of.script.now of.world.now.world of.seed of.plan.now.nodes)

pub loop-node-preserved : goal.loop-node-preserved
loop-node-preserved g c = c.in_ok-prepare_node.ensures
