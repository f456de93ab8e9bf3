use Rattle.std.proofs.Common.{◌≤◌, Global, List, Vec, length, subst}
use Rattle.std.proofs.lemmas.Result.{IfOk-at_ok}
use Rattle.sgl_typed.specs.declared.script.TTest.{TTest}
use Rattle.group_sweeps.specs.declared.ask.Ask.{Ask}
use Rattle.group_sweeps.specs.declared.sides.Sides.{Sides}
use Rattle.group_sweeps.specs.Asks.{AreAsks}
use Rattle.group_sweeps.specs.Finds.{point_by}
use Rattle.group_sweeps.specs.Laying.{AreGroupsLaid}
use Rattle.group_sweeps.proofs.Joining.{asked_below}
use Rattle.group_sweeps.proofs.prepared.prepare_sweep.Goals as goal

pub returns : goal.returns
returns g c =
    let a = c.args in
    let world = a.world.now.world in
    let lists = a.groups.now.lists in
    let asks = c.in_ok-asks.asks.items in
    let Asked : Vec Ask Global → Type 0 = λ asks. AreAsks a.script.now world a.seed c.as_slice.result.now a.args.now a.groups.now (length world.rows) asks.items in
    let are = subst (λ (tests : List TTest). AreAsks a.script.now world a.seed tests a.args.now a.groups.now (length world.rows) asks) c.as_slice.ensures
    (IfOk-at_ok Asked c.in_ok-asks.was c.asked_and_laid-asks.ensures.asks) in
    let Few : Vec Ask Global → Type 0 = λ asks. length asks.items ≤ 65536 in
    record {
      ready = record {
        few = IfOk-at_ok Few c.in_ok-asks.was c.asked_and_laid-asks.ensures.few;
        inside = asked_below a.script.now world a.seed a.agg.now.tests a.args.now a.groups.now _ asks c.requires.groups are;
        laid = subst (λ (sides : Sides). AreGroupsLaid (point_by sides world) lists c.in_ok-laid.laid.items) c.sides_of-sides.ensures
            (IfOk-at_ok (λ laid. AreGroupsLaid (point_by c.sides_of-sides.result world) lists laid.items) c.in_ok-laid.was c.asked_and_laid-asks.ensures.laid);
      };
      asks = are;
    }
