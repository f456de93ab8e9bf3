use Rattle.std.proofs.Common.{length, rules}
use Rattle.std.proofs.lemmas.Result.{IfOk-at_ok}
use Rattle.index_set.specs.Prepared.{IsPreparedOf}
use Rattle.index_set.specs.Sets.{KeepsOf}
use Rattle.index_set.specs.declared.prepared.Prepared.{Prepared}
use Rattle.index_set.specs.declared.parts.Rest.{Rest}
use Rattle.index_set.proofs.Sweeping.{answers_nodes}
use Rattle.index_set.proofs.parts.build_beside.Goals as goal

pub sweep_nodes-requires : goal.sweep_nodes-requires
sweep_nodes-requires g c =
    let prepared = IfOk-at_ok (λ (prepared : Prepared). IsPreparedOf prepared c.args.of.now) c.in_ok-prepared.was c.rest_and_prepared-rest.ensures.prepared in
    (search rules, record { keys = c.requires.keys; shelf = prepared.shelf; uses = prepared.uses })

pub returns : goal.returns
returns g c =
    let of = c.args.of.now in
    let nodes = of.plan.now.nodes in
    record {
      keeps = IfOk-at_ok (λ (rest : Rest). KeepsOf rest.shelf rest.own of) c.in_ok-rest.was c.rest_and_prepared-rest.ensures.rest;
      swept = answers_nodes c.in_ok-sweeps.sweeps of.script.now of.world.now.world of.seed nodes (length nodes) c.in_ok-sweeps.ensures;
    }
