use Rattle.std.proofs.Common.{◌-◌, ◌+◌, arith, length, sym, ◌∙◌}
use Rattle.std.proofs.lemmas.List.{take_all}
use Rattle.plan_rewrite.proofs.Thinning.{all_tidied, none_tidied, tidy_more, took, Took}
use Rattle.plan_rewrite.proofs.pruning.tidy_nodes.Goals as goal

pub loop-init : goal.loop-init
loop-init c = record {
  rest = sym (take_all (length c.args.nodes.now - 0) c.args.nodes.now (omega arith));
  done = none_tidied c.args.nodes.now (length c.args.nodes.now - 0) c.new-grove.result (omega arith) c.new-grove.ensures;
}

pub loop-preserved : goal.loop-preserved
loop-preserved c =
    let old = c.args.nodes.now in
    let i = length old - c.loop.counter in
    let j = length old - (c.loop.counter + 1) in
    let t : Took old c.take_last.new.self j c.in_ok-node.node =
    took old c.loop.nodes c.take_last.new.self i j c.in_ok-node.node (omega (arith, c.loop-test.true, c.len-end.ensures)) (omega (arith, c.loop-test.true, c.len-end.ensures)) c.loop.invariant.rest c.in_ok-node.ensures in
    record {
      rest = t.rest;
      done =
          tidy_more old i j c.loop.grove c.tidy_on.new.grove c.in_ok-node.node (omega (arith, c.loop-test.true, c.len-end.ensures)) (omega (arith, c.loop-test.true, c.len-end.ensures)) t.node_is
          c.in_ok-tidy_on.ensures c.loop.invariant.done;
    }

pub returns : goal.returns
returns c =
    all_tidied c.args.nodes.now c.fill.new.self (length c.args.nodes.now - c.loop.counter) c.loop.grove (omega (arith, c.loop-test.false, c.loop.auto.counter-end, c.len-end.ensures)) (c.fill.ensures ∙ c.into_items.ensures) c.loop.invariant.done
