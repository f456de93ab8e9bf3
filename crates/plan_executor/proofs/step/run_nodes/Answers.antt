use Rattle.std.proofs.Common.{◌≡◌, ◌<◌, ◌∙◌, ap, sym, length, arith, refl, subst}
use Rattle.plan_executor.specs.Counting.{Counted}
use Rattle.std.proofs.lemmas.List.{length-set}
use Rattle.plan_executor.specs.Frames.{members}
use Rattle.plan_executor.proofs.Counts.{count_here, counted_start, counted_more}
use Rattle.task_scratch.specs.Scratch.{slots_in}
use Rattle.plan_executor.specs.Running.{base_of}
use Rattle.plan_executor.specs.Sinking.{bounds_of, state_of}
use Rattle.plan_executor.proofs.Looping.{looping_start, looping_more, looping_end, looping_over}
use Rattle.plan_executor.proofs.Widths.{width_refl, width_trans}
use Rattle.plan_executor.proofs.step.run_nodes.Goals as goal

pub returns-then-sink-clause-pushes : goal.returns-then-sink-clause-pushes
returns-then-sink-clause-pushes c = λ whole counts runs.
    let l = c.loop-node in
    looping_over (base_of c.args.run.now) c.args.run.now.nodes.now whole counts (bounds_of c.args.run.now.out) (state_of c.args.sink.now c.args.seat.now) (state_of l.sink l.seat)
    l.node l.room.masks.items (slots_in l.room.rows) c.if-sink.true (l.invariant.runs whole counts runs)

pub loop-node-preserved : goal.loop-node-preserved
loop-node-preserved c =
    let l = c.loop-node in
    record {
      inside = c.step.ensures.inside;
      sized = c.step.ensures.sized;
      buffers = c.step.ensures.buffers;
      long = ap length c.step.ensures.reach ∙ ap length c.add_reach.ensures ∙ length-set l.room.reach.items l.node _ ∙ l.invariant.long;
      reach = λ whole counts runs.
          let looping = l.invariant.runs whole counts runs in
          let here = count_here (base_of c.args.run.now) c.args.run.now.nodes.now whole counts l.node l.room.masks.items (slots_in l.room.rows) looping.given c.loop-node-test.true looping.runs in
          let inside : l.node < length l.room.reach.items = omega (arith, c.loop-node-test.true, l.invariant.long, c.requires.reach) in
          counted_more counts c.args.room.now.reach.items l.room.reach.items c.step.new.room.reach.items l.node (length (members c.mask_of-mask.result)) inside (l.invariant.reach whole counts runs)
          (here ∙ ap (λ m. length (members m)) (sym c.mask_of-mask.ensures)) (c.step.ensures.reach ∙ c.add_reach.ensures);
      wide = width_trans l.invariant.wide c.step.ensures.wide;
      ready = c.step.ensures.ready;
      runs = λ whole counts runs.
          looping_more (base_of c.args.run.now) c.args.run.now.nodes.now whole counts (bounds_of c.args.run.now.out) (state_of c.args.sink.now c.args.seat.now) (state_of l.sink l.seat) (state_of c.step.new.sink c.step.new.seat)
          l.node l.room.masks.items c.step.new.room.masks.items (slots_in l.room.rows) (slots_in c.step.new.room.rows) c.loop-node-test.true l.invariant.sized (l.invariant.runs whole counts runs) c.step.ensures.steps c.step.ensures.pushes;
    }

pub returns-clause-pushes : goal.returns-clause-pushes
returns-clause-pushes c = λ whole counts runs.
    let l = c.loop-node in
    looping_end (base_of c.args.run.now) c.args.run.now.nodes.now whole counts (bounds_of c.args.run.now.out) (state_of c.args.sink.now c.args.seat.now) (state_of l.sink l.seat)
    l.node l.room.masks.items (slots_in l.room.rows) c.loop-node-test.false (l.invariant.runs whole counts runs)

pub returns-clause-reach : goal.returns-clause-reach
returns-clause-reach c = λ within whole counts runs.
    let last : c.loop-node.node ≡ length c.args.run.now.nodes.now = omega (arith, c.loop-node-test.false, c.loop-node.auto.node-end) in
    subst (λ n. Counted counts n c.args.room.now.reach.items c.loop-node.room.reach.items) last (c.loop-node.invariant.reach whole counts runs)

pub loop-node-init : goal.loop-node-init
loop-node-init c = record {
  inside = c.requires.inside;
  sized = c.requires.sized;
  buffers = c.requires.buffers;
  long = refl;
  reach = λ whole counts runs. counted_start counts c.args.room.now.reach.items;
  wide = width_refl c.args.room.now.rows;
  ready = c.requires.ready;
  runs = λ whole counts runs.
      looping_start (base_of c.args.run.now) c.args.run.now.nodes.now whole counts (bounds_of c.args.run.now.out) (state_of c.args.sink.now c.args.seat.now) (state_of c.args.sink.now c.args.seat.now)
      c.args.room.now.masks.items (slots_in c.args.room.now.rows) runs;
}
