use Rattle.std.proofs.Common.{◌+◌, ap, sym, subst, ◌∙◌, refl, arith}
use Rattle.std.proofs.lemmas.List.{length-take}
use Rattle.std.specs.Option.{option_map}
use Rattle.sgl_typed.specs.Items.{clause_items}
use Rattle.sgl_typed.specs.Value.{Context}
use Rattle.sgl_typed.specs.declared.script.TOn.{TOn}
use Rattle.battle_algebra.specs.Meaning.{items_of_clause}
use Rattle.battle_algebra.specs.declared.plan.Node.TheVariants.{Effect}
use Rattle.sgl_evaluate.specs.Forms.{HaveLiterals}
use Rattle.sgl_evaluate.proofs.Forming.{HaveLiterals-values}
use Rattle.index_set.specs.Forms.{act_of_node}
use Rattle.index_set.specs.Sets.{acting}
use Rattle.index_set.specs.Slabs.{tests_of}
use Rattle.plan_executor.specs.Running.{base_of}
use Rattle.plan_executor.specs.Sinking.{bounds_of, state_of, Pushes}
use Rattle.plan_executor.proofs.Actions.{acting_frame, few_of}
use Rattle.plan_executor.proofs.PlanNodes.{node_there}
use Rattle.plan_executor.proofs.giving.give.Goals as goal

pub slice_bounds-args-end : goal.slice_bounds-args-end
slice_bounds-args-end c = omega (arith, few_of c.args.run.now c.args.node c.args.act.now c.requires.can c.requires.act, c.len-count.ensures, c.evaluate_args.ensures.length)

pub slice_bounds-args-end-in-Some : goal.slice_bounds-args-end-in-Some
slice_bounds-args-end-in-Some c =
    omega (arith, length-take c.len-count.result c.evaluate_args.new.buffer, few_of c.args.run.now c.args.node c.args.act.now c.requires.can c.requires.act, c.len-count.ensures, c.evaluate_args.ensures.length)

pub give_clause-requires-clause-tests : goal.give_clause-requires-clause-tests
give_clause-requires-clause-tests c =
    let run = c.args.run.now in
    let at = c.requires.act in
    ap (tests_of run.tick.script.now) (node_there run.nodes.now run.plan.now.plan.nodes c.args.node (Effect c.args.act.now at.way) c.requires.can.nodes at.is refl)
    ∙ ap (option_map (λ (clause : TOn). clause.tests)) (sym c.in-Some.ensures)

pub give_clause-requires-clause-forms : goal.give_clause-requires-clause-forms
give_clause-requires-clause-forms c = λ forms is.
    let run = c.args.run.now in
    let act = c.args.act.now in
    let at = c.requires.act in
    let there = node_there run.nodes.now run.plan.now.plan.nodes c.args.node (Effect act at.way) c.requires.can.nodes at.is refl in
    let same = acting_frame run c.args.node c.args.row c.args.slots.now act c.evaluate_args.new.buffer c.requires.can at
    c.frame.ensures.context c.as_slice.ensures c.len-count.ensures c.evaluate_args.ensures.values c.frame-frame.ensures.context in
    record {
      args = act.args;
      are = (c.requires.forms forms is).effects act (ap act_of_node there) c.in-Some.clause.now (sym c.in-Some.ensures);
      literals = subst (HaveLiterals act.args) (sym (ap (λ (x : Context). x.slots) same))
          (HaveLiterals-values (record (base_of run c.args.row) { slots = c.args.slots.now }) act.args);
    }

pub returns-in-Some-clause-pushes : goal.returns-in-Some-clause-pushes
returns-in-Some-clause-pushes c =
    let run = c.args.run.now in
    let act = c.args.act.now in
    let ctx : Context = acting run.tick.script.now run.tick.world.now.world run.tick.seed (run.first + c.args.row) c.args.slots.now act in
    let same = acting_frame run c.args.node c.args.row c.args.slots.now act c.evaluate_args.new.buffer c.requires.can c.requires.act
    c.frame.ensures.context c.as_slice.ensures c.len-count.ensures c.evaluate_args.ensures.values c.frame-frame.ensures.context in
    subst (Pushes (bounds_of run.out) (state_of c.args.sink.now c.args.seat.now) (state_of c.give_clause.new.sink c.give_clause.new.seat))
    (ap (λ (x : Context). clause_items x c.in-Some.clause.now) same ∙ ap (items_of_clause ctx) c.in-Some.ensures)
    c.give_clause.ensures.pushes
