use Rattle.std.proofs.Common.{List, Option, Some, ap, sym, subst, ◌∙◌}
use Rattle.std.specs.Option.{option_copied, option_map}
use Rattle.sgl_values.specs.World.{World}
use Rattle.sgl_typed.specs.Value.{Context}
use Rattle.sgl_typed.specs.declared.script.TOn.{TOn}
use Rattle.sgl_typed.specs.declared.script.TTest.{TTest}
use Rattle.index_set.specs.Frames.{clause_context_of}
use Rattle.index_set.specs.Sets.{AreTargetsOf, acting}
use Rattle.row_groups.proofs.Walking.{for_some}
use Rattle.index_set.specs.Slabs.{tests_of, IsSlab}
use Rattle.index_set.specs.Targets.{AreTargets}
use Rattle.index_set.proofs.Calls.{acted}
use Rattle.index_set.proofs.set.IndexSet.act_targets.Goals as goal

pub aimed-requires-clause-slab : goal.aimed-requires-clause-slab
aimed-requires-clause-slab c = λ slab is.
    subst (λ (w : World). IsSlab slab c.as_slice-tests.result.now w) (λ i. (sym c.actor_of-actor.ensures.world i).now.world)
    (for_some c.slab-slab.result (λ s. IsSlab s c.as_slice-tests.result.now c.args.of.world.now.world) c.slab-slab.ensures slab is)

pub slab-slab-requires-clause-tests : goal.slab-slab-requires-clause-tests
slab-slab-requires-clause-tests c =
    let script = c.args.of.script.now in
    ap (tests_of script) c.requires.act
    ∙ ap (option_map (λ (clause : TOn). clause.tests)) (sym c.clause_at.ensures ∙ ap option_copied c.in-Some.is)
    ∙ ap Some (sym c.as_slice-tests.ensures)

pub returns-in-Some : goal.returns-in-Some
returns-in-Some c =
    let a = c.args in
    let set = a.self.now in
    let actor = c.actor_of-actor.ensures in
    let ctx : Context = acting a.of.script.now a.of.world.now.world set.seed a.row a.slots.now a.act.now in
    let same = (λ i. clause_context_of (actor.script i) ((actor.world i).now.world) (actor.seed i) (actor.unit i) c.evaluate_args.new.buffer c.len.result)
    ∙ acted a.of.script.now a.of.world.now.world set.seed a.row a.slots.now a.act.now _ c.as_slice.result.now c.evaluate_args.new.buffer c.len.result
    c.frame_at.ensures.context c.as_slice.ensures c.len.ensures c.requires.few c.evaluate_args.ensures.values in
    let of_clause : AreTargets c.aimed.result ctx c.in-Some.clause.now.tests =
    subst (λ (tests : List TTest). AreTargets c.aimed.result ctx tests) c.as_slice-tests.ensures
    (subst (λ (x : Context). AreTargets c.aimed.result x c.as_slice-tests.result.now) same c.aimed.ensures) in
    subst (λ (o : Option TOn). AreTargetsOf c.aimed.result ctx o) (ap option_copied (sym c.in-Some.is) ∙ c.clause_at.ensures) of_clause
