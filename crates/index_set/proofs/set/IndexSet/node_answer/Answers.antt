use Rattle.std.proofs.Common.{◌≡◌, List, Some, [], ap, length, not, sym, subst, take, ◌≤◌, ◌∙◌, arith}
use Rattle.std.proofs.lemmas.Bool.{ne_eqb}
use Rattle.std.proofs.lemmas.List.{length-map, take_all}
use Rattle.std.specs.Prelude.{map, slice_get}
use Rattle.std.specs.Option.{option_copied}
use Rattle.sgl_values.specs.World.{row_at}
use Rattle.sgl_typed.specs.Aggregate.{simple_value}
use Rattle.sgl_typed.specs.declared.script.TExpr.{TExpr}
use Rattle.sgl_typed.specs.Value.{Context}
use Rattle.sgl_evaluate.specs.Forms.{HaveLiterals}
use Rattle.sgl_evaluate.proofs.Forming.{HaveLiterals-values}
use Rattle.battle_algebra.specs.declared.plan.Node.TheVariants.{Agg}
use Rattle.battle_algebra.specs.declared.plan.Plan.{Plan}
use Rattle.index_set.specs.Forms.{AreCallForms}
use Rattle.index_set.specs.Frames.{frame_of}
use Rattle.index_set.specs.Sets.{seed_of}
use Rattle.index_set.specs.Sweeps.{call_of_node}
use Rattle.index_set.proofs.set.IndexSet.node_answer.Given as given
use Rattle.index_set.proofs.set.IndexSet.node_answer.Goals as goal
use Rattle.index_set.proofs.set.IndexSet.node_answer.Goals.{In-Some-Agg}

-- the node calls this aggregate
there : (g : given.Over) (c : goal.In-Some-Agg g)
    → slice_get c.args.of.plan.now.plan.nodes c.args.node ≡ Some (Agg c.in-Some-Agg.field-0-0 c.in-Some-Agg.call c.in-Some-Agg.way c.in-Some-Agg.field-0-3)
there g c =
    ap (λ (p : Plan). slice_get p.nodes c.args.node) (sym c.plan.ensures.plan) ∙ sym c.get.ensures ∙ ap option_copied c.in-Some-Agg.is ∙ ap Some c.in-Some-Agg.field-0-is

pub swept_answer-requires-clause-swept : goal.swept_answer-requires-clause-swept
swept_answer-requires-clause-swept g c = λ swept has. c.requires.built.swept c.args.node c.in-Some-Agg.call swept (ap call_of_node (there g c)) has

pub args_answer-requires-clause-forms : goal.args_answer-requires-clause-forms
args_answer-requires-clause-forms g c = λ forms is.
    subst (λ (x : Context). AreCallForms x.script c.in-Some-Agg.call forms.now) (sym c.frame_at-frame.ensures.context)
    ((c.requires.forms forms is).calls c.in-Some-Agg.call (ap call_of_node (there g (goal.at.args_answer-requires-clause-forms g c).In-Some-Agg)))

pub call_answer-requires-clause-forms : goal.call_answer-requires-clause-forms
call_answer-requires-clause-forms g c = λ forms is.
    subst (λ (x : Context). AreCallForms x.script c.in-Some-Agg.call forms.now) (sym c.frame_at-frame.ensures.context)
    ((c.requires.forms forms is).calls c.in-Some-Agg.call (ap call_of_node (there g (goal.at.call_answer-requires-clause-forms g c).In-Some-Agg)))

pub args_answer-requires-clause-literals : goal.args_answer-requires-clause-literals
args_answer-requires-clause-literals g c =
    let one = c.in-Some-Agg in
    let exprs = one.call.args in
    let world = c.args.of.world.now.world in
    let frame = frame_of c.args.of.script.now world (seed_of c.args.self.now) (row_at world c.args.row) [] in
    let given = c.requires.args (ap not (ne_eqb g.row.ARE_ARGS 0 c.if-this-ne0.true)) in
    let are = given.are [] one.field-0-0 one.call one.way one.field-0-3 (there g (goal.at.args_answer-requires-clause-literals g c).In-Some-Agg) in
    let few : length exprs ≤ 16 = omega (arith, given.few, ap length are, length-map exprs (simple_value frame)) in
    subst (HaveLiterals (take 16 exprs)) (sym (ap (λ (x : Context). x.slots) c.frame_at-frame.ensures.context ∙ are))
    (subst (λ (es : List TExpr). HaveLiterals es (map (simple_value frame) exprs)) (sym (take_all 16 exprs few)) (HaveLiterals-values frame exprs))
