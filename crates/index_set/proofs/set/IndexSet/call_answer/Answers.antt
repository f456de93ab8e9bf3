use Rattle.std.proofs.Common.{ℕ, min, length, take, ap, sym, subst, ◌∙◌}
use Rattle.std.specs.Prelude.{slice_get}
use Rattle.sgl_typed.specs.Aggregate.{call_of}
use Rattle.sgl_typed.specs.Value.{Context}
use Rattle.sgl_evaluate.specs.Frame.{context_of}
use Rattle.sgl_evaluate.specs.Forms.{HaveLiterals}
use Rattle.sgl_evaluate.proofs.Forming.{HaveLiterals-values}
use Rattle.index_set.specs.Forms.{AreCallForms}
use Rattle.index_set.specs.Sets.{KeepsAll}
use Rattle.index_set.proofs.Calls.{called, called_values}
use Rattle.index_set.proofs.set.IndexSet.call_answer.Goals as goal

pub returns : goal.returns
returns c =
    let frame = context_of c.args.frame.now in
    let call = c.args.call.now in
    let values = called_values frame call.args c.as_slice.result.now c.evaluate_args.new.buffer c.min-count.result c.as_slice.ensures
    (c.min-count.ensures ∙ ap (λ (n : ℕ). min n 16) (c.len.ensures ∙ sym (ap length c.as_slice.ensures))) c.evaluate_args.ensures.values in
    called frame call (take c.min-count.result c.evaluate_args.new.buffer) c.args_answer.result values
    (c.args_answer.ensures ∙ ap (λ (x : Context). call_of x (slice_get x.script.aggs call.agg) x.slots) c.with_slots.ensures.context)

pub args_answer-requires-clause-kept : goal.args_answer-requires-clause-kept
args_answer-requires-clause-kept c =
    subst (λ (x : Context). KeepsAll c.args.self.now x.script x.world) (sym c.with_slots.ensures.context) c.requires.kept

pub args_answer-requires-clause-forms : goal.args_answer-requires-clause-forms
args_answer-requires-clause-forms c = λ forms is.
    subst (λ (x : Context). AreCallForms x.script c.args.call.now forms.now) (sym c.with_slots.ensures.context) (c.requires.forms forms is)

pub args_answer-requires-clause-literals : goal.args_answer-requires-clause-literals
args_answer-requires-clause-literals c =
    let args = c.args.call.now.args in
    let frame = context_of c.args.frame.now in
    subst (HaveLiterals (take 16 args))
    (sym (ap (λ (x : Context). x.slots) c.with_slots.ensures.context
    ∙ called_values frame args c.as_slice.result.now c.evaluate_args.new.buffer c.min-count.result c.as_slice.ensures
    (c.min-count.ensures ∙ ap (λ (n : ℕ). min n 16) (c.len.ensures ∙ sym (ap length c.as_slice.ensures))) c.evaluate_args.ensures.values))
    (HaveLiterals-values frame (take 16 args))
