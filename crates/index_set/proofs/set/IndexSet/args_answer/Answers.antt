use Rattle.std.proofs.Common.{Option, ap, sym, ◌∙◌}
use Rattle.sgl_typed.specs.Aggregate.{call_of}
use Rattle.sgl_typed.specs.declared.script.TAgg.{TAgg}
use Rattle.sgl_evaluate.specs.Frame.{context_of}
use Rattle.index_set.proofs.set.IndexSet.args_answer.Goals as goal

pub returns-in-Some : goal.returns-in-Some
returns-in-Some c =
    let frame = context_of c.args.frame.now in
    c.agg_answer.ensures ∙ ap (λ (o : Option TAgg). call_of frame o frame.slots) c.in-Some.ensures

pub agg_answer-requires-clause-forms : goal.agg_answer-requires-clause-forms
agg_answer-requires-clause-forms c = λ forms is. record {
  args = _;
  are = c.requires.forms forms is c.in-Some.agg.now (sym c.in-Some.ensures);
  literals = c.requires.literals;
}
