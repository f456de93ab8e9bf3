use Rattle.std.proofs.Common.{ap, sym, ◌∙◌}
use Rattle.sgl_evaluate.specs.Frame.{context_of}
use Rattle.sgl_evaluate.specs.Rights.{first_fault_of}
use Rattle.sgl_evaluate.proofs.RightSides.{aggregate_fault, aggregate_fold}
use Rattle.index_set.proofs.set.IndexSet.agg_answer.Goals as goal

pub returns-in-Some : goal.returns-in-Some
returns-in-Some c =
    aggregate_fault c.args.agg.now (context_of c.args.frame.now) c.in-Some.fault (sym c.in-Some.ensures.fault ∙ ap (first_fault_of (context_of c.args.frame.now)) c.as_slice.ensures)

pub returns-in-None : goal.returns-in-None
returns-in-None c =
    aggregate_fold c.args.agg.now (context_of c.args.frame.now) c.folded.result (sym c.in-None.ensures.whole ∙ ap (first_fault_of (context_of c.args.frame.now)) c.as_slice.ensures) c.folded.ensures
