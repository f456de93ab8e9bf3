use Rattle.std.proofs.Common.{ap, sym, ◌∙◌}
use Rattle.sgl_values.specs.World.{row_at}
use Rattle.sgl_evaluate.specs.Frame.{context_of}
use Rattle.sgl_evaluate.specs.Rights.{passes_each}
use Rattle.sgl_evaluate.proofs.RightSides.{passes_is}
use Rattle.sgl_plain.proofs.action.is_met.Goals as goal

pub returns : goal.returns
returns c =
    let row = row_at c.args.frame.now.tick.world.now.world c.args.row in
    c.passes.ensures
    ∙ ap (λ tests. passes_each (context_of c.args.frame.now) tests row) c.as_slice.ensures
    ∙ sym (ap (λ test. test row) (passes_is (context_of c.args.frame.now) c.args.clause.now.tests))
