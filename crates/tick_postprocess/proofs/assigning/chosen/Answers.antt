use Rattle.std.proofs.Common.{ap, sym, ◌∙◌}
use Rattle.sgl_typed.specs.declared.script.TRule.{TRule}
use Rattle.tick_postprocess.proofs.Chosen.{chosen_next}
use Rattle.tick_postprocess.proofs.assigning.chosen.Goals as goal

pub loop-at-preserved : goal.loop-at-preserved
loop-at-preserved c =
    let is = c.index-rules-at.is in
    c.loop-at.invariant
    ∙ chosen_next c.args.rules.now c.args.known.now c.args.attr c.loop-at.at c.args.old.now c.index-rules-at.result c.loop-at-test.true c.requires is
    (λ same. c.if-rules-at.false (ap (λ (r : TRule). r.attr) (sym is) ∙ same))
