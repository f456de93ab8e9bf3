use Rattle.std.proofs.Common.{◌≡◌}
use Rattle.effect_combine.specs.Finished.{cell_or_overflow}
use Rattle.tick_postprocess.proofs.CellSteps.{of_word}
use Rattle.tick_postprocess.proofs.cells.cell.Goals as goal

pub returns : goal.returns
returns c items words =
    of_word (λ z. c.finish.result ≡ cell_or_overflow z) c.args.effects.now c.args.combined.now items c.args.row c.args.attr c.index-effects-attr.result c.word.result
    words c.requires.row c.requires.attr c.index-effects-attr.is c.word.ensures.value c.finish.ensures.cell
