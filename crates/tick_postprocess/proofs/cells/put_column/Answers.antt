use Rattle.std.proofs.Common.{◌+◌, arith}
use Rattle.std.specs.Prelude.{slice_index_or}
use Rattle.sgl_lanes.specs.Lanes.{lane_of}
use Rattle.tick_postprocess.specs.Blocks.{IsPut}
use Rattle.tick_postprocess.proofs.CellSteps.{of_word}
use Rattle.tick_postprocess.proofs.cells.put_column.Goals as goal

pub returns : goal.returns
returns c items words lane below =
    of_word (λ z. IsPut z (lane_of c.put_finished.new.out lane) c.put_finished.result) c.args.effects.now c.args.combined.now items (c.args.first + lane) c.args.attr
    c.index-effects-attr.result (slice_index_or c.put_words.new.words lane 0)
    words (omega (arith, below, c.requires.rows)) c.requires.attr c.index-effects-attr.is (c.put_words.ensures lane below)
    (λ given stands. c.put_finished.ensures lane given (omega (arith, below, c.requires.few)) stands)
