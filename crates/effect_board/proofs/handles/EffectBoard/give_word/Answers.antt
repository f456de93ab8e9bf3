use Rattle.std.proofs.Common.{List, sym, ap, ◌∙◌}
use Rattle.sgl_values.specs.declared.fault.Tag.{Tag}
use Rattle.tick_core.specs.Core.{tag_of}
use Rattle.effect_board.proofs.handles.EffectBoard.give_word.Goals as goal

pub keep-requires-clause-tag : goal.keep-requires-clause-tag
keep-requires-clause-tag c = c.requires.tag ∙ ap (λ (l : List Tag). tag_of l c.args.word) (sym c.requires.of.tags)
