use Rattle.std.proofs.Common.{◌+◌, ◌*◌, ◌<◌, List, length, sym, ap, ◌∙◌, subst}
use Rattle.sgl_values.specs.declared.fault.Tag.{Tag}
use Rattle.tick_core.specs.Core.{tag_of}
use Rattle.effect_board.specs.Handles.{rows_of, tags_of}
use Rattle.effect_board.proofs.Giving.{cell_inside}
use Rattle.effect_board.proofs.handles.EffectBoard.give_cell.Goals as goal

pub give_word-requires-clause-inside : goal.give_word-requires-clause-inside
give_word-requires-clause-inside c =
    let board = c.args.self.now in
    let cell = c.args.cell in
    subst (λ (l : List Tag). cell.row * length l + cell.attr < rows_of board * length (tags_of board)) (sym c.as_slice-tags.ensures.value)
    (cell_inside cell.row (rows_of board) cell.attr (length (tags_of board)) c.requires.row c.requires.attr)

pub give_word-requires-clause-tag : goal.give_word-requires-clause-tag
give_word-requires-clause-tag c =
    let cell = c.args.cell in
    let tags : List Tag = c.as_slice-tags.result.now in
    c.tag_of-tag.ensures ∙ ap (λ (l : List Tag). tag_of l (cell.row * length tags + cell.attr)) c.as_slice-tags.ensures.value
