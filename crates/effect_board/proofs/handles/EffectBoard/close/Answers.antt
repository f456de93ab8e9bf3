use Rattle.std.proofs.Common.{◌≡◌, ℕ, ◌*◌, List, length, sym, ap, ◌∙◌, subst}
use Rattle.std.specs.Mem.Slots.{slots_items}
use Rattle.sgl_values.specs.declared.fault.Tag.{Tag}
use Rattle.effect_board.specs.declared.rule.BoardLayout.{BoardLayout}
use Rattle.effect_board.specs.Handles.{view_of}
use Rattle.effect_board.specs.Rule.{Ends}
use Rattle.effect_board.specs.Views.{gives_in, table_rows}
use Rattle.effect_board.proofs.Closing.{closes, ends_either}
use Rattle.effect_board.proofs.Own.{IsMerged}
use Rattle.effect_board.proofs.handles.EffectBoard.close.Goals as goal

pub returns : goal.returns
returns c =
    let board = c.args.self in
    let seat = c.args.seat in
    let closed = c.close_with-closed in
    let shared : List ℕ = c.read_words-shared.result.items in
    let key = board.table.shared.key in
    let layout = board.layout in
    let long : length shared ≡ table_rows key.alone key.rows * length key.tags.items
    = c.read_words-shared.ensures.sized ∙ board.roomy ∙ ap (λ (l : BoardLayout). table_rows l.alone l.rows * length l.tags.items) (sym board.key) in
    let ends : Ends key.tasks (table_rows key.alone key.rows) key.tags.items seat.place.me.0 record { rows = table_rows key.alone key.rows; width = length key.tags.items; words = shared }
    = closes key.tasks (table_rows key.alone key.rows) key.tags.items seat.place.id seat.place.me.0 (slots_items closed.result.words) (slots_items closed.result.slots) shared
    closed.ensures.values.2 seat.lives c.requires.whole long c.read_words-shared.ensures.words in
    let placed : Ends layout.tasks (table_rows layout.alone layout.rows) layout.tags.items seat.place.me.0 record { rows = table_rows layout.alone layout.rows; width = length layout.tags.items; words = shared }
    = subst (λ (l : BoardLayout). Ends l.tasks (table_rows l.alone l.rows) l.tags.items seat.place.me.0 record { rows = table_rows l.alone l.rows; width = length l.tags.items; words = shared }) board.key ends in
    let all = ends_either layout.tasks layout.rows layout.tags.items seat.place.me.0 (gives_in seat.told.numbers) seat.own.items shared layout.alone placed c.requires.of.own
    (subst (λ (l : List Tag). IsMerged l seat.own.items (gives_in seat.told.numbers)) c.requires.of.tags seat.own_is) (λ none. ap gives_in (seat.shared none)) seat.alone in
    subst (Ends layout.tasks layout.rows layout.tags.items (view_of seat))
    (sym (c.of.ensures ∙ (λ k. record { rows = layout.rows; width = (c.len.ensures ∙ layout.tags.ok.0) k; words = c.one_of-words.ensures k })))
    all
