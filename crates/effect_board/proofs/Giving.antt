-- What a give asks of the board.
use Rattle.std.proofs.Common.{◌≡◌, ℕ, suc, ◌+◌, ◌*◌, ◌<◌, ◌≤◌, Bool, true, false, length, refl, sym, ap, ◌∙◌, mul-le-mul_right, suc-mul, arith}
use mathlib.Core.Option.{none}
use Rattle.atomic_table.specs.Table.{State, step, Allows}
use Rattle.sgl_values.specs.declared.fault.Tag.{Tag}
use Rattle.effect_combine.specs.Words.{merged}
use Rattle.tick_core.specs.Core.{tag_of}
use Rattle.effect_board.specs.declared.view.View.{View}
use Rattle.effect_board.specs.declared.handles.Seat.{Seat}
use Rattle.effect_board.specs.declared.handles.EffectBoard.{EffectBoard}
use Rattle.effect_board.specs.declared.rule.BoardLayout.{BoardLayout}
use Rattle.effect_board.specs.Handles.{IsSeatOf, is_alone, rows_of, tags_of}
use Rattle.effect_board.specs.Views.{own_rows, table_rows}
use Rattle.effect_board.specs.Rule.{Kept, Gives}
use Rattle.effect_board.proofs.Keeping.{gives}

-- a cell of the grid has a word
pub cell_inside : (row rows attr width : ℕ) → row < rows → attr < width → row * width + attr < rows * width
cell_inside row rows attr width row_in attr_in =
    let whole : suc row * width ≤ rows * width = mul-le-mul_right width row_in in
    let more = suc-mul row width in
    omega (arith, whole, more, attr_in)

-- a word that the seat has not for itself is one that workers share
shared_by : (alone : Bool) (rows width own word : ℕ) → own ≡ own_rows alone rows * width → word < rows * width → own ≤ word → alone ≡ false
shared_by true rows width own word long inside past = absurd (omega (arith, long, inside, past))
shared_by false rows width own word long inside past = refl

-- a seat that has words for itself has all
own_all : (alone : Bool) (rows width own : ℕ) → own ≡ own_rows alone rows * width → 0 < own → own ≡ rows * width
own_all true rows width own long some = long
own_all false rows width own long some = absurd (omega (arith, long, some))

pub own_inside : (board : EffectBoard) (seat : Seat) (row attr : ℕ) → IsSeatOf board seat → 0 < length seat.own.items → row < rows_of board → attr < length (tags_of board)
    → row * length (tags_of board) + attr < length seat.own.items
own_inside board seat row attr of some row_in attr_in =
    let there = cell_inside row (rows_of board) attr (length (tags_of board)) row_in attr_in in
    let all = own_all (is_alone board) (rows_of board) (length (tags_of board)) (length seat.own.items) of.own some in
    omega (arith, there, all)

module _ (board : EffectBoard) (seat : Seat) (word amount : ℕ) (tag found : Tag) (of : IsSeatOf board seat) (inside : word < rows_of board * length (tags_of board)) (past : length seat.own.items ≤ word) where
  is_shared : is_alone board ≡ false
  is_shared = shared_by (is_alone board) (rows_of board) (length (tags_of board)) (length seat.own.items) word of.own inside past

  pub gives_at : found ≡ tag_of (tags_of board) word → found ≡ tag
      → (seat.place.table_id ≡ board.table.shared.table_id) × (word + 1 < board.table.shared.table_id.words)
      × Allows (λ (s : State ℕ View). Kept board.table.shared.key.tasks (table_rows board.table.shared.key.alone board.table.shared.key.rows) board.table.shared.key.tags.items s.words s.views)
      board.table.shared.table_id.slots
      seat.place.id (seat.place.me.0, seat.place.me.1) (word + 1) (λ n. merged tag n amount) (Gives (step board.table.shared.table_id.slots (word + 1) amount 0 none) (seat.place.me.0, seat.place.me.1))
  gives_at told is =
      let shared = board.table.shared in
      let counts = board.words in
      let rows : table_rows (is_alone board) (rows_of board) ≡ rows_of board = ap (λ (b : Bool). table_rows b (rows_of board)) is_shared in
      let here : table_rows (is_alone board) (rows_of board) * length (tags_of board) ≡ rows_of board * length (tags_of board) = ap (λ (n : ℕ). n * length (tags_of board)) rows in
      let all : table_rows shared.key.alone shared.key.rows * length shared.key.tags.items ≡ table_rows (is_alone board) (rows_of board) * length (tags_of board)
      = ap (λ (l : BoardLayout). table_rows l.alone l.rows * length l.tags.items) board.key in (
        of.table,
        omega (arith, counts, inside, here),
        gives shared.key.tasks (table_rows shared.key.alone shared.key.rows) shared.key.tags.items shared.table_id.slots seat.place.id seat.place.me.0 seat.place.me.1
            (step shared.table_id.slots (word + 1) amount 0 none) word amount tag
            seat.lives (omega (arith, inside, here, all)) (sym is ∙ told ∙ ap (λ (l : BoardLayout). tag_of l.tags.items word) (sym board.key)) refl refl,
      )
