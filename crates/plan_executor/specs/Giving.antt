-- What a task gave, with what its batch still holds.
use Rattle.std.specs.Prelude.{◌≡◌, ℕ, ◌<◌, List, length}
use Rattle.sgl_values.specs.Cells.{amounts}
use Rattle.sgl_values.specs.declared.fault.Tag.{Tag}
use Rattle.sgl_values.specs.declared.item.Item.{Item}
use Rattle.effect_combine.specs.Batch.{held_for}
use Rattle.effect_combine.specs.Combined.{tag_at}
use Rattle.effect_combine.specs.Words.{merged, word_for}
use Rattle.effect_combine.specs.declared.cell.Cell.{Cell}
use Rattle.tick_core.specs.Core.{word_number}
use Rattle.tick_core.specs.Fair.{gathered}
use Rattle.tick_core.specs.declared.event.Give.{Give}
use Rattle.effect_board.specs.Views.{giving_all}
use Rattle.effect_board.specs.declared.view.View.{View}

-- the gives and the cells together stand for the items
abbrev pub StandTogether : ℕ → List Tag → List Give → List Cell → List Item → Type 0
StandTogether rows tags gives cells items =
    (row attr : ℕ) → row < rows → attr < length tags
    → merged (tag_at tags attr) (gathered (tag_at tags attr) (word_number tags row attr) gives) (held_for (tag_at tags attr) cells row attr)
    ≡ word_for (tag_at tags attr) (amounts items row attr)

-- since this start
pub record IsGiven (rows : ℕ) (tags : List Tag) (start now : View) (cells : List Cell) (items : List Item) : Type 0 where
  pub gives : List Give
  pub added : now ≡ giving_all start gives
  pub stand : StandTogether rows tags gives cells items
