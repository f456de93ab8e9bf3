-- Gives that stand for items.
use Rattle.std.specs.Prelude.{◌≡◌, ℕ, ◌<◌, List, length}
use Rattle.sgl_values.specs.Cells.{amounts}
use Rattle.sgl_values.specs.declared.fault.Tag.{Tag}
use Rattle.sgl_values.specs.declared.item.Item.{Item}
use Rattle.effect_combine.specs.Words.{word_for}
use Rattle.effect_combine.specs.Combined.{tag_at}
use Rattle.tick_core.specs.Core.{word_number}
use Rattle.tick_core.specs.Fair.{gathered}
use Rattle.tick_core.specs.declared.event.Give.{Give}

-- for each word they merge to the same as the words of the amounts of the effects for its cell
abbrev pub StandForItems : ℕ → List Tag → List Give → List Item → Type 0
StandForItems rows tags gives items =
    (row attr : ℕ) → row < rows → attr < length tags
    → gathered (tag_at tags attr) (word_number tags row attr) gives ≡ word_for (tag_at tags attr) (amounts items row attr)
