-- Laws of words and of batches.
use Rattle.std.specs.Prelude.{◌≡◌, ℕ, ◌==◌, ◌&&◌, ◌<◌, ◌≤◌, false, List, [], length}
use Rattle.std.specs.List.Sorted.{IsPermutation}
use Rattle.sgl_values.specs.declared.fault.Tag.{Tag}
use Rattle.sgl_values.specs.declared.fault.Tag.TheVariants.{Top}
use Rattle.sgl_values.specs.Amounts.{Amount}
use Rattle.sgl_values.specs.Cells.{amounts, greatest}
use Rattle.sgl_values.specs.declared.item.Item.{Item}
use Rattle.effect_combine.specs.Combined.{CellWords, Combines, word_at, tag_at}
use Rattle.effect_combine.specs.Standing.{StandsFor, TellsGreatest}
use Rattle.effect_combine.specs.Words.{merged, word_for}
use Rattle.effect_combine.specs.Batch.{with_word, with_items, held_for}
use Rattle.effect_combine.specs.declared.cell.Cell.{Cell}
use Rattle.sgl_values.specs.declared.limit.TheConstants.{ITEMS_MAX}

-- a word stands for amounts in any order
abbrev pub WordsIgnoreOrder : Type 0
WordsIgnoreOrder = (tag : Tag) (amounts others : List Amount) → IsPermutation amounts others → word_for tag amounts ≡ word_for tag others

-- each word of the items of a tick stands for the amounts of its cell
abbrev pub CombinedWordsStand : Type 0
CombinedWordsStand = (rows : ℕ) (tags : List Tag) (items : List Item) (table : CellWords) → Combines rows tags items table → length items ≤ ITEMS_MAX
    → (row attr : ℕ) → row < rows → attr < length tags → StandsFor (tag_at tags attr) (word_at table row attr) (amounts items row attr)

-- a word that is put to a batch is merged into what is held for its cell
abbrev pub BatchesTakeWords : Type 0
BatchesTakeWords = (tag : Tag) (row attr word : ℕ) (cells : List Cell)
    → held_for tag (with_word tag row attr word cells) row attr ≡ merged tag word (held_for tag cells row attr)

-- and changes what is held for no other cell
abbrev pub BatchesKeepOthers : Type 0
BatchesKeepOthers = (tag : Tag) (row attr word : ℕ) (cells : List Cell) (other : Tag) (other_row other_attr : ℕ)
    → ((row == other_row) && (attr == other_attr)) ≡ false
    → held_for other (with_word tag row attr word cells) other_row other_attr ≡ held_for other cells other_row other_attr

-- for each cell, cells into which the words of items were merged hold the word of the items' amounts for it
abbrev pub BatchesHoldAmounts : Type 0
BatchesHoldAmounts = (tags : List Tag) (items : List Item) (row attr : ℕ)
    → held_for (tag_at tags attr) (with_items tags items []) row attr ≡ word_for (tag_at tags attr) (amounts items row attr)

-- a word of a top attribute is below 2^61, and tells the greatest of the amounts that it stands for
abbrev pub TopWordsTellTheGreatest : Type 0
TopWordsTellTheGreatest = (word : ℕ) (amounts : List Amount) → StandsFor Top word amounts → TellsGreatest word (greatest amounts)
