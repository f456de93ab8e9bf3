-- The words of all cells of a table.
use Rattle.std.specs.Prelude.{◌≡◌, ℕ, ◌+◌, ◌*◌, ◌%◌, ◌<◌, ◌≤◌, true, List, length, slice_index, slice_index_or, slice_set}
use Rattle.std.specs.List.{list_all}
use Rattle.sgl_values.specs.Amounts.{is_amount}
use Rattle.sgl_values.specs.Cells.{amounts}
use Rattle.sgl_values.specs.declared.fault.Tag.{Tag}
use Rattle.sgl_values.specs.declared.fault.Tag.TheVariants.{Sum}
use Rattle.sgl_values.specs.declared.item.Item.{Item}
use Rattle.sgl_values.specs.declared.item.Item.TheVariants.{Effect, Faulty}
use Rattle.effect_combine.specs.Words.{start_of, merged, word_of, word_for}
use Rattle.sgl_values.specs.declared.limit.TheConstants.{EFFECTS_MAX, ROWS_MAX}

-- one word for each row and effect attribute, row by row
pub record CellWords : Type 0 where
  pub rows : ℕ
  pub width : ℕ
  pub words : List ℕ

-- what every such table meets
pub record IsTable (table : CellWords) : Type 0 where
  pub few : table.rows ≤ ROWS_MAX
  pub narrow : table.width ≤ EFFECTS_MAX
  pub full : length table.words ≡ table.rows * table.width

-- the word of a cell
abbrev pub word_at : CellWords → ℕ → ℕ → ℕ
word_at table row attr = slice_index table.words (row * table.width + attr)

-- the tag of an attribute, and `Sum` past the last
abbrev pub tag_at : List Tag → ℕ → Tag
tag_at tags attr = slice_index_or tags attr Sum

-- an item whose row and attribute there are
abbrev pub IsWithin : ℕ → ℕ → Item → Type 0
IsWithin rows width (Effect row attr amount) = (row < rows) × (attr < width)
IsWithin rows width (Faulty fault) = Unit {0}

-- each word stands for the amounts of its cell among the items, which keep their ranges
pub record Combines (rows : ℕ) (tags : List Tag) (items : List Item) (table : CellWords) : Type 0 where
  pub rows_are : table.rows ≡ rows
  pub width_is : table.width ≡ length tags
  pub words : (row attr : ℕ) → row < rows → attr < length tags → word_at table row attr ≡ word_for (tag_at tags attr) (amounts items row attr)
  pub numbers : (row attr : ℕ) → row < rows → attr < length tags → list_all is_amount (amounts items row attr) ≡ true

-- the words with one more item
abbrev pub with_item : List Tag → List ℕ → Item → List ℕ
with_item tags words (Effect row attr amount) =
    let place = row * length tags + attr in
    slice_set words place (merged (tag_at tags attr) (word_of (tag_at tags attr) amount) (slice_index words place))
with_item tags words (Faulty fault) = words

-- an item whose cell has a word
abbrev pub IsPlaced : ℕ → ℕ → Item → Type 0
IsPlaced size width (Effect row attr amount) = (attr < width) × (row * width + attr < size) × (size ≤ ROWS_MAX * EFFECTS_MAX)
IsPlaced size width (Faulty fault) = Unit {0}

-- an amount keeps its ranges
abbrev pub HasNumber : Item → Type 0
HasNumber (Effect row attr amount) = is_amount amount ≡ true
HasNumber (Faulty fault) = Unit {0}

-- the words of cells without amounts
pub record AreStarts (rows : ℕ) (tags : List Tag) (words : List ℕ) : Type 0 where
  pub full : length words ≡ rows * length tags
  pub starts : (place : ℕ) → place < length words → slice_index words place ≡ start_of (tag_at tags (place % length tags))
