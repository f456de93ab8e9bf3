-- Batches: cells by rising row and attribute, each with the merged words of its amounts.
use Rattle.std.specs.Prelude.{◌≡◌, ℕ, ◌<◌, ◌≤◌, ◌==◌, ◌&&◌, ◌||◌, Bool, true, false, not, nat_lt, List, [], ◌∷◌, length, All, if◌then◌else◌}
use Rattle.std.specs.List.{list_any}
use Rattle.sgl_values.specs.Amounts.{Amount}
use Rattle.sgl_values.specs.declared.fault.Tag.{Tag}
use Rattle.sgl_values.specs.declared.item.Item.{Item}
use Rattle.sgl_values.specs.declared.item.Item.TheVariants.{Effect, Faulty}
use Rattle.effect_combine.specs.Words.{start_of, merged, word_of}
use Rattle.effect_combine.specs.Combined.{tag_at}
use Rattle.effect_combine.specs.declared.cell.Cell.{Cell}
use Rattle.effect_combine.specs.declared.cell.Added.{Added}
use Rattle.effect_combine.specs.declared.cell.Added.TheVariants.{Kept, Full}
use Rattle.sgl_values.specs.declared.limit.TheConstants.{BATCH_CELLS_MAX}

-- the tags of the effect attributes, and the cells that are held
pub record Held : Type 0 where
  pub tags : List Tag
  pub cells : List Cell

-- the cell is that of this row and attribute
abbrev pub is_at : ℕ → ℕ → Cell → Bool
is_at row attr cell = (cell.row == row) && (cell.attr == attr)

-- the cell stands before that of this row and attribute
abbrev pub is_before : ℕ → ℕ → Cell → Bool
is_before row attr cell = nat_lt cell.row row || ((cell.row == row) && nat_lt cell.attr attr)

-- rows rise, and attributes within a row; so no two cells are the same
abbrev pub CellsRise : List Cell → Type 0
CellsRise [] = Unit {0}
CellsRise (cell ∷ cells) = All (λ later. is_before later.row later.attr cell ≡ true) cells × CellsRise cells

-- what every batch meets
pub record IsBatch (batch : Held) : Type 0 where
  pub few : length batch.cells ≤ BATCH_CELLS_MAX
  pub rising : CellsRise batch.cells
  pub within : All (λ cell. cell.attr < length batch.tags) batch.cells

-- a word is merged into that of its cell, or stands alone in a new one at its place
abbrev pub with_word : Tag → ℕ → ℕ → ℕ → List Cell → List Cell
with_word tag row attr word [] = record { row = row; attr = attr; word = word } ∷ []
with_word tag row attr word (cell ∷ cells) =
    if is_before row attr cell then cell ∷ with_word tag row attr word cells
    else (if is_at row attr cell then record { row = row; attr = attr; word = merged tag word cell.word } ∷ cells
    else record { row = row; attr = attr; word = word } ∷ cell ∷ cells)

-- a word is merged into its cell
abbrev pub with_merged : Held → ℕ → ℕ → ℕ → Held
with_merged batch row attr word = record { tags = batch.tags; cells = with_word (tag_at batch.tags attr) row attr word batch.cells }

-- 256 cells are held, and this one is not among them
abbrev pub is_full_for : Held → ℕ → ℕ → Bool
is_full_for batch row attr = (length batch.cells == BATCH_CELLS_MAX) && not (list_any (is_at row attr) batch.cells)

-- how a batch takes a word: merged into its cell, or not at all where it is full for that cell
abbrev pub TakesWord : Held → ℕ → ℕ → ℕ → Added → Held → Type 0
TakesWord old row attr word Kept new = (is_full_for old row attr ≡ false) × (new ≡ with_merged old row attr word)
TakesWord old row attr word Full new = (is_full_for old row attr ≡ true) × (new ≡ old)

-- an amount is taken as its word
abbrev pub Takes : Held → ℕ → ℕ → Amount → Added → Held → Type 0
Takes old row attr amount added new = TakesWord old row attr (word_of (tag_at old.tags attr) amount) added new

-- the merged words of a cell: its start word merged with what is held for it
abbrev pub held_for : Tag → List Cell → ℕ → ℕ → ℕ
held_for tag [] row attr = start_of tag
held_for tag (cell ∷ cells) row attr = if is_at row attr cell then merged tag cell.word (held_for tag cells row attr) else held_for tag cells row attr

-- the words of the items' amounts, merged into their cells one behind the other
abbrev pub with_items : List Tag → List Item → List Cell → List Cell
with_items tags [] cells = cells
with_items tags (Effect row attr amount ∷ items) cells =
    with_items tags items (with_word (tag_at tags attr) row attr (word_of (tag_at tags attr) amount) cells)
with_items tags (Faulty fault ∷ items) cells = with_items tags items cells
