-- Where a cell stands among others.
use Rattle.std.specs.Prelude.{◌≡◌, ℕ, ◌≤◌, ◌==◌, ◌&&◌, true, false, not, nat_lt, Bool, List, length, slice_index_or}
use Rattle.std.specs.List.{AllWithin, list_any}
use Rattle.sgl_values.specs.declared.fault.Tag.{Tag}
use Rattle.effect_combine.specs.Batch.{is_at, is_before, with_word}
use Rattle.effect_combine.specs.declared.cell.Cell.{Cell}
use Rattle.effect_combine.specs.declared.cell.Added.{Added}
use Rattle.effect_combine.specs.declared.cell.Added.TheVariants.{Kept, Full}
use Rattle.sgl_values.specs.declared.limit.TheConstants.{BATCH_CELLS_MAX}

-- the cells below this place stand before that of the row and attribute, and those from it on do not
pub record IsPlace (cells : List Cell) (row attr place : ℕ) : Type 0 where
  pub bound : place ≤ length cells
  pub below : AllWithin (λ cell. is_before row attr cell ≡ true) cells 0 place
  pub above : AllWithin (λ cell. is_before row attr cell ≡ false) cells place (length cells)

-- the cell of the row and attribute stands at this place
abbrev pub is_held_at : List Cell → ℕ → ℕ → ℕ → Bool
is_held_at cells row attr place =
    nat_lt place (length cells) && is_at row attr (slice_index_or cells place record { row = 0; attr = 0; word = 0 })

-- how a cell's word is put among the cells
abbrev pub Puts : List Cell → Tag → Cell → Added → List Cell → Type 0
Puts old tag put Kept new = (((length old == BATCH_CELLS_MAX) && not (list_any (is_at put.row put.attr) old)) ≡ false) × (new ≡ with_word tag put.row put.attr put.word old)
Puts old tag put Full new = (((length old == BATCH_CELLS_MAX) && not (list_any (is_at put.row put.attr) old)) ≡ true) × (new ≡ old)
