-- The rows of a task, a lane each.
use Rattle.std.specs.Prelude.{◌≡◌, ◌+◌, ◌<◌, ℕ, List, slice_index_or}
use Rattle.sgl_values.specs.declared.limit.TheConstants.{TASK_ROWS}

-- each lane has the row that stands as far behind the first one, where that is one of so many
abbrev pub AreOwn : ℕ → ℕ → List ℕ → Type 0
AreOwn first count rows = (row : ℕ) → row < TASK_ROWS → first + row < count → slice_index_or rows row 0 ≡ first + row
