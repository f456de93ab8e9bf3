-- The counts of the nodes below one.
use Rattle.std.specs.Prelude.{◌≡◌, ℕ, ◌+◌, ◌<◌, ◌≤◌, List, slice_index_or}
use Rattle.task_scratch.specs.Job.{capped}
use Rattle.task_scratch.specs.Scratch.{reach_at}

-- the nodes below this one were counted
pub record Counted (counts : List ℕ) (at : ℕ) (old new : List ℕ) : Type 0 where
  pub done : (i : ℕ) → i < at → reach_at new i ≡ capped (reach_at old i + slice_index_or counts i 0)
  pub later : (i : ℕ) → at ≤ i → reach_at new i ≡ reach_at old i
