-- Workers without the rooms of their scratches.
use Rattle.std.specs.Prelude.{◌≡◌, ◌<◌, ℕ, List, length, slice_index_or}
use Rattle.task_board.specs.declared.worker.Worker.{Worker}

-- what a worker tells is as it was
pub record IsLeft (old new : Worker) : Type 0 where
  pub seat : new.seat ≡ old.seat
  pub summary : new.summary ≡ old.summary
  pub reach : new.scratch.room.reach.items ≡ old.scratch.room.reach.items

-- what all workers tell is as it was
pub record AreLeft (old new : List Worker) : Type 0 where
  pub long : length new ≡ length old
  pub left : (i : ℕ) (d : Worker) → i < length old → IsLeft (slice_index_or old i d) (slice_index_or new i d)
