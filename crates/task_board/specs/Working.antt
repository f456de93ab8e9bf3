-- Workers before, during and after their work.
use Rattle.std.specs.Prelude.{◌≡◌, ◌≢◌, ℕ, suc, ◌+◌, ◌-◌, ◌<◌, ◌≤◌, max, List, [], ◌∷◌, ◌++◌, length, slice_index_or, All, None}
use Rattle.effect_board.specs.declared.handles.EffectBoard.{EffectBoard}
use Rattle.effect_board.specs.Handles.{view_of, IsSeatOf}
use Rattle.task_board.specs.declared.summary.Summary.{Summary}
use Rattle.task_board.specs.declared.summary.Summary.TheVariants.{Over, Counted}
use Rattle.task_scratch.specs.declared.scratch.Scratch.{Scratch}
use Rattle.task_board.specs.declared.worker.Worker.{Worker}
use Rattle.task_scratch.specs.Job.{Job}
use Rattle.task_scratch.specs.Scratch.{reach_at}
use Rattle.task_board.specs.Job.{items_of}
use Rattle.task_board.specs.Summing.{Reaches, Tells}

-- the worker's summary and its gives are true of the items of the tasks that it claimed
pub record Holds (job : Job) (board : EffectBoard) (worker : Worker) : Type 0 where
  pub of : IsSeatOf board worker.seat
  pub tells : Tells job worker.summary (view_of worker.seat).gives (items_of job (view_of worker.seat).claimed)
  pub sized : length worker.scratch.room.reach.items ≡ job.nodes
  pub reaches : Reaches job worker.summary worker.scratch.room.reach.items (view_of worker.seat).claimed

-- a worker that has not begun
pub record IsReady (fits : Scratch → Type 0) (nodes : ℕ) (board : EffectBoard) (worker : Worker) : Type 0 where
  pub of : IsSeatOf board worker.seat
  pub no_tasks : (view_of worker.seat).claimed ≡ []
  pub no_gives : (view_of worker.seat).gives ≡ []
  pub fresh : (view_of worker.seat).misses ≡ 0
  pub one : (view_of worker.seat).seats ≡ 1
  pub summary : worker.summary ≡ Counted 0 None
  pub scratch : fits worker.scratch
  pub no_runs : worker.scratch.runs ≡ 0
  pub no_items : worker.scratch.sink.items ≡ 0
  pub sized : length worker.scratch.room.reach.items ≡ nodes
  pub no_reach : (node : ℕ) → reach_at worker.scratch.room.reach.items node ≡ 0

-- one more than the greatest
abbrev pub above : List ℕ → ℕ
above [] = 0
above (task ∷ tasks) = max (suc task) (above tasks)

-- the scratch counts what the summary does
abbrev pub Agrees : Summary → ℕ → Type 0
Agrees Over items = Unit {0}
Agrees (Counted count least) items = items ≡ count

-- what stays true of a worker while it works
pub record IsAtWork (fits : Scratch → Type 0) (board : EffectBoard) (worker : Worker) : Type 0 where
  pub of : IsSeatOf board worker.seat
  pub fresh : (view_of worker.seat).misses ≡ 0
  pub one : (view_of worker.seat).seats ≡ 1
  pub scratch : fits worker.scratch
  pub agrees : Agrees worker.summary worker.scratch.sink.items

-- a worker between two tasks
pub record IsWorking (job : Job) (fits : Scratch → Type 0) (board : EffectBoard) (worker : Worker) : Type 0 where
  pub work : IsAtWork fits board worker
  pub runs : worker.scratch.runs ≤ above (view_of worker.seat).claimed
  pub tells : Tells job worker.summary (view_of worker.seat).gives (items_of job (view_of worker.seat).claimed)
  pub sized : length worker.scratch.room.reach.items ≡ job.nodes
  pub reaches : Reaches job worker.summary worker.scratch.room.reach.items (view_of worker.seat).claimed

-- a worker that has claimed a task and not run it
pub record HasClaimed (job : Job) (fits : Scratch → Type 0) (board : EffectBoard) (task : ℕ) (worker : Worker) : Type 0 where
  pub work : IsAtWork fits board worker
  pub earlier : List ℕ
  pub claimed : (view_of worker.seat).claimed ≡ earlier ++ task ∷ []
  pub runs : worker.scratch.runs ≤ task
  pub inside : task < job.count
  pub tells : Tells job worker.summary (view_of worker.seat).gives (items_of job earlier)
  pub sized : length worker.scratch.room.reach.items ≡ job.nodes
  pub reaches : Reaches job worker.summary worker.scratch.room.reach.items earlier

-- a worker that has found all tasks given out
pub record IsDone (job : Job) (board : EffectBoard) (worker : Worker) : Type 0 where
  pub holds : Holds job board worker
  pub missed : 0 < (view_of worker.seat).misses
  pub one : (view_of worker.seat).seats ≡ 1

-- the first worker, which has taken in some of the others: so many are left
pub record IsGathering (job : Job) (board : EffectBoard) (left : ℕ) (worker : Worker) : Type 0 where
  pub holds : Holds job board worker
  pub first : (view_of worker.seat).number ≡ 0
  pub all : (view_of worker.seat).seats + left ≡ (view_of worker.seat).made
  pub missed : 0 < (view_of worker.seat).misses

abbrev pub IsLater : Worker → Type 0
IsLater worker = (view_of worker.seat).number ≢ 0

-- the work left the seat's number and the number of seats that it made
pub record IsSame (old new : Worker) : Type 0 where
  pub number : (view_of new.seat).number ≡ (view_of old.seat).number
  pub made : (view_of new.seat).made ≡ (view_of old.seat).made

-- all workers, that with the first seat last
pub record AreWorkers (fits : Scratch → Type 0) (nodes : ℕ) (board : EffectBoard) (workers : List Worker) : Type 0 where
  pub some : 0 < length workers
  pub ready : All (IsReady fits nodes board) workers
  pub later : (i : ℕ) (d : Worker) → i + 1 < length workers → IsLater (slice_index_or workers i d)
  pub number : (d : Worker) → (view_of (slice_index_or workers (length workers - 1) d).seat).number ≡ 0
  pub made : (d : Worker) → (view_of (slice_index_or workers (length workers - 1) d).seat).made ≡ length workers

-- the same behind the work
pub record AreDone (job : Job) (board : EffectBoard) (workers : List Worker) : Type 0 where
  pub some : 0 < length workers
  pub done : All (IsDone job board) workers
  pub later : (i : ℕ) (d : Worker) → i + 1 < length workers → IsLater (slice_index_or workers i d)
  pub number : (d : Worker) → (view_of (slice_index_or workers (length workers - 1) d).seat).number ≡ 0
  pub made : (d : Worker) → (view_of (slice_index_or workers (length workers - 1) d).seat).made ≡ length workers

-- the work left the seats' numbers and the numbers of seats that they made
pub record AreSame (old new : List Worker) : Type 0 where
  pub long : length new ≡ length old
  pub same : (i : ℕ) (d : Worker) → i < length old → IsSame (slice_index_or old i d) (slice_index_or new i d)
