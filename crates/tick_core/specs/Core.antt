-- The state of a core: tasks that are given out in order, words, and what each worker did.
use Rattle.std.specs.Prelude.{ℕ, ◌+◌, ◌-◌, ◌*◌, ◌%◌, Bool, List, [], ◌∷◌, length, map, Option, Some, None, is_some, slice_index_or}
use Rattle.std.specs.List.{range_with_len, flat_map}
use Rattle.sgl_values.specs.declared.fault.Tag.{Tag}
use Rattle.effect_combine.specs.Words.{start_of}
use Rattle.effect_combine.specs.Combined.{tag_at}
use Rattle.tick_core.specs.declared.event.Give.{Give}

-- what a worker did: the tasks that it claimed, and what it gave
pub record Worker : Type 0 where
  pub claimed : List ℕ
  pub gives : List Give

abbrev pub idle : Worker
idle = record { claimed = []; gives = [] }

-- what is kept of a worker, and of one that lives no longer
abbrev pub work : Option Worker → Worker
work None = idle
work (Some worker) = worker

-- the number of tasks, and how many of them are given out; the number of rows, the tags of a row's words, and the words row
-- by row; and what each worker did, by its number: 0 is the first, each that is split off stands behind the others, and None
-- stands for one that lives no longer
pub record Core : Type 0 where
  pub tasks : ℕ
  pub next : ℕ
  pub rows : ℕ
  pub tags : List Tag
  pub words : List ℕ
  pub workers : List (Option Worker)

-- whether the worker of this number lives, and what it did
abbrev pub lives : List (Option Worker) → ℕ → Bool
lives workers number = is_some (slice_index_or workers number None)

abbrev pub work_of : List (Option Worker) → ℕ → Worker
work_of workers number = work (slice_index_or workers number None)

-- how many workers were split off
abbrev pub splits : Core → ℕ
splits core = length core.workers - 1

-- the number of the word of a row and an attribute, and the tag of a word
abbrev pub word_number : List Tag → ℕ → ℕ → ℕ
word_number tags row attr = row * length tags + attr

abbrev pub tag_of : List Tag → ℕ → Tag
tag_of tags word = tag_at tags (word % length tags)

abbrev pub start_words : ℕ → List Tag → List ℕ
start_words rows tags = map (λ word. start_of (tag_of tags word)) (range_with_len 0 (rows * length tags))

abbrev pub at_start : ℕ → ℕ → List Tag → Core
at_start tasks rows tags = record { tasks = tasks; next = 0; rows = rows; tags = tags; words = start_words rows tags; workers = Some idle ∷ [] }

-- what all workers did together
abbrev pub claimed_by_all : List (Option Worker) → List ℕ
claimed_by_all workers = flat_map (λ worker. (work worker).claimed) workers

abbrev pub given_by_all : List (Option Worker) → List Give
given_by_all workers = flat_map (λ worker. (work worker).gives) workers
