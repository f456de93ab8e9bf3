-- The rule of a board: its words and the views of all seats are a fair state of the tick's machine.
use Rattle.std.specs.Prelude.{◌≡◌, ◌≢◌, ℕ, ◌+◌, ◌-◌, ◌*◌, ◌^◌, ◌<◌, ◌≤◌, ◌==◌, nat_lt, min, if◌then◌else◌, true, List, [], ◌∷◌, length, map, count_by, Option, Some, None, slice_index, All}
use mathlib.Core.Option.{some}
use lib.ListN.{get_elem?}
use Rattle.atomic_table.specs.Table.{Me, Step}
use Rattle.sgl_values.specs.declared.fault.Tag.{Tag}
use Rattle.effect_combine.specs.Combined.{CellWords}
use Rattle.tick_core.specs.Core.{Core, Worker, tag_of, claimed_by_all}
use Rattle.tick_core.specs.Fair.{Fair, gathered}
use Rattle.effect_board.specs.declared.view.View.{View}
use Rattle.effect_board.specs.Views.{is_live, claiming, giving}
use Rattle.sgl_values.specs.declared.limit.TheConstants.{WORKERS_MAX}

-- the word of the claims, and the words behind it, which are those of the machine
abbrev pub first_of : List ℕ → ℕ
first_of [] = 0
first_of (word ∷ words) = word

abbrev pub after_first : List ℕ → List ℕ
after_first [] = []
after_first (word ∷ words) = words

-- the machine's worker at a seat
abbrev pub worker_of : View → Option Worker
worker_of view = if is_live view then Some record { claimed = view.claimed; gives = view.gives } else None

-- the state of the machine that the words and the views are
abbrev pub core_of : ℕ → ℕ → List Tag → List ℕ → List View → Core
core_of tasks rows tags words views = record {
  tasks = tasks;
  next = min (first_of words) tasks;
  rows = rows;
  tags = tags;
  words = after_first words;
  workers = map worker_of views;
}

-- a number of each view, summed up
abbrev pub sum_of : (View → ℕ) → List View → ℕ
sum_of number [] = 0
sum_of number (view ∷ views) = number view + sum_of number views

-- what holds of the seat at this place that was not joined into another, where so many seats were made
pub record Sits (tasks : ℕ) (tags : List Tag) (seats place : ℕ) (view : View) : Type 0 where
  pub same_tasks : view.tasks ≡ tasks
  pub same_tags : view.tags ≡ tags
  pub numbered : view.number ≡ place
  pub first : view.number ≡ 0 → view.made ≡ seats
  pub others : view.number ≢ 0 → view.made ≡ 0

-- Each seat that was made has a view at the place of its number, 0 for the first, so their number is one more than that of
-- the machine's workers that were split off. Word 0 counts the claimed tasks and the misses. The seats that all views stand
-- for are those that were made, no seat has more misses than it stands for seats, and the first is joined into no other.
pub record Kept (tasks rows : ℕ) (tags : List Tag) (words : List ℕ) (views : List View) : Type 0 where
  pub fair : Fair (core_of tasks rows tags words views)
  pub counted : first_of words ≡ length (claimed_by_all (map worker_of views)) + sum_of (λ view. view.misses) views
  pub sized : length words ≡ rows * length tags + 1
  pub small : tasks < 2 ^ 32
  pub few : length views ≤ WORKERS_MAX
  pub seats : sum_of (λ view. view.seats) views ≡ length views
  pub misses : (place : ℕ) (view : View) → get_elem? views place ≡ some view → view.misses ≤ view.seats
  pub sits : (place : ℕ) (view : View) → get_elem? views place ≡ some view → is_live view ≡ true → Sits tasks tags (length views) place view
  pub stays : (view : View) → get_elem? views 0 ≡ some view → is_live view ≡ true

-- a step on the word of the claims, and what it found there
abbrev pub Claims : Step ℕ → Me ℕ View → ℕ → Me ℕ View → Type 0
Claims step before found after = (after ≡ (claiming before.0 found, before.1)) × All (λ task. task < found) before.0.claimed

-- a step on another word, of which the amount is the operand
abbrev pub Gives : Step ℕ → Me ℕ View → ℕ → Me ℕ View → Type 0
Gives step before found after = after ≡ (giving before.0 record { word = step.word - 1; amount = step.first }, before.1)

-- what a board is closed with: each word is its start word merged with all that was given for it. The claimed tasks are
-- the first ones, each once, and all of them where a claim found none left
pub record Ends (tasks rows : ℕ) (tags : List Tag) (view : View) (table : CellWords) : Type 0 where
  pub rows_are : table.rows ≡ rows
  pub width_is : table.width ≡ length tags
  pub full : length table.words ≡ rows * length tags
  pub words : (word : ℕ) → word < rows * length tags → slice_index table.words word ≡ gathered (tag_of tags word) word view.gives
  pub next : ℕ
  pub given_out : next ≤ tasks
  pub once : (task : ℕ) → count_by (λ other. other == task) view.claimed ≡ (if nat_lt task next then 1 else 0)
  pub all : 0 < view.misses → next ≡ tasks
