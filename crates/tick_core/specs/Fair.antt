-- What every core meets, whatever befell it.
use Rattle.std.specs.Prelude.{◌≡◌, ℕ, ◌*◌, ◌<◌, ◌≤◌, ◌==◌, nat_lt, true, if◌then◌else◌, List, [], ◌∷◌, length, count_by, slice_index}
use Rattle.sgl_values.specs.Totals.{total}
use Rattle.sgl_values.specs.declared.fault.Tag.{Tag}
use Rattle.effect_combine.specs.Words.{start_of, merged}
use Rattle.tick_core.specs.Core.{Core, lives, splits, tag_of, claimed_by_all, given_by_all}
use Rattle.tick_core.specs.declared.event.Give.{Give}
use Rattle.sgl_values.specs.declared.limit.TheConstants.{EFFECTS_MAX, ROWS_MAX}

-- the amounts that are given for a word
abbrev pub amounts_for : ℕ → List Give → List ℕ
amounts_for word [] = []
amounts_for word (give ∷ gives) = if give.word == word then give.amount ∷ amounts_for word gives else amounts_for word gives

-- the start word merged with them
abbrev pub gathered : Tag → ℕ → List Give → ℕ
gathered tag word gives = total (merged tag) (start_of tag) (λ amount. amount) (amounts_for word gives)

-- the tasks that are claimed are those that are given out, each once, and each word is its start word merged with all
-- amounts that are given for it
pub record Fair (core : Core) : Type 0 where
  pub given_out : core.next ≤ core.tasks
  pub once : (task : ℕ) → count_by (λ other. other == task) (claimed_by_all core.workers) ≡ (if nat_lt task core.next then 1 else 0)
  pub words : (word : ℕ) → word < length core.words → slice_index core.words word ≡ gathered (tag_of core.tags word) word (given_by_all core.workers)
  pub numbered : (number : ℕ) → lives core.workers number ≡ true → number ≤ splits core

-- and its sizes: at most 65,536 rows with a word for each of at most 16 tags, and at least one worker
pub record IsCore (core : Core) : Type 0 where
  pub few : core.rows ≤ ROWS_MAX
  pub narrow : length core.tags ≤ EFFECTS_MAX
  pub full : length core.words ≡ core.rows * length core.tags
  pub started : 0 < length core.workers
  pub countable : splits core ≤ 4294967295
  pub fair : Fair core
