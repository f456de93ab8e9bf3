-- Laws of cores.
use Rattle.std.specs.Prelude.{◌≡◌, ℕ, ◌<◌, ◌==◌, nat_lt, true, if◌then◌else◌, All, List, ◌++◌, length, count_by, Option}
use Rattle.std.specs.List.{range_with_len, flat_map}
use Rattle.sgl_values.specs.declared.fault.Tag.{Tag}
use Rattle.sgl_values.specs.Totals.{IsAssociative, IsCommutative, total}
use Rattle.sgl_values.specs.declared.item.Item.{Item}
use Rattle.effect_combine.specs.Combined.{tag_at}
use Rattle.tick_core.specs.Core.{Core, Worker, work, claimed_by_all, given_by_all, at_start, word_number, tag_of}
use Rattle.tick_core.specs.Events.{is_allowed, after}
use Rattle.tick_core.specs.Fair.{Fair, gathered}
use Rattle.tick_core.specs.Standing.{StandForItems}
use Rattle.tick_core.specs.declared.event.Give.{Give}
use Rattle.tick_core.specs.declared.event.CoreEvent.{CoreEvent}

abbrev pub StartsAreFair : Type 0
StartsAreFair = (tasks rows : ℕ) (tags : List Tag) → Fair (at_start tasks rows tags)

abbrev pub EventsKeepFair : Type 0
EventsKeepFair = (event : CoreEvent) (core : Core) → is_allowed event core ≡ true → Fair core → Fair (after event core)

-- the word of a row and an attribute has the attribute's tag
abbrev pub CellsHaveWords : Type 0
CellsHaveWords = (tags : List Tag) (row attr : ℕ) → attr < length tags → tag_of tags (word_number tags row attr) ≡ tag_at tags attr

-- gives that stand for the items of two lists stand for both
abbrev pub GivesJoin : Type 0
GivesJoin = (rows : ℕ) (tags : List Tag) (gives others : List Give) (items more : List Item)
    → StandForItems rows tags gives items → StandForItems rows tags others more → StandForItems rows tags (gives ++ others) (items ++ more)

-- the claimed tasks are those below a number, each once
abbrev pub AreEachOnce : ℕ → List ℕ → Type 0
AreEachOnce count claimed = (task : ℕ) → count_by (λ other. other == task) claimed ≡ (if nat_lt task count then 1 else 0)

-- what is given for tasks that are claimed each once comes to what is given for these in order: the order in which they
-- were claimed does not matter
abbrev pub EachTaskOnce : Type 0
EachTaskOnce = (tag : Tag) (word : ℕ) (gives_of : ℕ → List Give) (claimed : List ℕ) (count : ℕ) → AreEachOnce count claimed
    → gathered tag word (flat_map gives_of claimed) ≡ gathered tag word (flat_map gives_of (range_with_len 0 count))

-- the same of any total over tasks, by an operation that is associative and commutative
abbrev pub TotalsIgnoreOrder : Type 0 → Type 0
TotalsIgnoreOrder B = (op : B → B → B) (end : B) (worth : ℕ → B) → IsAssociative op → IsCommutative op
    → (claimed : List ℕ) (count : ℕ) → AreEachOnce count claimed
    → total op end worth claimed ≡ total op end worth (range_with_len 0 count)

-- totals over the tasks of two workers are joined to that over the tasks of both, where the end is worth nothing
abbrev pub TotalsJoin : Type 0 → Type 0
TotalsJoin B = (op : B → B → B) (end : B) (worth : ℕ → B) → IsAssociative op → ((value : B) → op end value ≡ value)
    → (claimed others : List ℕ) → total op end worth (claimed ++ others) ≡ op (total op end worth claimed) (total op end worth others)

-- gives that stand for the items of tasks that are claimed each once stand for the items of all tasks in order
abbrev pub ClaimsStandInOrder : Type 0
ClaimsStandInOrder = (rows : ℕ) (tags : List Tag) (items_of : ℕ → List Item) (gives : List Give) (claimed : List ℕ) (count : ℕ)
    → AreEachOnce count claimed → StandForItems rows tags gives (flat_map items_of claimed)
    → StandForItems rows tags gives (flat_map items_of (range_with_len 0 count))

-- what a worker gave stands for the items of the tasks that it claimed
abbrev pub StandsForClaims : ℕ → List Tag → (ℕ → List Item) → Worker → Type 0
StandsForClaims rows tags items_of worker = StandForItems rows tags worker.gives (flat_map items_of worker.claimed)

-- where that holds of each worker, and all together claimed each task once, what all gave stands for the items of all
-- tasks in order
abbrev pub WorkersStandForAll : Type 0
WorkersStandForAll = (rows : ℕ) (tags : List Tag) (items_of : ℕ → List Item) (workers : List (Option Worker)) (count : ℕ)
    → All (λ worker. StandsForClaims rows tags items_of (work worker)) workers → AreEachOnce count (claimed_by_all workers)
    → StandForItems rows tags (given_by_all workers) (flat_map items_of (range_with_len 0 count))
