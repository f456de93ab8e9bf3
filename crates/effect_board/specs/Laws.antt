-- Each step on a board is one event of the tick's machine, and what follows from the rule.
use Rattle.std.specs.Prelude.{◌≡◌, ℕ, suc, ◌+◌, ◌<◌, min, true, All, List, [], ◌∷◌, ◌++◌, length, map, slice_index, slice_set}
use mathlib.Core.Option.{some}
use lib.ListN.{get_elem?}
use Rattle.sgl_values.specs.declared.fault.Tag.{Tag}
use Rattle.effect_combine.specs.Batch.{held_for}
use Rattle.effect_combine.specs.Combined.{tag_at}
use Rattle.effect_combine.specs.Words.{merged}
use Rattle.effect_combine.specs.declared.cell.Cell.{Cell}
use Rattle.tick_core.specs.Core.{tag_of, word_number, claimed_by_all}
use Rattle.tick_core.specs.Events.{after}
use Rattle.tick_core.specs.Fair.{gathered}
use Rattle.tick_core.specs.declared.event.CoreEvent.TheVariants.{Claim, Give, Split, Join}
use Rattle.effect_board.specs.declared.view.View.{View}
use Rattle.effect_board.specs.Views.{is_live, claiming, giving, give_of_cell, splitting, newcomer, joining, spent}
use Rattle.effect_board.specs.Rule.{Kept, core_of, worker_of, first_of}

-- the seat at this place has this view, and was not joined into another
abbrev pub HasSeat : List View → ℕ → View → Type 0
HasSeat views place view = (get_elem? views place ≡ some view) × (is_live view ≡ true)

abbrev pub ClaimIsEvent : Type 0
ClaimIsEvent = (tasks rows : ℕ) (tags : List Tag) (words : List ℕ) (views : List View) (place : ℕ) (view : View)
    → Kept tasks rows tags words views → HasSeat views place view
    → core_of tasks rows tags (slice_set words 0 (first_of words + 1)) (slice_set views place (claiming view (first_of words)))
    ≡ after (Claim place) (core_of tasks rows tags words views)

abbrev pub GiveIsEvent : Type 0
GiveIsEvent = (tasks rows : ℕ) (tags : List Tag) (words : List ℕ) (views : List View) (place : ℕ) (view : View) (word amount : ℕ)
    → Kept tasks rows tags words views → HasSeat views place view
    → core_of tasks rows tags (slice_set words (suc word) (merged (tag_of tags word) (slice_index words (suc word)) amount))
    (slice_set views place (giving view record { word = word; amount = amount }))
    ≡ after (Give place word amount) (core_of tasks rows tags words views)

abbrev pub SplitIsEvent : Type 0
SplitIsEvent = (tasks rows : ℕ) (tags : List Tag) (words : List ℕ) (views : List View) (place : ℕ) (view : View)
    → Kept tasks rows tags words views → HasSeat views place view
    → core_of tasks rows tags words (slice_set views place (splitting view) ++ newcomer view ∷ []) ≡ after (Split place) (core_of tasks rows tags words views)

abbrev pub JoinIsEvent : Type 0
JoinIsEvent = (tasks rows : ℕ) (tags : List Tag) (words : List ℕ) (views : List View) (into from : ℕ) (view other : View)
    → Kept tasks rows tags words views → HasSeat views into view → HasSeat views from other
    → core_of tasks rows tags words (slice_set (slice_set views into (joining view other)) from spent) ≡ after (Join into from) (core_of tasks rows tags words views)

-- so many tasks are claimed
abbrev pub ClaimsAreCounted : Type 0
ClaimsAreCounted = (tasks rows : ℕ) (tags : List Tag) (words : List ℕ) (views : List View) → Kept tasks rows tags words views
    → length (claimed_by_all (map worker_of views)) ≡ min (first_of words) tasks

-- where a claim found no task left, all are given out
abbrev pub MissesComeLast : Type 0
MissesComeLast = (tasks rows : ℕ) (tags : List Tag) (words : List ℕ) (views : List View) (place : ℕ) (view : View)
    → Kept tasks rows tags words views → get_elem? views place ≡ some view → 0 < view.misses → min (first_of words) tasks ≡ tasks

-- what is given for the cells of a batch comes, for the word of each row and attribute, to what was held for it
abbrev pub CellsGiveWhatIsHeld : Type 0
CellsGiveWhatIsHeld = (tags : List Tag) (cells : List Cell) (row attr : ℕ) → All (λ cell. cell.attr < length tags) cells → attr < length tags
    → gathered (tag_at tags attr) (word_number tags row attr) (map (give_of_cell tags) cells) ≡ held_for (tag_at tags attr) cells row attr
