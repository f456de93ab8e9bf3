-- Events that are played one behind the other.
use Rattle.std.specs.Prelude.{◌≡◌, ℕ, ◌+◌, ◌≤◌, if◌then◌else◌, List, [], ◌∷◌, length, take, Option, Some, None}
use Rattle.tick_core.specs.Core.{Core}
use Rattle.tick_core.specs.Events.{is_allowed, after, answer_of}
use Rattle.tick_core.specs.declared.event.CoreEvent.{CoreEvent}
use Rattle.tick_core.specs.declared.event.PlayFault.{PlayFault}
use Rattle.tick_core.specs.declared.event.PlayFault.TheVariants.{Bad, Memory}

-- the state behind the events
abbrev pub run : List CoreEvent → Core → Core
run [] core = core
run (event ∷ events) core = run events (after event core)

-- an answer for each event
abbrev pub answers_of : List CoreEvent → Core → List (Option ℕ)
answers_of [] core = []
answers_of (event ∷ events) core = answer_of event core ∷ answers_of events (after event core)

-- the first event that is not allowed, by its number, where the first of the list has this one
abbrev pub first_bad : ℕ → List CoreEvent → Core → Option ℕ
first_bad number [] core = None
first_bad number (event ∷ events) core = if is_allowed event core then first_bad (number + 1) events (after event core) else Some number

-- what no event changes
pub record SameTable (old new : Core) : Type 0 where
  pub tasks : new.tasks ≡ old.tasks
  pub rows : new.rows ≡ old.rows
  pub tags : new.tags ≡ old.tags
  pub words : length new.words ≡ length old.words

-- the state behind the first of the events, so many, which are all allowed
pub record StandsBehind (events : List CoreEvent) (count : ℕ) (old new : Core) : Type 0 where
  pub part : count ≤ length events
  pub allowed : first_bad 0 (take count events) old ≡ None
  pub state : new ≡ run (take count events) old

-- what holds where events are not played to the end
abbrev pub IsStopped : List CoreEvent → PlayFault → Core → Core → Type 0
IsStopped events (Bad at) old new = (first_bad 0 events old ≡ Some at) × StandsBehind events at old new
IsStopped events Memory old new = (count : ℕ) × StandsBehind events count old new
