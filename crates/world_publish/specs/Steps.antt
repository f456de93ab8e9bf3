-- The steps of a stand are events of its machine. One seat more than there are spectators is that of the publisher.
use Rattle.std.specs.Prelude.{◌≡◌, ℕ, ◌<◌, ◌≤◌, max, true, List, slice_set}
use mathlib.Core.Option.{some}
use lib.ListN.{get_elem?}
use Rattle.sgl_values.specs.World.{World}
use Rattle.world_publish.specs.Machine.{Stand, after, is_allowed, Happens, Leads}
use Rattle.world_publish.specs.Showing.{stand_of, Holds, Looks, Publishes}
use Rattle.world_publish.specs.declared.machine.StandEvent.{StandEvent}
use Rattle.world_publish.specs.declared.machine.StandEvent.TheVariants.{Publish, Look, Learn}
use Rattle.world_publish.specs.declared.showing.Showing.{Showing}

-- a look is the event Look of its seat, at the position that is shown
abbrev pub LooksAreEvents : Type 0
LooksAreEvents = (all : List World) (shown : Showing) (seen : List ℕ) (seat old new : ℕ) → Holds all shown seen → get_elem? seen seat ≡ some old → Looks all old shown shown new
    → Happens (stand_of all shown seen) (Look seat shown.position) (stand_of all shown (slice_set seen seat new))

-- a publication is the event Publish
abbrev pub PublishesAreEvents : Type 0
PublishesAreEvents = (all : List World) (shown next : Showing) (seen : List ℕ) (seat old new : ℕ) → Holds all shown seen → get_elem? seen seat ≡ some old → Publishes all old shown next new
    → Happens (stand_of all shown seen) Publish (stand_of all next (slice_set seen seat new))

-- the same of a look over what was learnt: the position is published, and not before what the spectator saw or learnt of
abbrev pub LooksBehindAreEvents : Type 0
LooksBehindAreEvents = (stand : Stand) (spectator known position : ℕ) → get_elem? stand.seen spectator ≡ some known → known ≤ position → position < stand.published
    → Happens stand (Look spectator position) (record stand { seen = slice_set stand.seen spectator position })

-- to learn of a published position is the event Learn
abbrev pub LearnsAreEvents : Type 0
LearnsAreEvents = (stand : Stand) (spectator old position new : ℕ) → get_elem? stand.seen spectator ≡ some old → position < stand.published → new ≡ max old position
    → Happens stand (Learn spectator position) (record stand { seen = slice_set stand.seen spectator new })

-- a look that comes somewhere behind a Learn is not before the position that was learnt
abbrev pub LearntIsNotPassed : Type 0
LearntIsNotPassed = (stand : Stand) (spectator position : ℕ) (between : List StandEvent) (now : Stand) (later : ℕ)
    → is_allowed stand (Learn spectator position) ≡ true → Leads (after stand (Learn spectator position)) between now
    → is_allowed now (Look spectator later) ≡ true → position ≤ later
