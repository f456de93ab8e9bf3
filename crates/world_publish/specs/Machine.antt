-- The machine of a stand: how many positions are published, and what each spectator has seen.
use Rattle.std.specs.Prelude.{◌≡◌, ℕ, ◌+◌, ◌<◌, ◌≤◌, max, nat_lt, nat_le, Bool, true, false, ◌&&◌, List, [], ◌∷◌, length, replicate, take, slice_index_or, slice_set, All}
use Rattle.world_publish.specs.declared.machine.StandEvent.{StandEvent}
use Rattle.world_publish.specs.declared.machine.StandEvent.TheVariants.{Publish, Look, Learn}

-- the length of the list of worlds, how many positions of it are published, and the greatest that each spectator has seen
-- or learnt of
pub record Stand : Type 0 where
  pub entries : ℕ
  pub published : ℕ
  pub seen : List ℕ

-- position 0 is published, and each spectator has seen it
abbrev pub opened : ℕ → ℕ → Stand
opened entries spectators = record { entries = entries; published = 1; seen = replicate spectators 0 }

-- what every stand meets
pub record IsStand (stand : Stand) : Type 0 where
  pub some : 0 < stand.published
  pub within : stand.published ≤ stand.entries
  pub seen_published : All (λ seen. seen < stand.published) stand.seen

-- what a spectator has seen
abbrev pub seen_by : Stand → ℕ → ℕ
seen_by stand spectator = slice_index_or stand.seen spectator 0

-- whether an event may come
abbrev pub is_allowed : Stand → StandEvent → Bool
is_allowed stand Publish = nat_lt stand.published stand.entries
is_allowed stand (Look spectator position) = nat_lt spectator (length stand.seen) && (nat_le (seen_by stand spectator) position && nat_lt position stand.published)
is_allowed stand (Learn spectator position) = nat_lt spectator (length stand.seen) && nat_lt position stand.published

-- the stand behind an event
abbrev pub after : Stand → StandEvent → Stand
after stand Publish = record stand { published = stand.published + 1 }
after stand (Look spectator position) = record stand { seen = slice_set stand.seen spectator position }
after stand (Learn spectator position) = record stand { seen = slice_set stand.seen spectator (max (seen_by stand spectator) position) }

-- the event is allowed, and leads from the one stand to the other
abbrev pub Happens : Stand → StandEvent → Stand → Type 0
Happens old event new = (is_allowed old event ≡ true) × (new ≡ after old event)

-- the same of events, one after another
abbrev pub Leads : Stand → List StandEvent → Stand → Type 0
Leads old [] new = new ≡ old
Leads old (event ∷ events) new = (is_allowed old event ≡ true) × Leads (after old event) events new

-- the events before this one lead from the one stand to the other, where this one is not allowed
pub record IsBad (old : Stand) (events : List StandEvent) (at : ℕ) (new : Stand) : Type 0 where
  pub inside : at < length events
  pub before : Leads old (take at events) new
  pub refused : is_allowed new (slice_index_or events at Publish) ≡ false

-- no spectator has seen less than before
abbrev pub NoneFalls : Stand → Stand → Type 0
NoneFalls old new = (spectator : ℕ) → seen_by old spectator ≤ seen_by new spectator
