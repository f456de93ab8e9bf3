-- What events do to a stand.
use Rattle.std.proofs.Common.{◌≡◌, ◌∙◌, ◌+◌, ◌<◌, ◌≤◌, ℕ, zero, suc, true, ◌&&◌, nat_le, nat_lt, max, List, [], ◌∷◌, ◌++◌, length, get_or, set, refl, sym, ap, le_refl, leb-true, arith}
use Rattle.std.proofs.lemmas.Bool.{and_from, and_parts, lt-ltb, le-leb, ltb-true}
use Rattle.std.proofs.lemmas.List.{length-set}
use Rattle.std.proofs.lemmas.List.Elements.{All-get_or}
use Rattle.std.proofs.lemmas.Option.{slice_get_within}
use Rattle.std.specs.Arc.{arc_value}
use mathlib.Core.Option.{some, some-injective, some-ne-none}
use lib.ListN.{get_elem?}
use Rattle.atomic_table.proofs.Lists.{set_again}
use Rattle.world_publish.specs.Machine.{Stand, after, is_allowed, seen_by, Leads, NoneFalls}
use Rattle.world_publish.specs.Showing.{stand_of}
use Rattle.world_publish.specs.Steps.{LearnsAreEvents, LearntIsNotPassed, LooksAreEvents, LooksBehindAreEvents, PublishesAreEvents}
use Rattle.world_publish.specs.declared.machine.StandEvent.{StandEvent}
use Rattle.world_publish.specs.declared.machine.StandEvent.TheVariants.{Publish, Look, Learn}

-- one more event, behind the others
pub Leads-push : (old : Stand) (events : List StandEvent) (new : Stand) (event : StandEvent) → Leads old events new → is_allowed new event ≡ true → Leads old (events ++ event ∷ []) (after new event)
Leads-push old [] new event led ok = (ap (λ stand. is_allowed stand event) (sym led) ∙ ok, ap (λ stand. after stand event) led)
Leads-push old (first ∷ events) new event led ok = (led.0, Leads-push (after old first) events new event led.1 ok)

-- a list where one number was raised has no smaller number
raised : (xs : List ℕ) (i j to : ℕ) → get_or xs i 0 ≤ to → get_or xs j 0 ≤ get_or (set xs i to) j 0
raised [] i j to below = le_refl (get_or [] j 0)
raised (x ∷ xs) zero zero to below = below
raised (x ∷ xs) zero (suc j) to below = le_refl (get_or xs j 0)
raised (x ∷ xs) (suc i) zero to below = le_refl x
raised (x ∷ xs) (suc i) (suc j) to below = raised xs i j to below

-- no event lets what a spectator has seen fall
pub none_falls : (stand : Stand) (event : StandEvent) → is_allowed stand event ≡ true → NoneFalls stand (after stand event)
none_falls stand Publish ok other = le_refl (seen_by stand other)
none_falls stand (Look spectator position) ok other =
    let there = and_parts (nat_lt spectator (length stand.seen)) (nat_le (seen_by stand spectator) position && nat_lt position stand.published) ok in
    let later = and_parts (nat_le (seen_by stand spectator) position) (nat_lt position stand.published) there.1 in
    raised stand.seen spectator other position (leb-true (seen_by stand spectator) position later.0)
none_falls stand (Learn spectator position) ok other =
    raised stand.seen spectator other (max (seen_by stand spectator) position) (omega arith)

-- each event leaves as many spectators as there were
pub none_leaves : (stand : Stand) (event : StandEvent) → length (after stand event).seen ≡ length stand.seen
none_leaves stand Publish = refl
none_leaves stand (Look spectator position) = length-set stand.seen spectator position
none_leaves stand (Learn spectator position) = length-set stand.seen spectator (max (seen_by stand spectator) position)

-- a place that is read is in the list
inside : (xs : List ℕ) (i x : ℕ) → get_elem? xs i ≡ some x → i < length xs
inside [] i x at = absurd (some-ne-none x (sym at))
inside (y ∷ xs) zero x at = omega arith
inside (y ∷ xs) (suc i) x at = omega (arith, inside xs i x at)

pub looks_are_events : LooksAreEvents
looks_are_events all shown seen seat old new holds at looks =
    let there = inside seen seat old at in
    let below : get_or seen seat 0 < shown.position + 1 = All-get_or (λ n. n < shown.position + 1) seen seat 0 there holds.1.seen_published in (
      and_from (nat_lt seat (length seen)) (nat_le (get_or seen seat 0) shown.position && nat_lt shown.position (shown.position + 1)) (lt-ltb seat (length seen) there)
          (and_from (nat_le (get_or seen seat 0) shown.position) (nat_lt shown.position (shown.position + 1)) (le-leb (get_or seen seat 0) shown.position (omega (arith, below))) (lt-ltb shown.position (shown.position + 1) (omega arith))),
      ap (λ n. stand_of all shown (set seen seat n)) looks.1,
    )

pub publishes_are_events : PublishesAreEvents
publishes_are_events all shown next seen seat old new holds at publishes =
    let same : set seen seat new ≡ seen = ap (set seen seat) publishes.2 ∙ set_again seen seat old at in (
      lt-ltb (shown.position + 1) (length all) (omega (arith, slice_get_within all next.position (arc_value next.world).world publishes.0, publishes.1)),
      λ i. record { entries = length all; published = publishes.1 i + 1; seen = same i },
    )

-- a number that is read is that of its place
read : (xs : List ℕ) (i x : ℕ) → get_elem? xs i ≡ some x → get_or xs i 0 ≡ x
read [] i x at = absurd (some-ne-none x (sym at))
read (y ∷ xs) zero x at = some-injective y x at
read (y ∷ xs) (suc i) x at = read xs i x at

pub looks_behind_are_events : LooksBehindAreEvents
looks_behind_are_events stand spectator known position at behind published =
    let seen = read stand.seen spectator known at in (
      and_from (nat_lt spectator (length stand.seen)) (nat_le (seen_by stand spectator) position && nat_lt position stand.published) (lt-ltb spectator (length stand.seen) (inside stand.seen spectator known at))
          (and_from (nat_le (seen_by stand spectator) position) (nat_lt position stand.published) (le-leb (seen_by stand spectator) position (omega (arith, seen, behind))) (lt-ltb position stand.published published)),
      refl,
    )

pub learns_are_events : LearnsAreEvents
learns_are_events stand spectator old position new at published learnt = (
  and_from (nat_lt spectator (length stand.seen)) (nat_lt position stand.published) (lt-ltb spectator (length stand.seen) (inside stand.seen spectator old at)) (lt-ltb position stand.published published),
  ap (λ n. record stand { seen = set stand.seen spectator n }) (learnt ∙ ap (λ n. max n position) (sym (read stand.seen spectator old at))),
)

-- a place that is written has what was written there
written : (xs : List ℕ) (i x : ℕ) → i < length xs → get_or (set xs i x) i 0 ≡ x
written [] i x within = absurd (omega (arith, within))
written (y ∷ xs) zero x within = refl
written (y ∷ xs) (suc i) x within = written xs i x (omega (arith, within))

-- nor do many events let it fall
none_fall : (stand : Stand) (events : List StandEvent) (now : Stand) → Leads stand events now → NoneFalls stand now
none_fall stand [] now led other = omega (arith, ap (λ s. seen_by s other) led)
none_fall stand (event ∷ events) now led other =
    let first = none_falls stand event led.0 other in
    let rest = none_fall (after stand event) events now led.1 other in
    omega (arith, first, rest)

pub learnt_is_not_passed : LearntIsNotPassed
learnt_is_not_passed stand spectator position between now later learns led looks =
    let there = ltb-true spectator (length stand.seen) (and_parts (nat_lt spectator (length stand.seen)) (nat_lt position stand.published) learns).0 in
    let known = written stand.seen spectator (max (seen_by stand spectator) position) there in
    let kept = none_fall (after stand (Learn spectator position)) between now led spectator in
    let allowed = (and_parts (nat_lt spectator (length now.seen)) (nat_le (seen_by now spectator) later && nat_lt later now.published) looks).1 in
    let behind = leb-true (seen_by now spectator) later (and_parts (nat_le (seen_by now spectator) later) (nat_lt later now.published) allowed).0 in
    omega (arith, known, kept, behind)
