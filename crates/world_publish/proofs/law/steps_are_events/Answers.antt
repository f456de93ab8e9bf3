-- The steps are events, by the lemmas.
use Rattle.world_publish.proofs.Events.{learns_are_events, looks_are_events, looks_behind_are_events, publishes_are_events}
use Rattle.world_publish.proofs.law.steps_are_events.Goals as goal

pub returns : goal.returns
returns c = record { looks = looks_are_events; publishes = publishes_are_events; behind = looks_behind_are_events; learns = learns_are_events }
