use Rattle.effect_board.proofs.Stepping.{claim_is_event, give_is_event, split_is_event, join_is_event}
use Rattle.effect_board.proofs.law.steps_are_events.Goals as goal

pub returns-clause-claim : goal.returns-clause-claim
returns-clause-claim c = claim_is_event

pub returns-clause-give : goal.returns-clause-give
returns-clause-give c = give_is_event

pub returns-clause-split : goal.returns-clause-split
returns-clause-split c = split_is_event

pub returns-clause-join : goal.returns-clause-join
returns-clause-join c = join_is_event
