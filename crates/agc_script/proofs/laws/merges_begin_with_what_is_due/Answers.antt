use Rattle.agc_script.proofs.Merges.{joined_event_first, joined_given_first, joined_given_last, joined_none}
use Rattle.agc_script.proofs.laws.merges_begin_with_what_is_due.Goals as goal

pub returns-clause-event : goal.returns-clause-event
returns-clause-event c = joined_event_first

pub returns-clause-given : goal.returns-clause-given
returns-clause-given c = joined_given_first

pub returns-clause-given_left : goal.returns-clause-given_left
returns-clause-given_left c = joined_given_last

pub returns-clause-events_left : goal.returns-clause-events_left
returns-clause-events_left c = joined_none
