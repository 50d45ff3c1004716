use Rattle.agc_repl.proofs.Answering.{breakpoint_in_range, what_in_range}
use Rattle.agc_repl.proofs.conversation.answer_in_place.Goals as goal

pub answer_event-requires : goal.answer_event-requires
answer_event-requires g c =
    what_in_range c.args.request c.in-Ok-Some-Inject.field-0 c.in-Ok-Some-Inject.field-0-0 c.in-Ok-Some-Inject.what c.in-Ok-Some-Inject.is c.in-Ok-Some-Inject.field-0-is
    c.in-Ok-Some-Inject.field-0-0-is c.requires.range

pub answer_break-requires : goal.answer_break-requires
answer_break-requires g c =
    breakpoint_in_range c.args.request c.in-Ok-Some-Break.field-0 c.in-Ok-Some-Break.field-0-0 c.in-Ok-Some-Break.what c.in-Ok-Some-Break.is c.in-Ok-Some-Break.field-0-is
    c.in-Ok-Some-Break.field-0-0-is c.requires.range
