use Rattle.agc_repl.proofs.Answering.{event_given, event_not_given, given_is}
use Rattle.agc_repl.proofs.Telling.{when_ok}
use Rattle.agc_repl.proofs.conversation.answer_event.Goals as goal

pub returns-in-Ok : goal.returns-in-Ok
returns-in-Ok g c =
    when_ok c.write_end.result c.write_end.ensures
    (λ written. event_given c.args.names.now c.args.what c.args.repl.now c.inject.new.repl _ _
    (given_is c.args.what c.args.repl.now c.inject.new.repl c.in-Ok.ensures.injected c.in-Ok.ensures.taken c.in-Ok.ensures.room) written)

pub returns-in-Err : goal.returns-in-Err
returns-in-Err g c =
    event_not_given c.args.names.now c.args.what c.args.repl.now c.inject.new.repl c.inject.result c.in-Err.fault c.write_refusal.result _ _ c.in-Err.is
    c.inject.ensures.unwanted c.inject.ensures.many c.inject.ensures.memory c.write_refusal.ensures.refused c.write_refusal.ensures.memory
