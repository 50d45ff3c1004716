use Rattle.std.proofs.Common.{refl}
use Rattle.std.proofs.KnownBytes.{Keeps-refl}
use Rattle.agc_repl.proofs.Sessions.{all_answered, nothing_answered, one_more_answered, reads_as}
use Rattle.agc_repl.proofs.conversation.answer_each.Goals as goal

pub loop-line-init : goal.loop-line-init
loop-line-init g c = nothing_answered c.args.names.now _ _ _ _ refl

pub loop-line-preserved : goal.loop-line-preserved
loop-line-preserved g c =
    one_more_answered c.args.names.now _ _ _ _ _ _ _ _ _ _ c.in-Ok-Some.request c.loop-line.invariant
    (reads_as c.args.names.now _ _ _ _ _ c.in-Ok-Some.is c.in-Ok-Some.field-0-is c.next_request.ensures.reads) c.in_ok-repl-in-Ok-Some.ensures (Keeps-refl _)

pub returns-in-Ok-None : goal.returns-in-Ok-None
returns-in-Ok-None g c =
    all_answered c.args.names.now _ _ (g.R.Read.remaining c.next_request.new.reader) _ _ _ _ c.loop-line.invariant
    (reads_as c.args.names.now _ _ _ _ _ c.in-Ok-None.is c.in-Ok-None.field-0-is c.next_request.ensures.reads)
