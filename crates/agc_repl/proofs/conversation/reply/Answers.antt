use Rattle.agc_repl.proofs.Answering.{when_kept}
use Rattle.agc_repl.proofs.Sessions.{still_handled}
use Rattle.agc_repl.proofs.conversation.reply.Goals as goal

pub returns : goal.returns
returns g c =
    when_kept _ c.flush.result c.in_ok-left.left c.keep_if.result c.keep_if.ensures c.flush.ensures
    (λ retained. still_handled c.args.names.now c.args.request c.args.repl c.in_ok-left.left _ _ _ c.in_ok-left.ensures retained)
