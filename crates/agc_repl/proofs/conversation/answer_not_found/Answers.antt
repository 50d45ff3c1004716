use Rattle.agc_repl.proofs.Answering.{when_kept}
use Rattle.agc_repl.proofs.Searching.{fault_as}
use Rattle.agc_repl.proofs.conversation.answer_not_found.Goals as goal

pub returns : goal.returns
returns g c =
    when_kept _ c.answer_now-reported.result c.answer_now-reported.new.repl c.keep_if.result c.keep_if.ensures c.answer_now-reported.ensures
    (fault_as c.args.names.now _ _ c.args.repl _ _ _ c.missed.ensures)
