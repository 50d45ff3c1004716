use Rattle.std.proofs.Common.{rules}
use Rattle.agc_repl.proofs.Answering.{quiet_reported}
use Rattle.agc_repl.proofs.Telling.{when_ok}
use Rattle.agc_repl.proofs.conversation.answer_quiet.Goals as goal

pub returns : goal.returns
returns g c =
    when_ok c.write_end.result c.write_end.ensures
    (λ written. quiet_reported c.args.names.now c.args.quiet c.args.repl.now _ _ _ (search rules) written)
