use Rattle.std.proofs.Common.{refl}
use Rattle.agc_repl.proofs.Answering.{when_kept}
use Rattle.agc_repl.proofs.conversation.refuse.Goals as goal

pub returns : goal.returns
returns g c =
    when_kept _ c.write_error_line-reported.result c.args.repl c.keep_if.result c.keep_if.ensures c.write_error_line-reported.ensures
    (λ written. (refl, written))
