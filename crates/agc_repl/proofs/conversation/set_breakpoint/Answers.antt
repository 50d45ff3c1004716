use Rattle.std.proofs.Common.{inr}
use Rattle.agc_repl.proofs.Answering.{set_written}
use Rattle.agc_repl.proofs.Telling.{when_ok}
use Rattle.agc_repl.proofs.conversation.set_breakpoint.Goals as goal

pub returns-in-Ok : goal.returns-in-Ok
returns-in-Ok g c =
    when_ok c.write_text.result c.write_text.ensures.ok
    (λ written. set_written c.args.what c.args.repl.now c.add_breakpoint.new.repl _ _ _ _ c.in-Ok.ensures.set c.in-Ok.ensures.parsed c.deref.ensures written)

pub returns-in-Err : goal.returns-in-Err
returns-in-Err g c =
    when_ok c.write_text-in-Err.result c.write_text-in-Err.ensures.ok (λ written. inr (c.in-Err.ensures.err, written))
