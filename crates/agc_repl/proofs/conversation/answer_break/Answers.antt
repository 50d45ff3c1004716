use Rattle.std.proofs.Common.{sym, ◌∙◌}
use Rattle.agc_repl.proofs.Answering.{full_reported, set_reported}
use Rattle.agc_repl.proofs.Telling.{when_ok}
use Rattle.agc_repl.proofs.conversation.answer_break.Goals as goal

pub returns-then-is_full : goal.returns-then-is_full
returns-then-is_full g c =
    when_ok c.write_error_line.result c.write_error_line.ensures
    (λ written. full_reported c.args.names.now c.args.what c.args.repl.now _ _ (sym c.is_full.ensures ∙ c.if-is_full.true) written)

pub returns-else-is_full : goal.returns-else-is_full
returns-else-is_full g c =
    when_ok c.set_breakpoint.result c.set_breakpoint.ensures
    (λ set. set_reported c.args.names.now c.args.what c.args.repl.now _ _ _ (sym c.is_full.ensures ∙ c.if-is_full.false) set)
