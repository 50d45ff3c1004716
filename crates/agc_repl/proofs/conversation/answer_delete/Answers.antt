use Rattle.std.proofs.Common.{rules, sym, ◌∙◌}
use Rattle.agc_repl.proofs.Answering.{deleted_reported, missing_reported}
use Rattle.agc_repl.proofs.Telling.{when_ok}
use Rattle.agc_repl.proofs.conversation.answer_delete.Goals as goal

pub returns-then-has_number : goal.returns-then-has_number
returns-then-has_number g c =
    when_ok c.write_end.result c.write_end.ensures
    (λ written. deleted_reported c.args.names.now c.args.number c.args.repl.now _ _ _ (sym c.has_number.ensures ∙ c.if-has_number.true) (search rules) written)

pub returns-else-has_number : goal.returns-else-has_number
returns-else-has_number g c =
    when_ok c.write_error_line.result c.write_error_line.ensures
    (λ written. missing_reported c.args.names.now c.args.number c.args.repl.now _ _ (sym c.has_number.ensures ∙ c.if-has_number.false) written)
