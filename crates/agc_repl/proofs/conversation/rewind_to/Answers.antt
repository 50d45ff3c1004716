use Rattle.std.proofs.Common.{sym, ◌∙◌}
use Rattle.agc_repl.proofs.Answering.{ahead_reported, back_reported, when_left}
use Rattle.agc_repl.proofs.conversation.rewind_to.Goals as goal

pub returns-then-has_reached : goal.returns-then-has_reached
returns-then-has_reached g c =
    when_left _ c.rewind_reached.result c.rewind_reached.ensures
    (λ t. back_reported c.args.names.now c.args.way c.args.repl t _ _ (sym c.has_reached.ensures ∙ c.if-has_reached.true))

pub returns-else-has_reached : goal.returns-else-has_reached
returns-else-has_reached g c =
    when_left _ c.refuse.result c.refuse.ensures
    (λ t. ahead_reported c.args.names.now c.args.way c.args.repl t _ _ (sym c.has_reached.ensures ∙ c.if-has_reached.false))
