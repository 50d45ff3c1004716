use Rattle.std.proofs.KnownBytes.{prepend_known-nil}
use Rattle.agc_repl.proofs.Sessions.{session_so, text_reported}
use Rattle.agc_repl.proofs.Telling.{when_ok}
use Rattle.agc_repl.proofs.conversation.run_repl.Goals as goal

pub returns-clause-session : goal.returns-clause-session
returns-clause-session g c =
    when_ok c.answer_each.result c.answer_each.ensures
    (λ answered. session_so c.args.names.now _ _ _ _ _ _ (rw (c.in-Ok.ensures.capacity, c.in-Ok.ensures.empty, c.in-Ok.ensures.inner) (prepend_known-nil (g.R.Read.remaining c.args.input.now))) c.new-repl.ensures answered)

pub returns-clause-text : goal.returns-clause-text
returns-clause-text g c =
    when_ok c.answer_each.result c.answer_each.ensures
    (λ answered. text_reported c.args.names.now _ _ _ _ (session_so c.args.names.now _ _ _ _ _ _ (rw (c.in-Ok.ensures.capacity, c.in-Ok.ensures.empty, c.in-Ok.ensures.inner) (prepend_known-nil (g.R.Read.remaining c.args.input.now))) c.new-repl.ensures answered))
