use Rattle.agc_repl.proofs.Sessions.{Goes}
use Rattle.agc_repl.proofs.conversation.answer_each.Given as goal

abbrev pub invariant-loop-line : goal.invariant-loop-line
invariant-loop-line g l =
    Goes l.fn.names (g.R.Read.remaining l.initial.reader) (g.R.Read.remaining l.reader) l.initial.repl l.repl
    (g.W.Write.contents l.initial.output) (g.W.Write.contents l.output)
