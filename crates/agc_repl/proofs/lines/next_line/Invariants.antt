use Rattle.agc_repl.proofs.Input.{SoFar}
use Rattle.agc_repl.proofs.lines.next_line.Given as goal

abbrev pub invariant-loop-byte : goal.invariant-loop-byte
invariant-loop-byte g l = SoFar (g.R.Read.remaining l.initial.reader) (g.R.Read.remaining l.reader) l.line.items
