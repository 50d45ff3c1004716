use Rattle.agc_io.proofs.Begun.{IsPart}
use Rattle.agc_io.proofs.output.write_in_full.Given as goal

-- what was written so far, and then the rest, are the bytes
abbrev pub invariant-loop-turn : goal.invariant-loop-turn
invariant-loop-turn g l = IsPart (g.W.Write.contents l.initial.out) (g.W.Write.contents l.out) l.rest l.bytes
