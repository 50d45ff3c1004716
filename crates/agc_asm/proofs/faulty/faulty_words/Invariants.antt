use Rattle.std.specs.Prelude.{◌+◌, ◌≤◌, length}
use Rattle.agc_asm.specs.Source.{IsState}
use Rattle.agc_asm.proofs.faulty.faulty_words.Given as goal

abbrev pub invariant-loop-rest : goal.invariant-loop-rest
invariant-loop-rest l = record {
  count : l.number + length l.rest ≤ length l.fn.lines;
  at : IsState l.state;
}

abbrev pub decreases-loop-rest : goal.decreases-loop-rest
decreases-loop-rest l = length l.rest
