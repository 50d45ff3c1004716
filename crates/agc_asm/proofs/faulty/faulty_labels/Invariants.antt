use Rattle.std.specs.Prelude.{◌+◌, ◌≤◌, length}
use Rattle.agc_encode.specs.LocationCounter.{IsAt}
use Rattle.agc_asm.proofs.faulty.faulty_labels.Given as goal

abbrev pub invariant-loop-rest : goal.invariant-loop-rest
invariant-loop-rest l = record {
  count : l.number + length l.rest ≤ length l.fn.lines;
  at : IsAt l.counter.at;
}

abbrev pub decreases-loop-rest : goal.decreases-loop-rest
decreases-loop-rest l = length l.rest
