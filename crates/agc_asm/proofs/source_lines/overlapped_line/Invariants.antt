use Rattle.std.specs.Prelude.{◌≡◌, ◌+◌, ◌≤◌, length}
use Rattle.agc_store.specs.Places.{fixed_words}
use Rattle.agc_asm.specs.Source.{IsState}
use Rattle.agc_asm.proofs.source_lines.overlapped_line.Given as goal

abbrev pub invariant-loop-rest : goal.invariant-loop-rest
invariant-loop-rest l = record {
  count : l.here + length l.rest ≤ length l.initial.rest;
  at : IsState l.state;
  places : length l.found.items ≡ fixed_words;
}

abbrev pub decreases-loop-rest : goal.decreases-loop-rest
decreases-loop-rest l = length l.rest
