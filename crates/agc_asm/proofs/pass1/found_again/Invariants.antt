use Rattle.std.specs.Prelude.{◌≡◌, length, map}
use Rattle.agc_encode.specs.LocationCounter.{IsAt, first_counter}
use Rattle.agc_vocabulary.specs.Name.{naming_of}
use Rattle.agc_asm.specs.Source.{found_from}
use Rattle.agc_asm.proofs.pass1.found_again.Given as goal

abbrev pub invariant-loop-rest : goal.invariant-loop-rest
invariant-loop-rest l = record {
  same : found_from (naming_of l.names) l.counter (map (λ line. line.text.now) l.rest) ≡ found_from (naming_of l.fn.known) first_counter (map (λ line. line.text.now) l.fn.lines);
  at : IsAt l.counter.at;
}

abbrev pub decreases-loop-rest : goal.decreases-loop-rest
decreases-loop-rest l = length l.rest
