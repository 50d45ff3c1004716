use Rattle.std.specs.Prelude.{length, map}
use Rattle.agc_encode.specs.LocationCounter.{IsAt}
use Rattle.agc_vocabulary.specs.Name.{naming_of}
use Rattle.agc_asm.proofs.ReportedNames.{IsOutcome}
use Rattle.agc_asm.proofs.symbol_file.name_lines.Given as goal

abbrev pub invariant-loop-rest : goal.invariant-loop-rest
invariant-loop-rest l = record {
  reported : IsOutcome l.fn.text (naming_of l.names) l.counter (map (λ line. line.text.now) l.rest) l.reported.items;
  at : IsAt l.counter.at;
}

abbrev pub decreases-loop-rest : goal.decreases-loop-rest
decreases-loop-rest l = length l.rest
