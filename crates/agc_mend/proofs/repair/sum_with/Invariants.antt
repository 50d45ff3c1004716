use Rattle.std.specs.Prelude.{◌≡◌}
use Rattle.agc_mend.specs.Repair.{sum_with}
use Rattle.agc_mend.proofs.repair.sum_with.Given as goal

abbrev pub invariant-loop-at : goal.invariant-loop-at
invariant-loop-at l = l.sum ≡ sum_with l.at l.store.fixed l.bank l.offset l.word
