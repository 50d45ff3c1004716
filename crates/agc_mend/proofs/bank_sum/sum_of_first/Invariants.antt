use Rattle.std.specs.Prelude.{◌≡◌}
use Rattle.agc_mend.specs.BankSum.{sum_of_first}
use Rattle.agc_mend.proofs.bank_sum.sum_of_first.Given as goal

abbrev pub invariant-loop-offset : goal.invariant-loop-offset
invariant-loop-offset l = l.sum ≡ sum_of_first l.offset l.store.fixed l.bank
