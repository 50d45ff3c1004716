use Rattle.std.specs.Prelude.{◌≡◌}
use Rattle.agc_woven.specs.Sums.{full_banks}
use Rattle.agc_woven.proofs.sums.full_banks.Given as goal

abbrev pub invariant-loop-bank : goal.invariant-loop-bank
invariant-loop-bank l = l.full.items ≡ full_banks l.bank l.store.fixed
