use Rattle.std.specs.Prelude.{◌≡◌}
use Rattle.agc_woven.specs.Sums.{filled_banks}
use Rattle.agc_woven.proofs.sums.filled_banks.Given as goal

abbrev pub invariant-loop-bank : goal.invariant-loop-bank
invariant-loop-bank l = l.filled.items ≡ filled_banks l.bank l.form l.fn.words.items l.store.fixed
