use Rattle.std.specs.Prelude.{◌≡◌}
use Rattle.agc_woven.specs.Sums.{checked_banks}
use Rattle.agc_woven.proofs.sums.checked_banks.Given as goal

abbrev pub invariant-loop-bank : goal.invariant-loop-bank
invariant-loop-bank l = l.checked.items ≡ checked_banks l.bank l.form l.fn.words.items l.store.fixed l.filled.fixed
