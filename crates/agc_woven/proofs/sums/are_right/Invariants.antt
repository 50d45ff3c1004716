use Rattle.std.specs.Prelude.{◌≡◌}
use Rattle.agc_woven.specs.Sums.{are_right}
use Rattle.agc_woven.proofs.sums.are_right.Given as goal

abbrev pub invariant-loop-bank : goal.invariant-loop-bank
invariant-loop-bank l = l.right ≡ are_right l.bank l.store.fixed l.after.fixed
