use Rattle.std.specs.Prelude.{◌≡◌, ◌<◌, IfSome}
use Rattle.agc_mend.specs.BankSum.{last_used}
use Rattle.agc_mend.proofs.bank_sum.last_used.Given as goal

abbrev pub invariant-loop-offset : goal.invariant-loop-offset
invariant-loop-offset l = record {
  last : l.last ≡ last_used l.offset l.store.fixed l.bank;
  range : IfSome l.last (λ offset. offset < l.count);
}
