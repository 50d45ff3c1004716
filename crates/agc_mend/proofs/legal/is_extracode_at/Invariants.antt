use Rattle.std.specs.Prelude.{◌≡◌}
use Rattle.agc_listing.specs.List.{is_extracode_at}
use Rattle.agc_mend.proofs.legal.is_extracode_at.Given as goal

abbrev pub invariant-loop-at : goal.invariant-loop-at
invariant-loop-at l = l.extracode ≡ is_extracode_at l.store.fixed l.at
