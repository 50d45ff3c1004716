use Rattle.std.proofs.Common.{subst, sym}
use Rattle.agc_machine.specs.declared.upcoming.Upcoming.{Upcoming}
use Rattle.agc_profile.specs.Step.{RunsAs}
use Rattle.agc_profile.proofs.Left.{happens_reported}
use Rattle.agc_profile.proofs.counting.take_reading.Goals as goal

pub take_order_in-requires-clause-order : goal.take_order_in-requires-clause-order
take_order_in-requires-clause-order c =
    subst (λ (u : Upcoming). RunsAs c.args.place c.args.named u) (sym (happens_reported _ _ _ _ c.next_passage-passage.ensures.passage c.requires.reported)) c.requires.runs
