use Rattle.std.proofs.Common.{subst, sym}
use Rattle.agc_profile.specs.Step.{HasTally}
use Rattle.agc_profile.proofs.Running.{place_found}
use Rattle.agc_profile.proofs.counting.take_order.Goals as goal

pub take_named-requires-clause-place : goal.take_named-requires-clause-place
take_named-requires-clause-place c = place_found c.args.machine.now _ c.args.order.now _ _ c.requires.reported c.requires.order c.store.ensures c.place_in_hand-place.ensures

pub take_named-requires-clause-tally : goal.take_named-requires-clause-tally
take_named-requires-clause-tally c =
    subst HasTally (sym (place_found c.args.machine.now _ c.args.order.now _ _ c.requires.reported c.requires.order c.store.ensures c.place_in_hand-place.ensures)) c.requires.tally

pub take_named-requires-else-order-clause-place : goal.take_named-requires-else-order-clause-place
take_named-requires-else-order-clause-place c = place_found c.args.machine.now _ c.args.order.now _ _ c.requires.reported c.requires.order c.store.ensures c.place_in_hand-place.ensures

pub take_named-requires-else-order-clause-tally : goal.take_named-requires-else-order-clause-tally
take_named-requires-else-order-clause-tally c =
    subst HasTally (sym (place_found c.args.machine.now _ c.args.order.now _ _ c.requires.reported c.requires.order c.store.ensures c.place_in_hand-place.ensures)) c.requires.tally
