use Rattle.std.proofs.Common.{ap, sym, ◌∙◌}
use Rattle.agc_ring.specs.Ring.{Sending, Receiving}
use Rattle.agc_ring.proofs.Ends.{same_ring}
use Rattle.agc_ring.proofs.rest.rejoin.Goals as goal

pub slots_beside-left-requires : goal.slots_beside-left-requires
slots_beside-left-requires c =
    same_ring c.sender.inside.producer.end c.receiver.inside.consumer.end
    (ap (λ (s : Sending). s.ring) c.sender.view_is ∙ c.requires ∙ sym (ap (λ (r : Receiving). r.ring) c.receiver.view_is))
