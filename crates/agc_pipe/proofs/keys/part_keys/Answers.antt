use Rattle.std.proofs.Common.{ℕ, List, ◌++◌, drop, ap, sym, ◌∙◌}
use Rattle.agc_script.specs.declared.key.Key.{Key}
use Rattle.agc_ring.proofs.Ends.{same_ring}
use Rattle.agc_pipe.specs.Keys.{Feeding, Taking}
use Rattle.agc_pipe.proofs.Taking.{no_key_is_lost}
use Rattle.agc_pipe.proofs.keys.part_keys.Goals as goal

pub slots_beside-requires : goal.slots_beside-requires
slots_beside-requires c =
    same_ring c.feed.inside.producer.end c.taker.inside.consumer.end
    (ap (λ (f : Feeding). f.ring) c.feed.view_is ∙ c.requires ∙ sym (ap (λ (t : Taking). t.ring) c.taker.view_is))

pub returns-clause-rest : goal.returns-clause-rest
returns-clause-rest c =
    no_key_is_lost c.taker.inside.tape c.feed.inside.keys.items _ _ _ c.feed.inside.fed (c.taker.invariant.2 c.if-refused.false)
    (ap (λ (received : List Key). received ++ c.slots_beside.new.self.end.ahead) (sym c.slots_beside.ensures.looked.1)
    ∙ c.slots_beside.ensures.fifo ∙ c.slots_beside.ensures.producer.1 ∙ c.feed.invariant.1)
    (c.without_first-rest.ensures ∙ ap (λ (n : ℕ). drop n c.feed.inside.keys.items) c.len.ensures.count)
    ∙ ap (λ (f : Feeding). f.keys) c.feed.view_is
