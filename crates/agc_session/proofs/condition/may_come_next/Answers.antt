use Rattle.std.proofs.Common.{ap, ◌∙◌}
use Rattle.agc_store.specs.Memory.{Memory}
use Rattle.agc_store.specs.Registers.{z_of}
use Rattle.agc_session.proofs.Places.{other_address}
use Rattle.agc_session.proofs.condition.may_come_next.Goals as goal

pub returns-else-address-place_number : goal.returns-else-address-place_number
returns-else-address-place_number c =
    other_address c.z.result c.from-address.result c.place_number.result c.window_address.result c.args.machine.now c.args.place
    (c.from-address.ensures ∙ c.bits.ensures.address ∙ c.previous.ensures) (c.z.ensures ∙ ap (λ (m : Memory). z_of m) c.store.ensures) c.place_number.ensures
    c.window_address.ensures c.if-address-place_number.false
