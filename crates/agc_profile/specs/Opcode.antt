-- The order that the word in hand names, of either kind.
use Rattle.std.specs.Prelude.{if◌then◌else◌}
use Rattle.agc_word.specs.Number.{pattern_of}
use Rattle.agc_order.specs.Order.{basic_of, extracode_of}
use Rattle.agc_machine.specs.declared.upcoming.InHand.{InHand}
use Rattle.agc_profile.specs.declared.opcode.Opcode.{Opcode}
use Rattle.agc_profile.specs.declared.opcode.Opcode.TheVariants as named

abbrev pub named_of : InHand → Opcode
named_of order =
    let word = pattern_of 15 order.word in
    if order.extracode then named.Extracode (extracode_of word) else named.Basic (basic_of word)
