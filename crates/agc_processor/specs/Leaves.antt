-- Which orders leave the extracode state on, and which hold interrupts off before the next order.
use Rattle.std.specs.Prelude.{◌≡◌, Bool, true, false, if◌then◌else◌}
use Rattle.agc_word.specs.Number.{pattern_of}
use Rattle.agc_processor.specs.declared.processor.Processor.{Processor}
use Rattle.agc_processor.specs.declared.processor.Ran.{Ran}
use Rattle.agc_processor.specs.declared.processor.Ran.TheVariants as ran
use Rattle.agc_order.specs.declared.order.Basic.{Basic}
use Rattle.agc_order.specs.declared.order.Basic.TheVariants as basic
use Rattle.agc_order.specs.Order.{basic_of, extracode_of, is_extend, is_extracode_index}

-- whether the order in hand makes the next one an extracode
abbrev pub extends : Processor → Bool
extends p =
    let word = pattern_of 15 p.hand in
    if p.extracode then is_extracode_index (extracode_of word) else is_extend (basic_of word)

-- EXTEND and INDEX, whose effect needs the order that follows
abbrev pub is_extend_or_index : Basic → Bool
is_extend_or_index basic.Extend = true
is_extend_or_index basic.Index = true
is_extend_or_index _ = false

-- whether the order in hand holds interrupts off before the next one
abbrev pub holds_off : Processor → Bool
holds_off p =
    let word = pattern_of 15 p.hand in
    if p.extracode then is_extracode_index (extracode_of word) else is_extend_or_index (basic_of word)

-- After an order that ran, these determine whether the next one is an extracode, and whether interrupts are held off
-- before it.
abbrev pub Leaves : Bool → Bool → Processor × Ran → Type 0
Leaves extracode held (q, ran.Quiet cycles) = (q.extracode ≡ extracode) × (q.uninterruptible ≡ held)
Leaves extracode held (q, ran.Wrote channel value) = (q.extracode ≡ extracode) × (q.uninterruptible ≡ held)
Leaves extracode held (q, ran.Halted why) = Unit {0}
