-- Every order that runs takes at least one cycle and at most six, and shows a channel that the
-- outside sees.
use Rattle.std.proofs.Common.{◌≡◌, ℕ, Bool, true, false, Option, Some, None, arith, lit≤, refl}
use Rattle.std.specs.Prelude.{if◌then◌else◌}
use Rattle.std.proofs.lemmas.Bool.Decides.{nat_tests}
use Rattle.agc_word.specs.Channels.{is_io_channel}
use Rattle.agc_word.specs.Number.{Number}
use Rattle.agc_order.specs.declared.order.Basic.{Basic}
use Rattle.agc_order.specs.declared.order.Basic.TheVariants as basic
use Rattle.agc_order.specs.declared.order.Extracode.{Extracode}
use Rattle.agc_order.specs.declared.order.Extracode.TheVariants as extra
use Rattle.agc_processor.specs.declared.processor.Processor.{Processor}
use Rattle.agc_processor.specs.declared.processor.Ran.TheVariants as ran
use Rattle.agc_processor.specs.Signs.{is_zero, is_minus_or_plus_zero}
use Rattle.agc_processor.specs.Effect.{basic_effect, extracode_effect, order_effect, IsOrderly, branches, divides, shows, write_cycles, channel_number, short_address}
use Rattle.agc_processor.specs.Processor.{a_of}
use Rattle.agc_processor.specs.Channel.{write_order, wand_order, wor_order}
use Rattle.agc_processor.specs.Extra.{dv_of}

branches-orderly : (test : Bool) (p : Processor) → IsOrderly (branches test p).1
branches-orderly true p = (lit≤ tt, lit≤ tt)
branches-orderly false p = (lit≤ tt, lit≤ tt)

divides-orderly : (after : Option Processor) (p : Processor) → IsOrderly (divides after p).1
divides-orderly (Some after) p = (lit≤ tt, lit≤ tt)
divides-orderly None p = tt

shown-orderly : (b : Bool) (h : ℕ) (value : Number) → is_io_channel h ≡ b →
    IsOrderly (if b then ran.Wrote h value else ran.Quiet write_cycles)
shown-orderly true h value e = (grind (arith, nat_tests), grind (arith, nat_tests))
shown-orderly false h value e = (lit≤ tt, lit≤ tt)

shows-orderly : (h : ℕ) (p : Processor) → IsOrderly (shows h p).1
shows-orderly h p = shown-orderly (is_io_channel h) h _ refl

-- what any order does is orderly
basic-orderly : (o : Basic) (p : Processor) → IsOrderly (basic_effect o p).1
unfolding basic_effect
basic-orderly basic.Tc p = (lit≤ tt, lit≤ tt)
basic-orderly o p = (lit≤ tt, lit≤ tt)

extracode-orderly : (o : Extracode) (c : ℕ) (p : Processor) → IsOrderly (extracode_effect o c p).1
unfolding extracode_effect
extracode-orderly extra.Write c p = shows-orderly (channel_number p) (write_order c (channel_number p) p)
extracode-orderly extra.Wand c p = shows-orderly (channel_number p) (wand_order c (channel_number p) p)
extracode-orderly extra.Wor c p = shows-orderly (channel_number p) (wor_order c (channel_number p) p)
extracode-orderly extra.Edrupt c p = tt
extracode-orderly extra.Dv c p = divides-orderly (dv_of (short_address p) p) p
extracode-orderly extra.Bzf c p = branches-orderly (is_zero (a_of p)) p
extracode-orderly extra.Bzmf c p = branches-orderly (is_minus_or_plus_zero (a_of p)) p
extracode-orderly o c p = (lit≤ tt, lit≤ tt)

by_state : (extracode : Bool) (o : Basic) (x : Extracode) (c : ℕ) (p : Processor)
    → IsOrderly (if extracode then extracode_effect x c p else basic_effect o p).1
by_state true o x c p = extracode-orderly x c p
by_state false o x c p = basic-orderly o p

-- and so is what the order in hand does
pub order_effect-orderly : (c : ℕ) (p : Processor) → IsOrderly (order_effect c p).1
unfolding order_effect
order_effect-orderly c p = by_state p.extracode _ _ c p
