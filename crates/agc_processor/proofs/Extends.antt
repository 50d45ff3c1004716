-- EXTEND lasts one order: every other order except the extracode INDEX leaves the extracode state off. Only EXTEND and
-- INDEX hold interrupts off before the next order.
use Rattle.std.proofs.Common.{◌≡◌, ℕ, Bool, true, false, Option, Some, None, refl}
use Rattle.std.specs.Prelude.{if◌then◌else◌}
use Rattle.agc_word.specs.Channels.{is_io_channel}
use Rattle.agc_word.specs.Number.{Number}
use Rattle.agc_order.specs.Order.{is_extend, is_extracode_index}
use Rattle.agc_order.specs.declared.order.Basic.{Basic}
use Rattle.agc_order.specs.declared.order.Basic.TheVariants as basic
use Rattle.agc_order.specs.declared.order.Extracode.{Extracode}
use Rattle.agc_order.specs.declared.order.Extracode.TheVariants as extra
use Rattle.agc_processor.specs.declared.processor.Processor.{Processor}
use Rattle.agc_processor.specs.declared.processor.Ran.TheVariants as ran
use Rattle.agc_processor.specs.Signs.{is_zero, is_minus_or_plus_zero}
use Rattle.agc_processor.specs.Effect.{basic_effect, extracode_effect, order_effect, branches, divides, shows, write_cycles, channel_number, short_address}
use Rattle.agc_processor.specs.Processor.{fetched, plain, a_of}
use Rattle.agc_processor.specs.Channel.{write_order, wand_order, wor_order}
use Rattle.agc_processor.specs.Extra.{dv_of}
use Rattle.agc_processor.specs.Leaves.{Leaves, extends, holds_off, is_extend_or_index}

branches_leave : (test : Bool) (p : Processor) → Leaves false false (branches test p)
unfolding fetched
branches_leave true p = (refl, refl)
branches_leave false p = (refl, refl)

divides_leave : (after : Option Processor) (p : Processor) → Leaves false false (divides after p)
unfolding fetched
divides_leave (Some after) p = (refl, refl)
divides_leave None p = tt

shown_leaves : (b : Bool) (h : ℕ) (value : Number) (q : Processor) → q.extracode ≡ false → q.uninterruptible ≡ false →
    Leaves false false (q, if b then ran.Wrote h value else ran.Quiet write_cycles)
shown_leaves true h value q e m = (e, m)
shown_leaves false h value q e m = (e, m)

shows_leave : (h : ℕ) (p : Processor) → Leaves false false (shows h p)
unfolding fetched
shows_leave h p = shown_leaves (is_io_channel h) h _ (fetched (plain p)) refl refl

basic_leaves : (o : Basic) (p : Processor) → Leaves (is_extend o) (is_extend_or_index o) (basic_effect o p)
unfolding basic_effect fetched
basic_leaves basic.Extend p = (refl, refl)
basic_leaves basic.Index p = (refl, refl)
basic_leaves o p = (refl, refl)

extracode_leaves : (o : Extracode) (c : ℕ) (p : Processor) → Leaves (is_extracode_index o) (is_extracode_index o) (extracode_effect o c p)
unfolding extracode_effect fetched
extracode_leaves extra.Write c p = shows_leave (channel_number p) (write_order c (channel_number p) p)
extracode_leaves extra.Wand c p = shows_leave (channel_number p) (wand_order c (channel_number p) p)
extracode_leaves extra.Wor c p = shows_leave (channel_number p) (wor_order c (channel_number p) p)
extracode_leaves extra.Edrupt c p = tt
extracode_leaves extra.Dv c p = divides_leave (dv_of (short_address p) p) p
extracode_leaves extra.Bzf c p = branches_leave (is_zero (a_of p)) p
extracode_leaves extra.Bzmf c p = branches_leave (is_minus_or_plus_zero (a_of p)) p
extracode_leaves o c p = (refl, refl)

by_state : (extracode : Bool) (o : Basic) (x : Extracode) (c : ℕ) (p : Processor)
    → Leaves (if extracode then is_extracode_index x else is_extend o) (if extracode then is_extracode_index x else is_extend_or_index o)
    (if extracode then extracode_effect x c p else basic_effect o p)
by_state true o x c p = extracode_leaves x c p
by_state false o x c p = basic_leaves o p

-- and so does the order in hand
pub order_leaves : (c : ℕ) (p : Processor) → Leaves (extends p) (holds_off p) (order_effect c p)
unfolding order_effect
order_leaves c p = by_state p.extracode _ _ c p
