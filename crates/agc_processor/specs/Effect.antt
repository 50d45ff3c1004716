-- What each order does: the state it leaves, and its channel write or stop. Its cycles are those of its row
-- in the table of the orders.
use Rattle.std.specs.Prelude.{ℕ, ◌≤◌, ◌%◌, Bool, true, false, Option, Some, None, if◌then◌else◌}
use Rattle.agc_word.specs.Channels.{IsIoChannel, is_io_channel}
use Rattle.agc_word.specs.Number.{pattern_of}
use Rattle.agc_order.specs.declared.order.Basic.{Basic}
use Rattle.agc_order.specs.declared.order.Basic.TheVariants as basic
use Rattle.agc_order.specs.declared.order.Extracode.{Extracode}
use Rattle.agc_order.specs.declared.order.Extracode.TheVariants as extra
use Rattle.agc_processor.specs.declared.processor.Processor.{Processor}
use Rattle.agc_processor.specs.declared.processor.Halt.TheVariants as halt
use Rattle.agc_processor.specs.declared.processor.Ran.{Ran}
use Rattle.agc_processor.specs.declared.processor.Ran.TheVariants as ran
use Rattle.agc_order.specs.Order.{basic_of, extracode_of}
use Rattle.agc_order.specs.Row.{basic_row, extracode_row}
use Rattle.agc_processor.specs.Processor.{◌▷◌, a_of, jump, fetched, plain, indexed, extended, inhibit}
use Rattle.agc_processor.specs.Signs.{is_zero, is_minus_or_plus_zero}
use Rattle.agc_processor.specs.Basic.{tc_of, ccs_of, tcf_of, lxch_of, incr_of, ads_of, ca_of}
use Rattle.agc_processor.specs.Basic.{cs_of, index_of, resume_of, ts_of, xch_of, ad_of, mask_of}
use Rattle.agc_processor.specs.Double.{das_of, dxch_of, dca_of, dcs_of}
use Rattle.agc_processor.specs.Extra.{dv_of, msu_of, qxch_of, aug_of, dim_of, su_of, mp_of}
use Rattle.agc_processor.specs.Channel.{channel_cell, read_order, write_order, rand_order}
use Rattle.agc_processor.specs.Channel.{wand_order, ror_order, wor_order, rxor_order}

-- the order's address of twelve bits, of ten bits, and its channel of nine
abbrev pub long_address : Processor → ℕ
long_address p = pattern_of 15 p.hand % 0o10000

abbrev pub short_address : Processor → ℕ
short_address p = pattern_of 15 p.hand % 0o2000

abbrev pub channel_number : Processor → ℕ
channel_number p = pattern_of 15 p.hand % 0o1000

-- the cycles of an order
abbrev pub cycles : Basic → ℕ
cycles order = (basic_row order).cycles

abbrev pub extracode_cycles : Extracode → ℕ
extracode_cycles order = (extracode_row order).cycles

-- the order took this many cycles, and nothing is visible outside
abbrev pub takes : ℕ → Processor → Processor × Ran
takes n p = (p, ran.Quiet n)

-- most orders end by fetching the next one, which is a basic order
abbrev pub ends : ℕ → Processor → Processor × Ran
ends n p = p ▷ plain ▷ fetched ▷ takes n

-- the cycles of WRITE, and also of WAND and WOR
abbrev pub write_cycles : ℕ
write_cycles = extracode_cycles extra.Write

-- what a write to a channel shows: if the outside sees the channel, the word that it then has
abbrev pub shown : ℕ → Processor → Ran
shown h p = if is_io_channel h then ran.Wrote h (channel_cell h p) else ran.Quiet write_cycles

abbrev pub shows : ℕ → Processor → Processor × Ran
shows h p = (p ▷ plain ▷ fetched, p ▷ shown h)

-- BZF and BZMF: a branch if the test holds, in one cycle; otherwise on to the next order
abbrev pub branches : Bool → Processor → Processor × Ran
branches test p =
    if test then p ▷ jump (long_address p) ▷ ends 1 else (p ▷ ends (extracode_cycles extra.Bzf))

-- DV without a quotient halts the processor unchanged
abbrev pub divides : Option Processor → Processor → Processor × Ran
divides (Some after) p = after ▷ ends (extracode_cycles extra.Dv)
divides None p = (p, ran.Halted halt.DivisionUndefined)

-- What a basic order does. Only EXTEND leaves the extracode state on, and only it and INDEX hold
-- interrupts off before the next order. TC, INDEX and RESUME have fetched their next order
-- themselves.
unfoldable pub basic_effect : Basic → Processor → Processor × Ran
basic_effect basic.Tc p = p ▷ tc_of (long_address p) ▷ plain ▷ takes (cycles basic.Tc)
basic_effect basic.Relint p = p ▷ inhibit false ▷ ends (cycles basic.Relint)
basic_effect basic.Inhint p = p ▷ inhibit true ▷ ends (cycles basic.Inhint)
basic_effect basic.Extend p = p ▷ fetched ▷ extended ▷ takes (cycles basic.Extend)
basic_effect basic.Ccs p = p ▷ ccs_of (short_address p) ▷ ends (cycles basic.Ccs)
basic_effect basic.Tcf p = p ▷ tcf_of (long_address p) ▷ ends (cycles basic.Tcf)
basic_effect basic.Das p = p ▷ das_of (short_address p) ▷ ends (cycles basic.Das)
basic_effect basic.Lxch p = p ▷ lxch_of (short_address p) ▷ ends (cycles basic.Lxch)
basic_effect basic.Incr p = p ▷ incr_of (short_address p) ▷ ends (cycles basic.Incr)
basic_effect basic.Ads p = p ▷ ads_of (short_address p) ▷ ends (cycles basic.Ads)
basic_effect basic.Ca p = p ▷ ca_of (long_address p) ▷ ends (cycles basic.Ca)
basic_effect basic.Cs p = p ▷ cs_of (long_address p) ▷ ends (cycles basic.Cs)
basic_effect basic.Index p = p ▷ index_of (short_address p) ▷ indexed ▷ takes (cycles basic.Index)
basic_effect basic.Resume p = p ▷ resume_of ▷ plain ▷ takes (cycles basic.Resume)
basic_effect basic.Dxch p = p ▷ dxch_of (short_address p) ▷ ends (cycles basic.Dxch)
basic_effect basic.Ts p = p ▷ ts_of (short_address p) ▷ ends (cycles basic.Ts)
basic_effect basic.Xch p = p ▷ xch_of (short_address p) ▷ ends (cycles basic.Xch)
basic_effect basic.Ad p = p ▷ ad_of (long_address p) ▷ ends (cycles basic.Ad)
basic_effect basic.Mask p = p ▷ mask_of (long_address p) ▷ ends (cycles basic.Mask)

-- What an extracode that begins at a cycle does. INDEX leaves the extracode state on.
unfoldable pub extracode_effect : Extracode → ℕ → Processor → Processor × Ran
extracode_effect extra.Read c p =
    p ▷ read_order c (channel_number p) ▷ ends (extracode_cycles extra.Read)
extracode_effect extra.Write c p =
    p ▷ write_order c (channel_number p) ▷ shows (channel_number p)
extracode_effect extra.Rand c p =
    p ▷ rand_order c (channel_number p) ▷ ends (extracode_cycles extra.Rand)
extracode_effect extra.Wand c p = p ▷ wand_order c (channel_number p) ▷ shows (channel_number p)
extracode_effect extra.Ror c p =
    p ▷ ror_order c (channel_number p) ▷ ends (extracode_cycles extra.Ror)
extracode_effect extra.Wor c p = p ▷ wor_order c (channel_number p) ▷ shows (channel_number p)
extracode_effect extra.Rxor c p =
    p ▷ rxor_order c (channel_number p) ▷ ends (extracode_cycles extra.Rxor)
extracode_effect extra.Edrupt c p = (p, ran.Halted halt.Edrupt)
extracode_effect extra.Dv c p = divides (p ▷ dv_of (short_address p)) p
extracode_effect extra.Bzf c p = p ▷ branches (is_zero (a_of p))
extracode_effect extra.Msu c p = p ▷ msu_of (short_address p) ▷ ends (extracode_cycles extra.Msu)
extracode_effect extra.Qxch c p = p ▷ qxch_of (short_address p) ▷ ends (extracode_cycles extra.Qxch)
extracode_effect extra.Aug c p = p ▷ aug_of (short_address p) ▷ ends (extracode_cycles extra.Aug)
extracode_effect extra.Dim c p = p ▷ dim_of (short_address p) ▷ ends (extracode_cycles extra.Dim)
extracode_effect extra.Dca c p = p ▷ dca_of (long_address p) ▷ ends (extracode_cycles extra.Dca)
extracode_effect extra.Dcs c p = p ▷ dcs_of (long_address p) ▷ ends (extracode_cycles extra.Dcs)
extracode_effect extra.Index c p =
    p ▷ index_of (long_address p) ▷ extended ▷ takes (extracode_cycles extra.Index)
extracode_effect extra.Su c p = p ▷ su_of (short_address p) ▷ ends (extracode_cycles extra.Su)
extracode_effect extra.Bzmf c p = p ▷ branches (is_minus_or_plus_zero (a_of p))
extracode_effect extra.Mp c p = p ▷ mp_of (long_address p) ▷ ends (extracode_cycles extra.Mp)

-- what the order in hand does at a cycle
unfoldable pub order_effect : ℕ → Processor → Processor × Ran
order_effect c p =
    let word = pattern_of 15 p.hand in
    if p.extracode then extracode_effect (extracode_of word) c p else basic_effect (basic_of word) p

-- an order that runs takes 1 to 6 cycles, and what it shows is a channel that the outside sees
abbrev pub IsOrderly : Ran → Type 0
IsOrderly (ran.Quiet n) = (1 ≤ n) × (n ≤ 6)
IsOrderly (ran.Wrote channel value) = IsIoChannel channel
IsOrderly (ran.Halted why) = Unit {0}
