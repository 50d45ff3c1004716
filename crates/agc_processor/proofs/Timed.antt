-- What is true of the timers stays true after any order, if it is also true with TIME6's mark at the periods passed:
-- only the orders that switch TIME6 on change the timers, and these set the mark.
use Rattle.std.proofs.Common.{ℕ, Bool, true, false, Option, Some, None, sym, subst}
use Rattle.std.specs.Prelude.{◌==◌, ◌&&◌, not, if◌then◌else◌, option_map}
use Rattle.agc_processor.specs.Due.{time6_periods}
use Rattle.agc_word.specs.Number.{Number}
use Rattle.agc_word.specs.Arithmetic.{narrow_of}
use Rattle.agc_word.specs.Channels.{l_channel, q_channel, hiscalar, loscalar, superbnk, chan13}
use Rattle.agc_order.specs.declared.order.Basic.{Basic}
use Rattle.agc_order.specs.declared.order.Extracode.{Extracode}
use Rattle.agc_order.specs.declared.order.Extracode.TheVariants as extra
use Rattle.agc_processor.specs.declared.processor.Processor.{Processor}
use Rattle.agc_processor.specs.declared.processor.Timers.{Timers}
use Rattle.agc_processor.specs.Channel.{read_order, write_order, rand_order, wand_order, ror_order, wor_order, rxor_order, write_channel, set_channel, is_on, switch_word}
use Rattle.agc_processor.specs.Double.{dca_of, dcs_of}
use Rattle.agc_processor.specs.Effect.{basic_effect, extracode_effect, order_effect, branches, divides, channel_number, short_address}
use Rattle.agc_processor.specs.Extra.{dv_of, in_a_and_l, msu_of, qxch_of, aug_of, su_of, mp_of}
use Rattle.agc_processor.specs.Basic.{index_of}
use Rattle.agc_processor.specs.Processor.{fetched, a_of}
use Rattle.agc_processor.specs.Signs.{is_zero, is_minus_or_plus_zero}
use Rattle.agc_processor.proofs.Keeps.{basic_same, dim_same}

-- the timers with TIME6's mark at the periods passed
abbrev pub with_periods : ℕ → Timers → Timers
with_periods c t = record t { mark = time6_periods c }

either : (P : Timers → Type 0) (b : Bool) (q r : Processor) → P q.timers → P r.timers → P (if b then q else r).timers
either P true q r h k = h
either P false q r h k = k

marked : (P : Timers → Type 0) (b : Bool) (c : ℕ) (t : Timers) → P t → P (with_periods c t) →
    P (record t { mark = if b then time6_periods c else t.mark })
marked P true c t h k = k
marked P false c t h k = h

pub set_channel_timed : (P : Timers → Type 0) (c h : ℕ) (w : Number) (p : Processor) → P p.timers → P (with_periods c p.timers) →
    P (set_channel c h w p).timers
unfolding set_channel
set_channel_timed P c h w p t k =
    either P (h == superbnk) _ _ t
    (either P (h == chan13) _ _ (marked P (is_on w && not (is_on (switch_word p))) c p.timers t k) t)

write_channel_timed : (P : Timers → Type 0) (c h : ℕ) (w : Number) (p : Processor) → P p.timers → P (with_periods c p.timers) →
    P (write_channel c h w p).timers
unfolding write_channel
write_channel_timed P c h w p t k =
    either P (h == l_channel) _ _ t
    (either P (h == q_channel) _ _ t
    (either P (h == hiscalar) p _ t
    (either P (h == loscalar) p _ t (set_channel_timed P c h (narrow_of w) p t k))))

divides_timed : (P : Timers → Type 0) (words : Option (Number × Number)) (p : Processor) → P p.timers →
    P (divides (option_map (in_a_and_l p) words) p).0.timers
unfolding fetched
divides_timed P (Some words) p t = t
divides_timed P None p t = t

branches_timed : (P : Timers → Type 0) (test : Bool) (p : Processor) → P p.timers → P (branches test p).0.timers
unfolding fetched
branches_timed P true p t = t
branches_timed P false p t = t

extracode_timed : (P : Timers → Type 0) (o : Extracode) (c : ℕ) (p : Processor) → P p.timers → P (with_periods c p.timers) →
    P (extracode_effect o c p).0.timers
unfolding extracode_effect read_order rand_order ror_order rxor_order write_order wand_order wor_order dv_of msu_of qxch_of aug_of su_of mp_of dca_of dcs_of index_of fetched
extracode_timed P extra.Write c p t k = write_channel_timed P c (channel_number p) _ p t k
extracode_timed P extra.Wand c p t k = write_channel_timed P c (channel_number p) _ p t k
extracode_timed P extra.Wor c p t k = write_channel_timed P c (channel_number p) _ p t k
extracode_timed P extra.Dv c p t k = divides_timed P _ p t
extracode_timed P extra.Bzf c p t k = branches_timed P (is_zero (a_of p)) p t
extracode_timed P extra.Bzmf c p t k = branches_timed P (is_minus_or_plus_zero (a_of p)) p t
extracode_timed P extra.Dim c p t k = subst P (sym (dim_same (short_address p) p).0) t
extracode_timed P o c p t k = t

by_state : (P : Timers → Type 0) (extracode : Bool) (o : Basic) (x : Extracode) (c : ℕ) (p : Processor) → P p.timers →
    P (with_periods c p.timers) → P (if extracode then extracode_effect x c p else basic_effect o p).0.timers
by_state P true o x c p t k = extracode_timed P x c p t k
by_state P false o x c p t k = subst P (sym (basic_same o p).0) t

pub order_timed : (P : Timers → Type 0) (c : ℕ) (p : Processor) → P p.timers → P (with_periods c p.timers) →
    P (order_effect c p).0.timers
unfolding order_effect
order_timed P c p t k = by_state P p.extracode _ _ c p t k
