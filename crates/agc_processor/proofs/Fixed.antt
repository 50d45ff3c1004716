-- No order changes a fixed word.
use Rattle.std.proofs.Common.{◌≡◌, ℕ, Bool, true, false, Option, Some, None, refl, ◌∙◌}
use Rattle.std.specs.Prelude.{◌==◌, if◌then◌else◌, option_map}
use Rattle.agc_word.specs.Number.{Number}
use Rattle.agc_word.specs.Arithmetic.{over_of, narrow_of}
use Rattle.agc_word.specs.declared.wide.Over.{Over}
use Rattle.agc_word.specs.declared.wide.Over.TheVariants as over
use Rattle.agc_word.specs.Channels.{l_channel, q_channel, hiscalar, loscalar, superbnk, chan13}
use Rattle.agc_store.specs.Memory.{Memory}
use Rattle.agc_store.specs.Cells.{put_of, write_of, reedit_of, superbank_set}
use Rattle.agc_store.specs.Places.{a_cell}
use Rattle.agc_order.specs.declared.order.Basic.{Basic}
use Rattle.agc_order.specs.declared.order.Basic.TheVariants as basic
use Rattle.agc_order.specs.declared.order.Extracode.{Extracode}
use Rattle.agc_order.specs.declared.order.Extracode.TheVariants as extra
use Rattle.agc_processor.specs.declared.processor.Processor.{Processor}
use Rattle.agc_processor.specs.Basic.{tc_of, ccs_of, tcf_of, lxch_of, incr_of, ads_of, ca_of, cs_of, index_of, resume_of, ts_of, ts_by, ts_with_overflow, xch_of, ad_of, mask_of}
use Rattle.agc_processor.specs.Channel.{read_order, write_order, rand_order, wand_order, ror_order, wor_order, rxor_order, write_channel, set_channel}
use Rattle.agc_processor.specs.Double.{das_of, das_upper, dxch_of, dca_of, dcs_of}
use Rattle.agc_processor.specs.Signs.{is_zero, is_minus_or_plus_zero}
use Rattle.agc_processor.specs.Effect.{basic_effect, extracode_effect, order_effect, branches, divides, channel_number, short_address}
use Rattle.agc_processor.specs.Extra.{dv_of, in_a_and_l, msu_of, qxch_of, aug_of, dim_of, su_of, mp_of}
use Rattle.agc_processor.specs.Processor.{fetched, a_of, names}

-- the fixed words are as they were
abbrev IsFixed : Processor → Processor → Type 0
IsFixed p q = q.store.fixed ≡ p.store.fixed

either : (b : Bool) (p q r : Processor) → IsFixed p q → IsFixed p r → IsFixed p (if b then q else r)
either true p q r h k = h
either false p q r h k = k

either_memory : (b : Bool) (m n : Memory) → n.fixed ≡ m.fixed → (if b then n else m).fixed ≡ m.fixed
either_memory true m n h = h
either_memory false m n h = refl

reedit_fixed : (m : Memory) (k : ℕ) → (reedit_of m k).fixed ≡ m.fixed
unfolding reedit_of write_of put_of
reedit_fixed m k = either_memory _ m _ refl

das_upper_fixed : (f : ℕ) (t : Number) (p q : Processor) → IsFixed p q → IsFixed p (das_upper f t q)
unfolding write_of put_of
das_upper_fixed f t p q h = either (f == 1) p _ _ h h

das_fixed : (f : ℕ) (p : Processor) → IsFixed p (das_of f p)
unfolding das_of write_of put_of
das_fixed f p = das_upper_fixed f _ p _ refl

overflow_fixed : (k : ℕ) (p : Processor) → IsFixed p (ts_with_overflow k p)
unfolding write_of put_of
overflow_fixed k p = either (names a_cell k p) p _ _ refl refl

ts_by_fixed : (o : Over) (k : ℕ) (p : Processor) → IsFixed p (ts_by o k p)
unfolding write_of put_of
ts_by_fixed over.None k p = refl
ts_by_fixed over.Plus k p = overflow_fixed k p
ts_by_fixed over.Minus k p = overflow_fixed k p

ts_fixed : (k : ℕ) (p : Processor) → IsFixed p (ts_of k p)
unfolding ts_of
ts_fixed k p = ts_by_fixed (over_of (a_of p)) k p

dim_fixed : (k : ℕ) (p : Processor) → IsFixed p (dim_of k p)
unfolding dim_of write_of put_of
dim_fixed k p = either _ p _ _ refl refl

pub basic_fixed : (o : Basic) (p : Processor) → IsFixed p (basic_effect o p).0
unfolding basic_effect tc_of ccs_of tcf_of lxch_of incr_of ads_of ca_of cs_of index_of resume_of xch_of ad_of mask_of dxch_of fetched write_of put_of
basic_fixed basic.Ccs p = reedit_fixed _ _
basic_fixed basic.Das p = das_fixed (short_address p) p
basic_fixed basic.Ca p = reedit_fixed _ _
basic_fixed basic.Cs p = reedit_fixed _ _
basic_fixed basic.Index p = reedit_fixed _ _
basic_fixed basic.Ts p = ts_fixed (short_address p) p
basic_fixed basic.Ad p = reedit_fixed _ _
basic_fixed o p = refl

set_channel_fixed : (c h : ℕ) (w : Number) (p : Processor) → IsFixed p (set_channel c h w p)
unfolding set_channel superbank_set
set_channel_fixed c h w p =
    either (h == superbnk) p _ _ refl (either (h == chan13) p _ _ refl refl)

write_channel_fixed : (c h : ℕ) (w : Number) (p : Processor) → IsFixed p (write_channel c h w p)
unfolding write_channel put_of
write_channel_fixed c h w p =
    either (h == l_channel) p _ _ refl
    (either (h == q_channel) p _ _ refl
    (either (h == hiscalar) p _ _ refl
    (either (h == loscalar) p _ _ refl (set_channel_fixed c h (narrow_of w) p))))

divides_fixed : (words : Option (Number × Number)) (p : Processor) → IsFixed p (divides (option_map (in_a_and_l p) words) p).0
unfolding fetched put_of
divides_fixed (Some words) p = refl
divides_fixed None p = refl

branches_fixed : (test : Bool) (p : Processor) → IsFixed p (branches test p).0
unfolding fetched put_of
branches_fixed true p = refl
branches_fixed false p = refl

pub extracode_fixed : (o : Extracode) (c : ℕ) (p : Processor) → IsFixed p (extracode_effect o c p).0
unfolding extracode_effect read_order rand_order ror_order rxor_order write_order wand_order wor_order dv_of msu_of qxch_of aug_of su_of mp_of dca_of dcs_of index_of fetched write_of put_of
extracode_fixed extra.Write c p = write_channel_fixed c (channel_number p) _ p
extracode_fixed extra.Wand c p = write_channel_fixed c (channel_number p) _ p
extracode_fixed extra.Wor c p = write_channel_fixed c (channel_number p) _ p
extracode_fixed extra.Dv c p = divides_fixed _ p
extracode_fixed extra.Bzf c p = branches_fixed (is_zero (a_of p)) p
extracode_fixed extra.Msu c p = reedit_fixed _ _
extracode_fixed extra.Dim c p = dim_fixed (short_address p) p
extracode_fixed extra.Dca c p = reedit_fixed _ _ ∙ reedit_fixed _ _
extracode_fixed extra.Dcs c p = reedit_fixed _ _ ∙ reedit_fixed _ _
extracode_fixed extra.Index c p = reedit_fixed _ _
extracode_fixed extra.Su c p = reedit_fixed _ _
extracode_fixed extra.Bzmf c p = branches_fixed (is_minus_or_plus_zero (a_of p)) p
extracode_fixed o c p = refl

by_state : (extracode : Bool) (o : Basic) (x : Extracode) (c : ℕ) (p : Processor)
    → IsFixed p (if extracode then extracode_effect x c p else basic_effect o p).0
by_state true o x c p = extracode_fixed x c p
by_state false o x c p = basic_fixed o p

-- and so does the order in hand
pub order_fixed : (c : ℕ) (p : Processor) → (order_effect c p).0.store.fixed ≡ p.store.fixed
unfolding order_effect
order_fixed c p = by_state p.extracode _ _ c p
