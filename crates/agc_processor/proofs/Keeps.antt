-- Orders leave the timers, the requests and TIME6's switch unchanged, except for a write to the channel with that
-- switch.
use Rattle.std.proofs.Common.{◌≡◌, ℕ, Bool, true, false, Option, Some, None, refl, subst, sym, arith}
use Rattle.std.specs.Prelude.{◌==◌, if◌then◌else◌, option_map, set}
use Rattle.std.proofs.lemmas.Bool.Decides.{nat_tests}
use Rattle.std.proofs.lemmas.Grind.{common_steps}
use Rattle.agc_word.specs.Channels.{is_io_channel}
use Rattle.agc_word.specs.Number.{Number}
use Rattle.agc_word.specs.Arithmetic.{over_of, narrow_of}
use Rattle.agc_word.specs.declared.wide.Over.{Over}
use Rattle.agc_word.specs.declared.wide.Over.TheVariants as over
use Rattle.agc_word.specs.Channels.{l_channel, q_channel, hiscalar, loscalar, superbnk, chan13}
use Rattle.agc_store.specs.Places.{a_cell}
use Rattle.agc_order.specs.declared.order.Basic.{Basic}
use Rattle.agc_order.specs.declared.order.Basic.TheVariants as basic
use Rattle.agc_order.specs.declared.order.Extracode.{Extracode}
use Rattle.agc_order.specs.declared.order.Extracode.TheVariants as extra
use Rattle.agc_processor.specs.declared.processor.Processor.{Processor}
use Rattle.agc_processor.specs.declared.processor.Ran.{Ran}
use Rattle.agc_processor.specs.declared.processor.Ran.TheVariants as ran
use Rattle.agc_processor.specs.Basic.{tc_of, ccs_of, tcf_of, lxch_of, incr_of, ads_of, ca_of, cs_of, index_of, resume_of, ts_of, ts_by, ts_with_overflow, xch_of, ad_of, mask_of}
use Rattle.agc_processor.specs.Channel.{read_order, write_order, rand_order, wand_order, ror_order, wor_order, rxor_order, write_channel, set_channel}
use Rattle.agc_processor.specs.Double.{das_of, das_upper, dxch_of, dca_of, dcs_of}
use Rattle.agc_processor.specs.Signs.{is_zero, is_minus_or_plus_zero}
use Rattle.agc_processor.specs.Effect.{basic_effect, extracode_effect, branches, divides, shows, write_cycles, channel_number, short_address}
use Rattle.agc_processor.specs.Extra.{dv_of, in_a_and_l, msu_of, qxch_of, aug_of, dim_of, su_of, mp_of}
use Rattle.agc_processor.specs.Processor.{fetched, plain, a_of, names}
use Rattle.agc_processor.specs.Keeps.{IsSame, Keeps}

either : (b : Bool) (p q r : Processor) → IsSame p q → IsSame p r → IsSame p (if b then q else r)
either true p q r h k = h
either false p q r h k = k

das_upper_same : (f : ℕ) (t : Number) (p q : Processor) → IsSame p q → IsSame p (das_upper f t q)
das_upper_same f t p q h = either (f == 1) p _ _ h h

das_same : (f : ℕ) (p : Processor) → IsSame p (das_of f p)
unfolding das_of
das_same f p = das_upper_same f _ p _ (refl, refl, refl)

overflow_same : (k : ℕ) (p : Processor) → IsSame p (ts_with_overflow k p)
overflow_same k p = either (names a_cell k p) p _ _ (refl, refl, refl) (refl, refl, refl)

ts_by_same : (o : Over) (k : ℕ) (p : Processor) → IsSame p (ts_by o k p)
ts_by_same over.None k p = (refl, refl, refl)
ts_by_same over.Plus k p = overflow_same k p
ts_by_same over.Minus k p = overflow_same k p

ts_same : (k : ℕ) (p : Processor) → IsSame p (ts_of k p)
unfolding ts_of
ts_same k p = ts_by_same (over_of (a_of p)) k p

pub dim_same : (k : ℕ) (p : Processor) → IsSame p (dim_of k p)
unfolding dim_of
dim_same k p = either _ p _ _ (refl, refl, refl) (refl, refl, refl)

pub basic_same : (o : Basic) (p : Processor) → IsSame p (basic_effect o p).0
unfolding basic_effect tc_of ccs_of tcf_of lxch_of incr_of ads_of ca_of cs_of index_of resume_of xch_of ad_of mask_of dxch_of fetched
basic_same basic.Das p = das_same (short_address p) p
basic_same basic.Ts p = ts_same (short_address p) p
basic_same o p = (refl, refl, refl)

quiet_keeps : (p : Processor) (r : Processor × Ran) → IsSame p r.0 → Keeps p r
quiet_keeps p (q, ran.Quiet cycles) h = h
quiet_keeps p (q, ran.Wrote channel value) h = λ _. h
quiet_keeps p (q, ran.Halted why) h = h

other_channel : (b : Bool) (h : ℕ) (p q r : Processor) → (h == chan13) ≡ b → (h ≡ chan13 → ⊥) → IsSame p r → IsSame p (if b then q else r)
other_channel true h p q r e not_switch k = absurd (not_switch (grind (arith, nat_tests)))
other_channel false h p q r e not_switch k = k

cell_kept : (h : ℕ) (w : Number) (p : Processor) → (h ≡ chan13 → ⊥) → IsSame p (record p { channels = set p.channels h w })
cell_kept h w p not_switch = (refl, refl, grind (arith, common_steps))

set_channel_same : (c h : ℕ) (w : Number) (p : Processor) → (h ≡ chan13 → ⊥) → IsSame p (set_channel c h w p)
unfolding set_channel
set_channel_same c h w p not_switch =
    either (h == superbnk) p _ _ (refl, refl, grind (arith, common_steps))
    (other_channel (h == chan13) h p _ _ refl not_switch (cell_kept h w p not_switch))

write_channel_same : (c h : ℕ) (w : Number) (p : Processor) → (h ≡ chan13 → ⊥) → IsSame p (write_channel c h w p)
unfolding write_channel
write_channel_same c h w p not_switch =
    either (h == l_channel) p _ _ (refl, refl, refl)
    (either (h == q_channel) p _ _ (refl, refl, refl)
    (either (h == hiscalar) p _ _ (refl, refl, refl)
    (either (h == loscalar) p _ _ (refl, refl, refl) (set_channel_same c h (narrow_of w) p not_switch))))

shown_keeps : (b : Bool) (h : ℕ) (value : Number) (p q : Processor) → is_io_channel h ≡ b →
    ((h ≡ chan13 → ⊥) → IsSame p q) →
    Keeps p (q, if b then ran.Wrote h value else ran.Quiet write_cycles)
shown_keeps true h value p q e f = f
shown_keeps false h value p q e f = f (λ (is_switch : h ≡ chan13). grind (arith, nat_tests))

shows_keep : (h : ℕ) (p q : Processor) → ((h ≡ chan13 → ⊥) → IsSame p q) → Keeps p (shows h q)
unfolding fetched
shows_keep h p q f = shown_keeps (is_io_channel h) h _ p (fetched (plain q)) refl f

divides_keeps : (words : Option (Number × Number)) (p : Processor) → Keeps p (divides (option_map (in_a_and_l p) words) p)
unfolding fetched
divides_keeps (Some words) p = (refl, refl, refl)
divides_keeps None p = (refl, refl, refl)

branches_keep : (test : Bool) (p : Processor) → Keeps p (branches test p)
unfolding fetched
branches_keep true p = (refl, refl, refl)
branches_keep false p = (refl, refl, refl)

extracode_keeps : (o : Extracode) (c : ℕ) (p : Processor) → Keeps p (extracode_effect o c p)
unfolding extracode_effect read_order rand_order ror_order rxor_order write_order wand_order wor_order dv_of msu_of qxch_of aug_of su_of mp_of dca_of dcs_of index_of fetched
extracode_keeps extra.Write c p = shows_keep (channel_number p) p (write_order c (channel_number p) p) (write_channel_same c (channel_number p) _ p)
extracode_keeps extra.Wand c p = shows_keep (channel_number p) p (wand_order c (channel_number p) p) (write_channel_same c (channel_number p) _ p)
extracode_keeps extra.Wor c p = shows_keep (channel_number p) p (wor_order c (channel_number p) p) (write_channel_same c (channel_number p) _ p)
extracode_keeps extra.Dv c p = divides_keeps _ p
extracode_keeps extra.Bzf c p = branches_keep (is_zero (a_of p)) p
extracode_keeps extra.Bzmf c p = branches_keep (is_minus_or_plus_zero (a_of p)) p
extracode_keeps extra.Dim c p = dim_same (short_address p) p
extracode_keeps o c p = (refl, refl, refl)

-- what an order that has run kept
pub basic_keeps_at : (o : Basic) (p : Processor) (r : Processor × Ran) → r ≡ basic_effect o p → Keeps p r
basic_keeps_at o p r e = subst (Keeps p) (sym e) (quiet_keeps p (basic_effect o p) (basic_same o p))

pub extracode_keeps_at : (o : Extracode) (c : ℕ) (p : Processor) (r : Processor × Ran) → r ≡ extracode_effect o c p → Keeps p r
extracode_keeps_at o c p r e = subst (Keeps p) (sym e) (extracode_keeps o c p)
