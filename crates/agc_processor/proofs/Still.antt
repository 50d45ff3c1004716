-- What orders leave unchanged beside the cells: channels, superbank, timers, requests and the two flags.
use Rattle.std.proofs.Common.{◌≡◌, ◌≢◌, ℕ, Bool, true, false, Option, Some, None, List, refl, sym, ap, ◌∙◌, arith}
use Rattle.std.specs.Prelude.{◌==◌, ◌&&◌, nat_le, if◌then◌else◌, option_map, get_or, set}
use Rattle.std.proofs.lemmas.Bool.Decides.{nat_tests}
use Rattle.std.proofs.lemmas.List.{get_or-set_other}
use Rattle.std.proofs.lemmas.Bool.{true≢false}
use Rattle.agc_word.specs.Number.{Number}
use Rattle.agc_word.specs.Arithmetic.{over_of, narrow_of}
use Rattle.agc_word.specs.declared.wide.Over.{Over}
use Rattle.agc_word.specs.declared.wide.Over.TheVariants as over
use Rattle.agc_word.specs.Channels.{l_channel, q_channel, hiscalar, loscalar, superbnk, chan13}
use Rattle.agc_store.specs.Places.{a_cell}
use Rattle.agc_store.specs.Memory.{Memory}
use Rattle.agc_store.specs.Cells.{put_of, write_of, reedit_of, superbank_set}
use Rattle.agc_order.specs.declared.order.Basic.{Basic}
use Rattle.agc_order.specs.declared.order.Basic.TheVariants as basic
use Rattle.agc_order.specs.declared.order.Extracode.{Extracode}
use Rattle.agc_order.specs.declared.order.Extracode.TheVariants as extra
use Rattle.agc_processor.specs.declared.processor.Processor.{Processor}
use Rattle.agc_processor.specs.declared.processor.Timers.{Timers}
use Rattle.agc_processor.specs.Basic.{tc_of, ccs_of, tcf_of, lxch_of, incr_of, ads_of, ca_of, cs_of, index_of, resume_of, ts_of, ts_by, ts_with_overflow, xch_of, ad_of, mask_of}
use Rattle.agc_processor.specs.Channel.{read_order, write_order, rand_order, wand_order, ror_order, wor_order, rxor_order, write_channel, set_channel, channel_cell}
use Rattle.agc_processor.specs.Double.{das_of, das_upper, dxch_of, dca_of, dcs_of}
use Rattle.agc_processor.specs.Effect.{basic_effect, extracode_effect, branches, divides, channel_number, short_address}
use Rattle.agc_processor.specs.Extra.{dv_of, in_a_and_l, msu_of, qxch_of, aug_of, dim_of, su_of, mp_of}
use Rattle.agc_processor.specs.Processor.{a_of, content, fetched, names}
use Rattle.agc_processor.specs.Signs.{is_zero, is_minus_or_plus_zero, plus_zero}
use Rattle.agc_processor.specs.Row.{channel_set}
use Rattle.agc_processor.specs.Table.{basic_row, extracode_row, inhibited_after, serving_after, KeepsFlags}

-- all of them are as they were
abbrev IsStill : Processor → Processor → Type 0
IsStill p q =
    (q.store.superbank ≡ p.store.superbank) × (q.channels ≡ p.channels) × (q.timers ≡ p.timers)
    × (q.requests ≡ p.requests) × (q.inhibited ≡ p.inhibited) × (q.serving ≡ p.serving)

-- all but the flags, and what depends on the channel that is set
pub record Rest (set_one : Option ℕ) (p q : Processor) : Type 0 where
  pub channels : (h : ℕ) → set_one ≢ Some h → channel_cell h q ≡ channel_cell h p
  pub superbank : set_one ≢ Some superbnk → q.store.superbank ≡ p.store.superbank
  pub mark : set_one ≢ Some chan13 → q.timers.mark ≡ p.timers.mark
  pub counts : q.timers ≡ record p.timers { mark = q.timers.mark }
  pub requests : q.requests ≡ p.requests

rest : {p q : Processor} (set_one : Option ℕ) → q.store.superbank ≡ p.store.superbank → q.channels ≡ p.channels
    → q.timers ≡ p.timers → q.requests ≡ p.requests → Rest set_one p q
rest {p} {q} set_one s c t r =
    record {
      channels = λ h other. ap (λ (cells : List Number). get_or cells h plus_zero) c;
      superbank = λ other. s;
      mark = λ other. rw t refl;
      counts = rw t refl;
      requests = r;
    }

either : (P : Processor → Type 0) (b : Bool) (q r : Processor) → (b ≡ true → P q) → (b ≡ false → P r) → P (if b then q else r)
either P true q r h k = h refl
either P false q r h k = k refl

either_still : (b : Bool) (p q r : Processor) → IsStill p q → IsStill p r → IsStill p (if b then q else r)
either_still true p q r h k = h
either_still false p q r h k = k

either_superbank : (b : Bool) (m n : Memory) → n.superbank ≡ m.superbank → (if b then n else m).superbank ≡ m.superbank
either_superbank true m n h = h
either_superbank false m n h = refl

reedit_superbank : (m : Memory) (k : ℕ) → (reedit_of m k).superbank ≡ m.superbank
unfolding reedit_of write_of put_of
reedit_superbank m k = either_superbank _ m _ refl

das_upper_still : (f : ℕ) (t : Number) (p q : Processor) → IsStill p q → IsStill p (das_upper f t q)
unfolding write_of put_of
das_upper_still f t p q h = either_still (f == 1) p _ _ h h

das_still : (f : ℕ) (p : Processor) → IsStill p (das_of f p)
unfolding das_of write_of put_of
das_still f p = das_upper_still f _ p _ (refl, refl, refl, refl, refl, refl)

overflow_still : (k : ℕ) (p : Processor) → IsStill p (ts_with_overflow k p)
unfolding write_of put_of
overflow_still k p = either_still (names a_cell k p) p _ _ (refl, refl, refl, refl, refl, refl) (refl, refl, refl, refl, refl, refl)

ts_by_still : (o : Over) (k : ℕ) (p : Processor) → IsStill p (ts_by o k p)
unfolding write_of put_of
ts_by_still over.None k p = (refl, refl, refl, refl, refl, refl)
ts_by_still over.Plus k p = overflow_still k p
ts_by_still over.Minus k p = overflow_still k p

ts_still : (k : ℕ) (p : Processor) → IsStill p (ts_of k p)
unfolding ts_of
ts_still k p = ts_by_still (over_of (a_of p)) k p

dim_still : (k : ℕ) (p : Processor) → IsStill p (dim_of k p)
unfolding dim_of write_of put_of
dim_still k p = either_still (is_zero (content k p)) p _ _ (refl, refl, refl, refl, refl, refl) (refl, refl, refl, refl, refl, refl)

divides_still : (words : Option (Number × Number)) (p : Processor) → IsStill p (divides (option_map (in_a_and_l p) words) p).0
unfolding fetched put_of
divides_still (Some words) p = (refl, refl, refl, refl, refl, refl)
divides_still None p = (refl, refl, refl, refl, refl, refl)

branches_still : (test : Bool) (p : Processor) → IsStill p (branches test p).0
unfolding fetched put_of
branches_still true p = (refl, refl, refl, refl, refl, refl)
branches_still false p = (refl, refl, refl, refl, refl, refl)

pub basic_rest : (o : Basic) (p : Processor) → Rest (channel_set (basic_row o).reach p) p (basic_effect o p).0
unfolding basic_effect basic_row channel_set tc_of ccs_of tcf_of lxch_of incr_of ads_of ca_of cs_of index_of resume_of xch_of ad_of mask_of dxch_of fetched write_of put_of
basic_rest basic.Ccs p = rest None (reedit_superbank _ _) refl refl refl
basic_rest basic.Das p = let h = das_still (short_address p) p in rest None h.0 h.1 h.2 h.3
basic_rest basic.Ca p = rest None (reedit_superbank _ _) refl refl refl
basic_rest basic.Cs p = rest None (reedit_superbank _ _) refl refl refl
basic_rest basic.Index p = rest None (reedit_superbank _ _) refl refl refl
basic_rest basic.Ts p = let h = ts_still (short_address p) p in rest None h.0 h.1 h.2 h.3
basic_rest basic.Ad p = rest None (reedit_superbank _ _) refl refl refl
basic_rest o p = rest None refl refl refl refl

pub basic_inhibited : (o : Basic) (p : Processor) → (basic_effect o p).0.inhibited ≡ inhibited_after o p.inhibited
unfolding basic_effect inhibited_after tc_of ccs_of tcf_of lxch_of incr_of ads_of ca_of cs_of index_of resume_of xch_of ad_of mask_of dxch_of fetched
basic_inhibited basic.Das p = (das_still (short_address p) p).4
basic_inhibited basic.Ts p = (ts_still (short_address p) p).4
basic_inhibited o p = refl

pub basic_serving : (o : Basic) (p : Processor) → (basic_effect o p).0.serving ≡ serving_after o p.serving
unfolding basic_effect serving_after tc_of ccs_of tcf_of lxch_of incr_of ads_of ca_of cs_of index_of resume_of xch_of ad_of mask_of dxch_of fetched
basic_serving basic.Das p = (das_still (short_address p) p).5
basic_serving basic.Ts p = (ts_still (short_address p) p).5
basic_serving o p = refl

-- a channel's cell is set
other_cell : (h k : ℕ) (w : Number) (p : Processor) → Some h ≢ Some k → get_or (set p.channels h w) k plus_zero ≡ channel_cell k p
other_cell h k w p other = get_or-set_other p.channels h k w plus_zero (λ (e : k ≡ h). other (ap Some (sym e)))

set_channel_rest : (c h : ℕ) (w : Number) (p : Processor) → Rest (Some h) p (set_channel c h w p)
unfolding set_channel superbank_set
set_channel_rest c h w p =
    either (Rest (Some h) p) (h == superbnk) _ _
    (λ is. let e : h ≡ superbnk = grind (arith, nat_tests) in
    record {
      channels = λ k other. other_cell superbnk k _ p (λ (same : Some superbnk ≡ Some k). other (ap Some e ∙ same));
      superbank = λ other. absurd (other (ap Some e));
      mark = λ other. refl;
      counts = refl;
      requests = refl;
    })
    (λ no. either (Rest (Some h) p) (h == chan13) _ _
    (λ is. let e : h ≡ chan13 = grind (arith, nat_tests) in
    record {
      channels = λ k other. other_cell chan13 k _ p (λ (same : Some chan13 ≡ Some k). other (ap Some e ∙ same));
      superbank = λ other. refl;
      mark = λ other. absurd (other (ap Some e));
      counts = refl;
      requests = refl;
    })
    (λ plain. record {
      channels = λ k other. other_cell h k w p other;
      superbank = λ other. refl;
      mark = λ other. refl;
      counts = refl;
      requests = refl;
    }))

set_one : (b : Bool) (h : ℕ) (p q : Processor) → b ≡ false → Rest (Some h) p q → Rest (if b then None else Some h) p q
set_one true h p q e r = absurd (true≢false e)
set_one false h p q e r = r

write_channel_rest : (c h : ℕ) (w : Number) (p : Processor) → Rest (if nat_le 1 h && nat_le h 4 then None else Some h) p (write_channel c h w p)
unfolding write_channel put_of
write_channel_rest c h w p =
    let one : Option ℕ = if nat_le 1 h && nat_le h 4 then None else Some h in
    either (Rest one p) (h == l_channel) _ _ (λ is. rest one refl refl refl refl)
    (λ no_l. either (Rest one p) (h == q_channel) _ _ (λ is. rest one refl refl refl refl)
    (λ no_q. either (Rest one p) (h == hiscalar) _ _ (λ is. rest one refl refl refl refl)
    (λ no_high. either (Rest one p) (h == loscalar) _ _ (λ is. rest one refl refl refl refl)
    (λ no_low. set_one (nat_le 1 h && nat_le h 4) h p _ (grind (arith, nat_tests)) (set_channel_rest c h (narrow_of w) p)))))

-- the same holds once A is set and the next order is in hand
again : {n : Option ℕ} {p q r : Processor} → r.channels ≡ q.channels → r.store.superbank ≡ q.store.superbank
    → r.timers ≡ q.timers → r.requests ≡ q.requests → Rest n p q → Rest n p r
again {n} {p} {q} {r} c s t e h =
    record {
      channels = λ k other. ap (λ (cells : List Number). get_or cells k plus_zero) c ∙ h.channels k other;
      superbank = λ other. s ∙ h.superbank other;
      mark = λ other. ap (λ (x : Timers). x.mark) t ∙ h.mark other;
      counts = t ∙ h.counts ∙ ap (λ (x : Timers). record p.timers { mark = x.mark }) (sym t);
      requests = e ∙ h.requests;
    }

pub extracode_rest : (o : Extracode) (c : ℕ) (p : Processor) → Rest (channel_set (extracode_row o).reach p) p (extracode_effect o c p).0
unfolding extracode_effect extracode_row channel_set read_order rand_order ror_order rxor_order write_order wand_order wor_order dv_of msu_of qxch_of aug_of su_of mp_of dca_of dcs_of index_of fetched write_of put_of
extracode_rest extra.Write c p = again refl refl refl refl (write_channel_rest c (channel_number p) _ p)
extracode_rest extra.Wand c p = again refl refl refl refl (write_channel_rest c (channel_number p) _ p)
extracode_rest extra.Wor c p = again refl refl refl refl (write_channel_rest c (channel_number p) _ p)
extracode_rest extra.Dv c p = let h = divides_still _ p in rest None h.0 h.1 h.2 h.3
extracode_rest extra.Bzf c p = let h = branches_still (is_zero (a_of p)) p in rest None h.0 h.1 h.2 h.3
extracode_rest extra.Msu c p = rest None (reedit_superbank _ _) refl refl refl
extracode_rest extra.Dim c p = let h = dim_still (short_address p) p in rest None h.0 h.1 h.2 h.3
extracode_rest extra.Dca c p = rest None (reedit_superbank _ _ ∙ reedit_superbank _ _) refl refl refl
extracode_rest extra.Dcs c p = rest None (reedit_superbank _ _ ∙ reedit_superbank _ _) refl refl refl
extracode_rest extra.Index c p = rest None (reedit_superbank _ _) refl refl refl
extracode_rest extra.Su c p = rest None (reedit_superbank _ _) refl refl refl
extracode_rest extra.Bzmf c p = let h = branches_still (is_minus_or_plus_zero (a_of p)) p in rest None h.0 h.1 h.2 h.3
extracode_rest o c p = rest None refl refl refl refl

set_channel_flags : (c h : ℕ) (w : Number) (p : Processor) → KeepsFlags p (set_channel c h w p)
unfolding set_channel
set_channel_flags c h w p =
    either (KeepsFlags p) (h == superbnk) _ _ (λ is. (refl, refl))
    (λ no. either (KeepsFlags p) (h == chan13) _ _ (λ is. (refl, refl)) (λ plain. (refl, refl)))

write_channel_flags : (c h : ℕ) (w : Number) (p : Processor) → KeepsFlags p (write_channel c h w p)
unfolding write_channel
write_channel_flags c h w p =
    either (KeepsFlags p) (h == l_channel) _ _ (λ is. (refl, refl))
    (λ no_l. either (KeepsFlags p) (h == q_channel) _ _ (λ is. (refl, refl))
    (λ no_q. either (KeepsFlags p) (h == hiscalar) _ _ (λ is. (refl, refl))
    (λ no_high. either (KeepsFlags p) (h == loscalar) _ _ (λ is. (refl, refl))
    (λ no_low. set_channel_flags c h (narrow_of w) p))))

pub extracode_flags : (o : Extracode) (c : ℕ) (p : Processor) → KeepsFlags p (extracode_effect o c p).0
unfolding extracode_effect read_order rand_order ror_order rxor_order write_order wand_order wor_order dv_of msu_of qxch_of aug_of su_of mp_of dca_of dcs_of index_of fetched
extracode_flags extra.Write c p = write_channel_flags c (channel_number p) _ p
extracode_flags extra.Wand c p = write_channel_flags c (channel_number p) _ p
extracode_flags extra.Wor c p = write_channel_flags c (channel_number p) _ p
extracode_flags extra.Dv c p = let h = divides_still _ p in (h.4, h.5)
extracode_flags extra.Bzf c p = let h = branches_still (is_zero (a_of p)) p in (h.4, h.5)
extracode_flags extra.Dim c p = let h = dim_still (short_address p) p in (h.4, h.5)
extracode_flags extra.Bzmf c p = let h = branches_still (is_minus_or_plus_zero (a_of p)) p in (h.4, h.5)
extracode_flags o c p = (refl, refl)
