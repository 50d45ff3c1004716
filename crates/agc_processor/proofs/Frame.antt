-- Every order changes only its row of the table.
use Rattle.std.proofs.Common.{◌≡◌, ◌≢◌, ℕ, ◌<◌, Bool, true, false, Option, Some, None, sym, subst, arith}
use Rattle.std.specs.Prelude.{◌==◌, option_map}
use Rattle.std.proofs.lemmas.Bool.Decides.{nat_tests}
use Rattle.agc_word.specs.Number.{Number}
use Rattle.agc_word.specs.Arithmetic.{over_of, narrow_of}
use Rattle.agc_word.specs.declared.wide.Over.{Over}
use Rattle.agc_word.specs.declared.wide.Over.TheVariants as over
use Rattle.agc_word.specs.Channels.{l_channel, q_channel, hiscalar, loscalar, superbnk, chan13}
use Rattle.agc_store.specs.Places.{a_cell, l_cell, q_cell, eb_cell, z_cell}
use Rattle.agc_store.specs.Memory.{Memory, erasable_place, is_erasable}
use Rattle.agc_store.specs.Cells.{is_editing, put_of, write_of, reedit_of}
use Rattle.agc_order.specs.declared.order.Basic.{Basic}
use Rattle.agc_order.specs.declared.order.Basic.TheVariants as basic
use Rattle.agc_order.specs.declared.order.Extracode.{Extracode}
use Rattle.agc_order.specs.declared.order.Extracode.TheVariants as extra
use Rattle.agc_processor.specs.declared.processor.Processor.{Processor}
use Rattle.agc_processor.specs.Basic.{tc_of, ccs_of, tcf_of, lxch_of, incr_of, ads_of, ca_of, cs_of, index_of, resume_of, ts_of, ts_by, ts_with_overflow, xch_of, ad_of, mask_of}
use Rattle.agc_processor.specs.Channel.{read_order, write_order, rand_order, wand_order, ror_order, wor_order, rxor_order, write_channel, set_channel}
use Rattle.agc_processor.specs.Double.{before_in_twelve, dca_of, dcs_of}
use Rattle.agc_processor.specs.Effect.{basic_effect, extracode_effect, branches, divides, channel_number, short_address}
use Rattle.agc_processor.specs.Extra.{dv_of, in_a_and_l, msu_of, qxch_of, aug_of, dim_of, su_of, mp_of}
use Rattle.agc_processor.specs.Processor.{a_of, content, fetched, names}
use Rattle.agc_processor.specs.Signs.{is_zero, is_minus_or_plus_zero}
use Rattle.agc_processor.specs.Row.{IsElsewhere, IsNotEdited, IsNoneOf, IsOutOfReach, below, place_of, twelve_bits}
use Rattle.agc_processor.specs.Table.{basic_row, extracode_row}
use Rattle.agc_processor.proofs.Steps.{Kept, start, a_step, l_step, q_step, z_step, write_step, again_step, superbank_step, either, same_place}
use Rattle.agc_processor.proofs.Pairs.{das_kept, dxch_kept}

-- a write after a change of Z, which leaves EB's bank
written_after_skip : (m : Memory) (z w : Number) (k c : ℕ) → c ≢ z_cell → IsElsewhere (erasable_place m.erasable k) c → Kept c m (write_of (put_of m z_cell z) k w)
written_after_skip m z w k c not_z away =
    let skipped : Kept eb_cell m (put_of m z_cell z) = z_step z (omega arith) start in
    write_step k w (subst (λ (place : ℕ). IsElsewhere place c) (sym (same_place k skipped)) away) (z_step z not_z start)

-- TS with overflow
overflow_kept : (k : ℕ) (p : Processor) (c : ℕ) → c ≢ z_cell → c ≢ a_cell → IsElsewhere (place_of k p) c → Kept c p.store (ts_with_overflow k p).store
overflow_kept k p c z a away =
    either (names a_cell k p) _ _ (λ yes. z_step _ z start) (λ no. a_step _ a (written_after_skip p.store _ _ k c z away))

ts_by_kept : (o : Over) (k : ℕ) (p : Processor) (c : ℕ) → c ≢ z_cell → c ≢ a_cell → IsElsewhere (place_of k p) c → Kept c p.store (ts_by o k p).store
ts_by_kept over.None k p c z a away = write_step _ _ away start
ts_by_kept over.Plus k p c z a away = overflow_kept k p c z a away
ts_by_kept over.Minus k p c z a away = overflow_kept k p c z a away

ts_kept : (k : ℕ) (p : Processor) (c : ℕ) → c ≢ z_cell → c ≢ a_cell → IsElsewhere (place_of k p) c → Kept c p.store (ts_of k p).store
unfolding ts_of
ts_kept k p c z a away = ts_by_kept (over_of (a_of p)) k p c z a away

pub basic_cells : (o : Basic) (p : Processor) (c : ℕ) → c ≢ z_cell → IsNoneOf (basic_row o).sets c
    → IsOutOfReach (basic_row o).reach p (basic_effect o p).0 c → Kept c p.store (basic_effect o p).0.store
unfolding basic_effect basic_row IsNoneOf IsOutOfReach tc_of ccs_of tcf_of lxch_of incr_of ads_of ca_of cs_of index_of resume_of xch_of ad_of mask_of fetched
basic_cells basic.Tc p c z s r = z_step _ z (q_step _ s.0 start)
basic_cells basic.Relint p c z s r = z_step _ z start
basic_cells basic.Inhint p c z s r = z_step _ z start
basic_cells basic.Extend p c z s r = z_step _ z start
basic_cells basic.Ccs p c z s r = z_step _ z (z_step _ z (a_step _ s.0 (again_step _ r start)))
basic_cells basic.Tcf p c z s r = z_step _ z (z_step _ z start)
basic_cells basic.Das p c z s r = das_kept p c z s.0 s.1.0 r.0 r.1
basic_cells basic.Lxch p c z s r = z_step _ z (l_step _ s.0 (write_step _ _ r start))
basic_cells basic.Incr p c z s r = z_step _ z (write_step _ _ r start)
basic_cells basic.Ads p c z s r = z_step _ z (a_step _ s.0 (write_step _ _ r start))
basic_cells basic.Ca p c z s r = z_step _ z (a_step _ s.0 (again_step _ r start))
basic_cells basic.Cs p c z s r = z_step _ z (a_step _ s.0 (again_step _ r start))
basic_cells basic.Index p c z s r = z_step _ z (again_step _ r start)
basic_cells basic.Resume p c z s r = z_step _ z start
basic_cells basic.Dxch p c z s r = dxch_kept p c z s.0 s.1.0 r.0 r.1
basic_cells basic.Ts p c z s r = z_step _ z (ts_kept (short_address p) p c z s.0 r)
basic_cells basic.Xch p c z s r = z_step _ z (a_step _ s.0 (write_step _ _ r start))
basic_cells basic.Ad p c z s r = z_step _ z (a_step _ s.0 (again_step _ r start))
basic_cells basic.Mask p c z s r = z_step _ z (a_step _ s.0 start)

-- DIM of a zero writes nothing
dim_kept : (k : ℕ) (p : Processor) (c : ℕ) → IsElsewhere (place_of k p) c → Kept c p.store (dim_of k p).store
unfolding dim_of
dim_kept k p c away = either (is_zero (content k p)) _ _ (λ zero. start) (λ other. write_step _ _ away start)

divides_kept : (words : Option (Number × Number)) (p : Processor) (c : ℕ) → c ≢ z_cell → c ≢ a_cell → c ≢ l_cell
    → Kept c p.store (divides (option_map (in_a_and_l p) words) p).0.store
unfolding fetched
divides_kept (Some words) p c z a l = z_step _ z (l_step _ l (a_step _ a start))
divides_kept None p c z a l = start

branches_kept : (test : Bool) (p : Processor) (c : ℕ) → c ≢ z_cell → Kept c p.store (branches test p).0.store
unfolding fetched
branches_kept true p c z = z_step _ z (z_step _ z start)
branches_kept false p c z = z_step _ z start

set_channel_kept : (c h : ℕ) (w : Number) (cell : ℕ) (p : Processor) → Kept cell p.store (set_channel c h w p).store
unfolding set_channel
set_channel_kept c h w cell p =
    either (h == superbnk) _ _ (λ is. superbank_step _ start)
    (λ other. either (h == chan13) _ _ (λ is. start) (λ plain. start))

write_channel_kept : (c h : ℕ) (w : Number) (cell : ℕ) (p : Processor) → (h ≡ 1 → cell ≢ l_cell) → (h ≡ 2 → cell ≢ q_cell)
    → Kept cell p.store (write_channel c h w p).store
unfolding write_channel
write_channel_kept c h w cell p l q =
    either (h == l_channel) _ _ (λ is. l_step _ (l (grind (arith, nat_tests))) start)
    (λ no_l. either (h == q_channel) _ _ (λ is. q_step _ (q (grind (arith, nat_tests))) start)
    (λ no_q. either (h == hiscalar) _ _ (λ is. start)
    (λ no_high. either (h == loscalar) _ _ (λ is. start)
    (λ no_low. set_channel_kept c h (narrow_of w) cell p))))

-- the address below in twelve bits
below_twelve : (f : ℕ) → f < 0o10000 → below 0o7777 f ≡ before_in_twelve f
below_twelve f inside = grind (arith, nat_tests)

-- the upper word is read once L is set
upper_read : (m n : Memory) (low up c : ℕ) → low ≡ up → Kept eb_cell m n
    → (is_erasable low ≡ true → is_editing (erasable_place m.erasable low) ≡ true → c ≢ erasable_place m.erasable low)
    → is_erasable up ≡ true → is_editing (erasable_place n.erasable up) ≡ true → c ≢ erasable_place n.erasable up
upper_read m n low up c same kept h =
    subst (λ (place : ℕ). is_erasable up ≡ true → is_editing place ≡ true → c ≢ place) (sym (same_place up kept))
    (subst (λ (a : ℕ). is_erasable a ≡ true → is_editing (erasable_place m.erasable a) ≡ true → c ≢ erasable_place m.erasable a) same h)

-- EB is no editing register
eb_is_not_edited : (place : ℕ) → is_editing place ≡ true → eb_cell ≢ place
eb_is_not_edited place h = grind (arith, nat_tests)

two_read : (p : Processor) (w v : Number) (c : ℕ) → c ≢ z_cell → c ≢ a_cell → c ≢ l_cell
    → IsNotEdited (twelve_bits p) p c → IsNotEdited (below 0o7777 (twelve_bits p)) p c
    → Kept c p.store (put_of (reedit_of (put_of (reedit_of p.store (twelve_bits p)) l_cell w) (before_in_twelve (twelve_bits p))) a_cell v)
two_read p w v c z a l low up =
    let f = twelve_bits p in
    let lower = put_of (reedit_of p.store f) l_cell w in
    let eb : Kept eb_cell p.store lower =
    l_step w (omega arith) (again_step f (λ e i. eb_is_not_edited (erasable_place p.store.erasable f) i) start) in
    let u = upper_read p.store lower (below 0o7777 f) (before_in_twelve f) c (below_twelve f (omega arith)) eb up in
    a_step v a (again_step (before_in_twelve f) u (l_step w l (again_step f low start)))

pub extracode_cells : (o : Extracode) (cycle : ℕ) (p : Processor) (c : ℕ) → c ≢ z_cell → IsNoneOf (extracode_row o).sets c
    → IsOutOfReach (extracode_row o).reach p (extracode_effect o cycle p).0 c → Kept c p.store (extracode_effect o cycle p).0.store
unfolding extracode_effect extracode_row IsNoneOf IsOutOfReach read_order rand_order ror_order rxor_order write_order wand_order wor_order dv_of msu_of qxch_of aug_of su_of mp_of dca_of dcs_of index_of fetched
extracode_cells extra.Read n p c z s r = z_step _ z (a_step _ s.0 start)
extracode_cells extra.Write n p c z s r = z_step _ z (write_channel_kept n (channel_number p) _ c p r.0 r.1)
extracode_cells extra.Rand n p c z s r = z_step _ z (a_step _ s.0 start)
extracode_cells extra.Wand n p c z s r = z_step _ z (a_step _ s.0 (write_channel_kept n (channel_number p) _ c p r.0 r.1))
extracode_cells extra.Ror n p c z s r = z_step _ z (a_step _ s.0 start)
extracode_cells extra.Wor n p c z s r = z_step _ z (a_step _ s.0 (write_channel_kept n (channel_number p) _ c p r.0 r.1))
extracode_cells extra.Rxor n p c z s r = z_step _ z (a_step _ s.0 start)
extracode_cells extra.Edrupt n p c z s r = start
extracode_cells extra.Dv n p c z s r = divides_kept _ p c z s.0 s.1.0
extracode_cells extra.Bzf n p c z s r = branches_kept (is_zero (a_of p)) p c z
extracode_cells extra.Msu n p c z s r = z_step _ z (a_step _ s.0 (again_step _ r start))
extracode_cells extra.Qxch n p c z s r = z_step _ z (q_step _ s.0 (write_step _ _ r start))
extracode_cells extra.Aug n p c z s r = z_step _ z (write_step _ _ r start)
extracode_cells extra.Dim n p c z s r = z_step _ z (dim_kept (short_address p) p c r)
extracode_cells extra.Dca n p c z s r = z_step _ z (two_read p _ _ c z s.0 s.1.0 r.0 r.1)
extracode_cells extra.Dcs n p c z s r = z_step _ z (two_read p _ _ c z s.0 s.1.0 r.0 r.1)
extracode_cells extra.Index n p c z s r = z_step _ z (again_step _ r start)
extracode_cells extra.Su n p c z s r = z_step _ z (a_step _ s.0 (again_step _ r start))
extracode_cells extra.Bzmf n p c z s r = branches_kept (is_minus_or_plus_zero (a_of p)) p c z
extracode_cells extra.Mp n p c z s r = z_step _ z (l_step _ s.1.0 (a_step _ s.0 start))
