-- Still orders leave all but the context, and a processor is its context and the rest.
use Rattle.std.proofs.Common.{◌≡◌, ℕ, Bool, true, false, List, refl, ap, sym, ◌∙◌, arith}
use Rattle.std.specs.Prelude.{◌/◌, ◌%◌, ◌==◌, ◌&&◌, ◌||◌, not, set, if◌then◌else◌}
use Rattle.std.proofs.lemmas.List.{set-set, set_comm, set-get_or, get_or-set_other}
use Rattle.agc_word.specs.Channels.{l_channel, q_channel, hiscalar, loscalar}
use Rattle.agc_word.specs.Number.{Number}
use Rattle.agc_store.specs.Places.{a_cell, l_cell, q_cell, z_cell}
use Rattle.agc_store.specs.Memory.{Memory, cell_at, nothing}
use Rattle.agc_store.specs.Cells.{cells_with, narrow_number, put_of, reedit_of}
use Rattle.agc_store.specs.Registers.{register}
use Rattle.agc_order.specs.declared.order.Basic.{Basic}
use Rattle.agc_order.specs.declared.order.Basic.TheVariants as basic
use Rattle.agc_order.specs.declared.order.Extracode.{Extracode}
use Rattle.agc_order.specs.declared.order.Extracode.TheVariants as extra
use Rattle.agc_processor.specs.declared.idle.Context.{Context}
use Rattle.agc_processor.specs.declared.processor.Processor.{Processor}
use Rattle.agc_processor.specs.Basic.{tc_of, ccs_of, tcf_of, ca_of, cs_of, index_of, resume_of, ad_of, mask_of}
use Rattle.agc_processor.specs.Channel.{channel_cell, channel_word, read_order, rand_order, ror_order, rxor_order}
use Rattle.agc_processor.specs.Due.{scaler}
use Rattle.agc_processor.specs.Effect.{basic_effect, extracode_effect, order_effect, branches, channel_number}
use Rattle.agc_processor.specs.Extra.{msu_of, su_of, mp_of}
use Rattle.agc_processor.specs.Idle.{IsUnseen, KeepsStill, context_of, edits, is_still, is_still_basic, is_still_extracode, is_timeless, leaves_cells, other_cells, rest_of, shows_cycle}
use Rattle.agc_processor.specs.Processor.{a_of, l_of, q_of, fetched}
use Rattle.agc_processor.specs.Row.{ten_bits, twelve_bits}
use Rattle.agc_processor.specs.Signs.{is_zero, is_minus_or_plus_zero, plus_zero}
use Rattle.agc_processor.specs.Table.{basic_row, extracode_row}

no_rest : {P : Type 0} → false ≡ true → P
no_rest h = absurd (cc)

-- the other cells do not see a register that is set
other_a : (e : List Number) (w : Number) → other_cells (set e a_cell w) ≡ other_cells e
unfolding other_cells
other_a e w = rw (set-set e a_cell w plus_zero) refl

other_l : (e : List Number) (w : Number) → other_cells (set e l_cell w) ≡ other_cells e
unfolding other_cells
other_l e w =
    rw (set_comm e l_cell a_cell w plus_zero (omega arith), set-set (set e a_cell plus_zero) l_cell w plus_zero) refl

other_q : (e : List Number) (w : Number) → other_cells (set e q_cell w) ≡ other_cells e
unfolding other_cells
other_q e w =
    rw (
      set_comm e q_cell a_cell w plus_zero (omega arith),
      set_comm (set e a_cell plus_zero) q_cell l_cell w plus_zero (omega arith),
      set-set (set (set e a_cell plus_zero) l_cell plus_zero) q_cell w plus_zero,
    ) refl

other_z : (e : List Number) (w : Number) → other_cells (set e z_cell w) ≡ other_cells e
unfolding other_cells
other_z e w =
    rw (
      set_comm e z_cell a_cell w plus_zero (omega arith),
      set_comm (set e a_cell plus_zero) z_cell l_cell w plus_zero (omega arith),
      set_comm (set (set e a_cell plus_zero) l_cell plus_zero) z_cell q_cell w plus_zero (omega arith),
      set-set (set (set (set e a_cell plus_zero) l_cell plus_zero) q_cell plus_zero) z_cell w plus_zero,
    ) refl

-- a memory has the other cells, the rope and the superbank that it had
record Near (m n : Memory) : Type 0 where
  cells : other_cells n.erasable ≡ other_cells m.erasable
  fixed : n.fixed ≡ m.fixed
  superbank : n.superbank ≡ m.superbank

start : {m : Memory} → Near m m
start = record { cells = refl; fixed = refl; superbank = refl }

a_near : {m n : Memory} (w : Number) → Near m n → Near m (put_of n a_cell w)
unfolding put_of cells_with
a_near {m} {n} w h = record { cells = other_a n.erasable _ ∙ h.cells; fixed = h.fixed; superbank = h.superbank }

l_near : {m n : Memory} (w : Number) → Near m n → Near m (put_of n l_cell w)
unfolding put_of cells_with
l_near {m} {n} w h = record { cells = other_l n.erasable _ ∙ h.cells; fixed = h.fixed; superbank = h.superbank }

q_near : {m n : Memory} (w : Number) → Near m n → Near m (put_of n q_cell w)
unfolding put_of cells_with
q_near {m} {n} w h = record { cells = other_q n.erasable _ ∙ h.cells; fixed = h.fixed; superbank = h.superbank }

z_near : {m n : Memory} (w : Number) → Near m n → Near m (put_of n z_cell w)
unfolding put_of cells_with
z_near {m} {n} w h = record { cells = other_z n.erasable _ ∙ h.cells; fixed = h.fixed; superbank = h.superbank }

-- a cell that is no editing register is not edited again
unedited : (b : Bool) (m n o : Memory) → not b ≡ true → Near m o → Near m (if b then n else o)
unedited true m n o h near = no_rest h
unedited false m n o h near = near

again_near : (k : ℕ) (p : Processor) → not (edits k p) ≡ true → Near p.store (reedit_of p.store k)
unfolding reedit_of
again_near k p h = unedited (edits k p) p.store _ p.store h start

-- a processor has the rest that it had: the other cells, the channels, requests and timers
record Beside (p q : Processor) : Type 0 where
  is : rest_of q ≡ rest_of p

near : {p q : Processor} → Near p.store q.store → q.channels ≡ p.channels → q.requests ≡ p.requests → q.timers ≡ p.timers → Beside p q
near {p} {q} n c r t = record { is = cc (n.cells, n.fixed, n.superbank) }

basic_rest : (o : Basic) (p : Processor) → is_still_basic o p ≡ true → Beside p (basic_effect o p).0
unfolding is_still_basic leaves_cells basic_row basic_effect tc_of ccs_of tcf_of ca_of cs_of index_of resume_of ad_of mask_of fetched
basic_rest basic.Tc p h = near (z_near _ (q_near _ start)) refl refl refl
basic_rest basic.Relint p h = near (z_near _ start) refl refl refl
basic_rest basic.Inhint p h = near (z_near _ start) refl refl refl
basic_rest basic.Extend p h = near (z_near _ start) refl refl refl
basic_rest basic.Ccs p h = near (z_near _ (z_near _ (a_near _ (again_near (ten_bits p) p h)))) refl refl refl
basic_rest basic.Tcf p h = near (z_near _ (z_near _ start)) refl refl refl
basic_rest basic.Ca p h = near (z_near _ (a_near _ (again_near (twelve_bits p) p h))) refl refl refl
basic_rest basic.Cs p h = near (z_near _ (a_near _ (again_near (twelve_bits p) p h))) refl refl refl
basic_rest basic.Index p h = near (z_near _ (again_near (ten_bits p) p h)) refl refl refl
basic_rest basic.Resume p h = near (z_near _ start) refl refl refl
basic_rest basic.Ad p h = near (z_near _ (a_near _ (again_near (twelve_bits p) p h))) refl refl refl
basic_rest basic.Mask p h = near (z_near _ (a_near _ start)) refl refl refl
basic_rest basic.Das p h = no_rest h
basic_rest basic.Lxch p h = no_rest h
basic_rest basic.Incr p h = no_rest h
basic_rest basic.Ads p h = no_rest h
basic_rest basic.Dxch p h = no_rest h
basic_rest basic.Ts p h = no_rest h
basic_rest basic.Xch p h = no_rest h

branches_rest : (test : Bool) (p : Processor) → Beside p (branches test p).0
unfolding fetched
branches_rest true p = near (z_near _ (z_near _ start)) refl refl refl
branches_rest false p = near (z_near _ start) refl refl refl

-- the first of two tests
first : (a b : Bool) → (a && b) ≡ true → a ≡ true
first true b h = refl
first false b h = h

extracode_rest : (o : Extracode) (c : ℕ) (p : Processor) → is_still_extracode o p ≡ true → Beside p (extracode_effect o c p).0
unfolding is_still_extracode is_timeless leaves_cells extracode_row extracode_effect read_order rand_order ror_order rxor_order msu_of su_of mp_of index_of fetched
extracode_rest extra.Read c p h = near (z_near _ (a_near _ start)) refl refl refl
extracode_rest extra.Rand c p h = near (z_near _ (a_near _ start)) refl refl refl
extracode_rest extra.Ror c p h = near (z_near _ (a_near _ start)) refl refl refl
extracode_rest extra.Rxor c p h = near (z_near _ (a_near _ start)) refl refl refl
extracode_rest extra.Bzf c p h = branches_rest (is_zero (a_of p)) p
extracode_rest extra.Msu c p h = near (z_near _ (a_near _ (again_near (ten_bits p) p (first _ _ h)))) refl refl refl
extracode_rest extra.Index c p h = near (z_near _ (again_near (twelve_bits p) p (first _ _ h))) refl refl refl
extracode_rest extra.Su c p h = near (z_near _ (a_near _ (again_near (ten_bits p) p (first _ _ h)))) refl refl refl
extracode_rest extra.Bzmf c p h = branches_rest (is_minus_or_plus_zero (a_of p)) p
extracode_rest extra.Mp c p h = near (z_near _ (l_near _ (a_near _ start))) refl refl refl
extracode_rest extra.Write c p h = no_rest h
extracode_rest extra.Wand c p h = no_rest h
extracode_rest extra.Wor c p h = no_rest h
extracode_rest extra.Edrupt c p h = no_rest h
extracode_rest extra.Dv c p h = no_rest h
extracode_rest extra.Qxch c p h = no_rest h
extracode_rest extra.Aug c p h = no_rest h
extracode_rest extra.Dim c p h = no_rest h
extracode_rest extra.Dca c p h = no_rest h
extracode_rest extra.Dcs c p h = no_rest h

-- they show nothing outside
basic_unseen : (o : Basic) (p : Processor) → IsUnseen (basic_effect o p).1
unfolding basic_effect
basic_unseen basic.Tc p = tt
basic_unseen o p = tt

branches_unseen : (test : Bool) (p : Processor) → IsUnseen (branches test p).1
branches_unseen true p = tt
branches_unseen false p = tt

extracode_unseen : (o : Extracode) (c : ℕ) (p : Processor) → is_still_extracode o p ≡ true → IsUnseen (extracode_effect o c p).1
unfolding is_still_extracode is_timeless leaves_cells extracode_row extracode_effect
extracode_unseen extra.Write c p h = no_rest h
extracode_unseen extra.Wand c p h = no_rest h
extracode_unseen extra.Wor c p h = no_rest h
extracode_unseen extra.Edrupt c p h = no_rest h
extracode_unseen extra.Dv c p h = no_rest h
extracode_unseen extra.Bzf c p h = branches_unseen (is_zero (a_of p)) p
extracode_unseen extra.Bzmf c p h = branches_unseen (is_minus_or_plus_zero (a_of p)) p
extracode_unseen o c p h = tt

-- a channel that does not show the scaler shows the same at every cycle
same_word : (l q high low : Bool) (v w x y x' y' z : Number) → not (high || low) ≡ true
    → (if l then v else if q then w else if high then x else if low then y else z)
    ≡ (if l then v else if q then w else if high then x' else if low then y' else z)
same_word true q high low v w x y x' y' z h = refl
same_word false true high low v w x y x' y' z h = refl
same_word false false true low v w x y x' y' z h = no_rest h
same_word false false false true v w x y x' y' z h = no_rest h
same_word false false false false v w x y x' y' z h = refl

always_shows : (c d h : ℕ) (p : Processor) → not (shows_cycle h) ≡ true → channel_word c h p ≡ channel_word d h p
unfolding channel_word
always_shows c d h p timeless =
    same_word (h == l_channel) (h == q_channel) (h == hiscalar) (h == loscalar) (l_of p) (q_of p)
    (narrow_number (scaler c / 0o40000 % 0o40000)) (narrow_number (scaler c % 0o40000))
    (narrow_number (scaler d / 0o40000 % 0o40000)) (narrow_number (scaler d % 0o40000)) (channel_cell h p) timeless

extracode_always : (o : Extracode) (c d : ℕ) (p : Processor) → is_still_extracode o p ≡ true → extracode_effect o c p ≡ extracode_effect o d p
unfolding is_still_extracode is_timeless leaves_cells extracode_row extracode_effect read_order rand_order ror_order rxor_order
extracode_always extra.Read c d p h = rw (always_shows c d (channel_number p) p h) refl
extracode_always extra.Rand c d p h = rw (always_shows c d (channel_number p) p h) refl
extracode_always extra.Ror c d p h = rw (always_shows c d (channel_number p) p h) refl
extracode_always extra.Rxor c d p h = rw (always_shows c d (channel_number p) p h) refl
extracode_always extra.Write c d p h = no_rest h
extracode_always extra.Wand c d p h = no_rest h
extracode_always extra.Wor c d p h = no_rest h
extracode_always o c d p h = refl

-- the order in hand by its state
rest_by : (extracode : Bool) (o : Basic) (x : Extracode) (c : ℕ) (p : Processor)
    → (if extracode then is_still_extracode x p else is_still_basic o p) ≡ true
    → rest_of (if extracode then extracode_effect x c p else basic_effect o p).0 ≡ rest_of p
rest_by true o x c p h = (extracode_rest x c p h).is
rest_by false o x c p h = (basic_rest o p h).is

unseen_by : (extracode : Bool) (o : Basic) (x : Extracode) (c : ℕ) (p : Processor)
    → (if extracode then is_still_extracode x p else is_still_basic o p) ≡ true
    → IsUnseen (if extracode then extracode_effect x c p else basic_effect o p).1
unseen_by true o x c p h = extracode_unseen x c p h
unseen_by false o x c p h = basic_unseen o p

always_by : (extracode : Bool) (o : Basic) (x : Extracode) (c d : ℕ) (p : Processor)
    → (if extracode then is_still_extracode x p else is_still_basic o p) ≡ true
    → (if extracode then extracode_effect x c p else basic_effect o p) ≡ (if extracode then extracode_effect x d p else basic_effect o p)
always_by true o x c d p h = extracode_always x c d p h
always_by false o x c d p h = refl

pub still_keeps : (p : Processor) → is_still p ≡ true → KeepsStill p
unfolding is_still order_effect
still_keeps p h =
    record {
      always = λ c d. always_by p.extracode _ _ c d p h;
      unseen = λ c. unseen_by p.extracode _ _ c p h;
      rest = λ c. rest_by p.extracode _ _ c p h;
    }

-- a register that was cleared is put back
put_back : (e f : List Number) (i : ℕ) (v : Number) → cell_at i f ≡ v → cell_at i e ≡ cell_at i f → set (set e i plus_zero) i v ≡ e
unfolding cell_at
put_back e f i v g h =
    set-set e i plus_zero v ∙ ap (λ (w : Number). set e i w) (sym g ∙ sym h) ∙ set-get_or e i nothing

all_back : (e : List Number) → set (set (set (set (other_cells e) z_cell (cell_at z_cell e)) q_cell (cell_at q_cell e)) l_cell (cell_at l_cell e)) a_cell (cell_at a_cell e) ≡ e
unfolding other_cells cell_at
all_back e =
    let one = set e a_cell plus_zero in
    let two = set one l_cell plus_zero in
    let three = set two q_cell plus_zero in
    rw (
      put_back three e z_cell (cell_at z_cell e) refl (get_or-set_other two q_cell z_cell plus_zero nothing (omega arith) ∙ get_or-set_other one l_cell z_cell plus_zero nothing (omega arith) ∙ get_or-set_other e a_cell z_cell plus_zero nothing (omega arith)),
      put_back two e q_cell (cell_at q_cell e) refl (get_or-set_other one l_cell q_cell plus_zero nothing (omega arith) ∙ get_or-set_other e a_cell q_cell plus_zero nothing (omega arith)),
      put_back one e l_cell (cell_at l_cell e) refl (get_or-set_other e a_cell l_cell plus_zero nothing (omega arith)),
      put_back e e a_cell (cell_at a_cell e) refl refl,
    ) refl

-- the processor with a context and the rest of another
abbrev with_context : Context → Processor → Processor
with_context x p =
    record p {
      store = record p.store { erasable = set (set (set (set p.store.erasable z_cell x.z) q_cell x.q) l_cell x.l) a_cell x.a };
      hand = x.hand;
      extracode = x.extracode;
      uninterruptible = x.uninterruptible;
      inhibited = x.inhibited;
      serving = x.serving;
    }

its_own : (p : Processor) → with_context (context_of p) (rest_of p) ≡ p
unfolding register
its_own p = ap (λ (e : List Number). record p { store = record p.store { erasable = e } }) (all_back p.store.erasable)

pub same_processor : (p q : Processor) → context_of p ≡ context_of q → rest_of p ≡ rest_of q → p ≡ q
same_processor p q c r =
    sym (its_own p) ∙ ap (λ (x : Context). with_context x (rest_of p)) c ∙ ap (with_context (context_of q)) r ∙ its_own q
