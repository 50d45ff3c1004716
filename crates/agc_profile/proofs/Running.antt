-- The order in hand: its place, its opcode, and what it reads.
use Rattle.std.proofs.Common.{◌≡◌, ◌⊎◌, inl, inr, ℕ, ◌+◌, ◌-◌, ◌*◌, ◌%◌, ◌<◌, Option, Some, None, Bool, true, false, refl, ap, sym, ◌∙◌, subst, arith}
use Rattle.std.specs.Prelude.{nat_lt}
use Rattle.std.proofs.lemmas.Bool.Decides.{nat_tests}
use Rattle.agc_word.specs.Number.{pattern_of}
use Rattle.agc_store.specs.Memory.{Memory, erasable_bank, erasable_place, fixed_place, selected_bank}
use Rattle.agc_store.specs.Registers.{z_of}
use Rattle.agc_order.specs.declared.row.Takes.{Takes}
use Rattle.agc_order.specs.declared.row.Takes.TheVariants as takes
use Rattle.agc_processor.specs.declared.processor.Processor.{Processor}
use Rattle.agc_machine.specs.Boundary.{Applies, bank_of_address, in_hand, upcoming_of}
use Rattle.agc_machine.specs.State.{State}
use Rattle.agc_machine.specs.declared.answer.Stop.{Stop}
use Rattle.agc_machine.specs.declared.upcoming.InHand.{InHand}
use Rattle.agc_machine.specs.declared.upcoming.Upcoming.{Upcoming}
use Rattle.agc_machine.specs.declared.upcoming.Upcoming.TheVariants as upcoming
use Rattle.agc_machine.proofs.Cases.{upcoming_applies, upcoming_comes}
use Rattle.agc_listing.specs.Location.{location_at, location_in}
use Rattle.agc_listing.specs.declared.location.Location.{Location}
use Rattle.agc_listing.specs.declared.location.Location.TheVariants as location
use Rattle.agc_profile.specs.DataReads.{data_of, data_read, order_reads}
use Rattle.agc_profile.specs.Opcode.{named_of}
use Rattle.agc_profile.specs.Step.{RunsAs, is_order}
use Rattle.agc_profile.specs.declared.opcode.Opcode.{Opcode}

-- the place that an address has in memory is that of its bank and address
high : (c : Bool) (a : ℕ) (p : Processor) → nat_lt a 0o2000 ≡ false → nat_lt a 0o4000 ≡ c → location_in p.store a ≡ location_at (bank_of_address a p) a
unfolding location_in location_at fixed_place
high true a p f g =
    let e : nat_lt a 0o1400 ≡ false = grind (arith, nat_tests) in
    let below : a < 0o4000 = grind (arith, nat_tests) in
    let from : 0o2000 < a + 1 = grind (arith, nat_tests) in
    let near : a - 0o2000 ≡ a % 0o2000 = omega (arith, below, from) in
    rw (e, f, g) (ap (λ (n : ℕ). location.Fixed (0o2000 * selected_bank p.store + n)) near)
high false a p f g =
    let e : nat_lt a 0o1400 ≡ false = grind (arith, nat_tests) in
    rw (e, f, g) refl

low : (c : Bool) (a : ℕ) (p : Processor) → nat_lt a 0o2000 ≡ true → nat_lt a 0o1400 ≡ c → location_in p.store a ≡ location_at (bank_of_address a p) a
unfolding location_in location_at erasable_place
low true a p f g = rw (f, g) refl
low false a p f g =
    let below : a < 0o2000 = grind (arith, nat_tests) in
    let from : 0o1400 < a + 1 = grind (arith, nat_tests) in
    let near : a - 0o1400 ≡ a % 0o400 = omega (arith, below, from) in
    rw (f, g) (ap (λ (n : ℕ). location.Erasable (0o400 * erasable_bank p.store.erasable + n)) near)

either : (c : Bool) (a : ℕ) (p : Processor) → nat_lt a 0o2000 ≡ c → location_in p.store a ≡ location_at (bank_of_address a p) a
either true a p f = low (nat_lt a 0o1400) a p f refl
either false a p f = high (nat_lt a 0o4000) a p f refl

pub same_place : (a : ℕ) (p : Processor) → location_in p.store a ≡ location_at (bank_of_address a p) a
same_place a p = either (nat_lt a 0o2000) a p refl

-- an order comes if the machine has not stopped, and it is the one in hand
order_by : (o : Option Stop) (s : State) (order : InHand) → s.stopped ≡ o → upcoming_of s ≡ upcoming.Order order → order ≡ in_hand s.processor
order_by (Some why) s order e f = let stop = (upcoming_comes s).stays why e in cc
order_by None s order e f =
    let all = subst (λ (u : Upcoming). Applies u s) f (upcoming_applies s e) in all.3

place_in : (order : InHand) (p : Processor) → order ≡ in_hand p → location_in p.store ((z_of p.store + 0o7777) % 0o10000) ≡ location_at order.bank order.address
unfolding in_hand
place_in order p e =
    same_place ((z_of p.store + 0o7777) % 0o10000) p ∙ ap (λ (o : InHand). location_at o.bank o.address) (sym e)

-- the place of the order in hand
place_reported : (s : State) (u : Upcoming) (order : InHand) → u ≡ upcoming_of s → u ≡ upcoming.Order order →
    location_in s.processor.store ((z_of s.processor.store + 0o7777) % 0o10000) ≡ location_at order.bank order.address
place_reported s u order e f = place_in order s.processor (order_by s.stopped s order refl (sym e ∙ f))

pub place_found : (s : State) (u : Upcoming) (order : InHand) (m : Memory) (l : Location) → u ≡ upcoming_of s → u ≡ upcoming.Order order → m ≡ s.processor.store →
    l ≡ location_in m ((z_of m + 0o7777) % 0o10000) → l ≡ location_at order.bank order.address
place_found s u order m l e f g h =
    h ∙ ap (λ (n : Memory). location_in n ((z_of n + 0o7777) % 0o10000)) g ∙ place_reported s u order e f

-- it runs at this place and with this opcode
pub runs_reported : (u : Upcoming) (order : InHand) (l : Location) (name : Opcode) → u ≡ upcoming.Order order → l ≡ location_at order.bank order.address →
    name ≡ named_of order → RunsAs l name u
runs_reported u order l name e f g = subst (λ (v : Upcoming). RunsAs l name v) (sym e) (f, g)

-- the words that it reads
pub reads_reported : (u : Upcoming) (order : InHand) (name : Opcode) (reads : Takes) (m : Memory) → u ≡ upcoming.Order order → name ≡ named_of order →
    reads ≡ order_reads name → data_read reads (pattern_of 15 order.word) m ≡ data_of u m
unfolding data_of
reads_reported u order name reads m e f g =
    ap (λ (t : Takes). data_read t (pattern_of 15 order.word) m) (g ∙ ap order_reads f) ∙ ap (λ (v : Upcoming). data_of v m) (sym e)

-- an order that takes nothing, a fixed address or a channel reads no word
pub nothing_read : (t : Takes) (word : ℕ) (m : Memory) → (t ≡ takes.Nothing) ⊎ ((t ≡ takes.Fixed) ⊎ (t ≡ takes.Channel)) →
    data_read t word m ≡ record { at = None; before = None }
nothing_read t word m (inl e) = ap (λ (u : Takes). data_read u word m) e
nothing_read t word m (inr (inl e)) = ap (λ (u : Takes). data_read u word m) e
nothing_read t word m (inr (inr e)) = ap (λ (u : Takes). data_read u word m) e

-- what is not an order reads none
pub none_reported : (u : Upcoming) (m : Memory) → is_order u ≡ false → record { at = None; before = None } ≡ data_of u m
unfolding data_of
none_reported (upcoming.Order order) m e = cc
none_reported (upcoming.Stop why) m e = refl
none_reported (upcoming.Event what) m e = refl
none_reported (upcoming.Timer t) m e = refl
none_reported (upcoming.Interrupt r) m e = refl
