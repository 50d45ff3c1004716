-- An order does not come next if Z is not one past an address of its place.
use Rattle.std.specs.Prelude.{◌≡◌, ◌⊎◌, ℕ, ◌+◌, ◌*◌, ◌%◌, ◌≤◌, nat_eq, nat_lt, Bool, true, false, Option, None, Some, if◌then◌else◌}
use Rattle.std.proofs.Common.{refl, ap, sym, subst, ◌∙◌, arith, inl, inr}
use Rattle.std.proofs.lemmas.Bool.{eqb-true, ltb-false, ltb-true}
use Rattle.std.proofs.lemmas.Bool.Decides.{nat_tests}
use Rattle.agc_listing.specs.Location.{location_at}
use Rattle.agc_listing.specs.declared.location.Location.{Location}
use Rattle.agc_listing.specs.declared.location.Location.TheVariants as location
use Rattle.agc_processor.specs.Processor.{z_at}
use Rattle.agc_machine.specs.Boundary.{Applies, in_hand, upcoming_of}
use Rattle.agc_machine.specs.State.{State}
use Rattle.agc_machine.specs.declared.answer.Stop.{Stop}
use Rattle.agc_machine.specs.declared.upcoming.InHand.{InHand}
use Rattle.agc_machine.specs.declared.upcoming.Upcoming.{Upcoming}
use Rattle.agc_machine.specs.declared.upcoming.Upcoming.TheVariants as upcoming
use Rattle.agc_machine.proofs.Cases.{upcoming_applies, upcoming_comes}
use Rattle.agc_session.specs.Condition.{is_order_at, place_number, same_location, window_address}

-- the order that comes is the one in hand
order_by : (stopped : Option Stop) (s : State) (order : InHand) → s.stopped ≡ stopped → upcoming_of s ≡ upcoming.Order order → order ≡ in_hand s.processor
order_by None s order e f = (subst (λ (u : Upcoming). Applies u s) f (upcoming_applies s e)).3
order_by (Some why) s order e f = let both : upcoming.Order order ≡ upcoming.Stop why = sym f ∙ (upcoming_comes s).stays why e in cc

address_of : (s : State) (order : InHand) → order ≡ in_hand s.processor → order.address ≡ (z_at s.processor + 0o7777) % 0o10000
unfolding in_hand
address_of s order e = ap (λ (o : InHand). o.address) e

-- an address of a place: its own, or the one in the window of its bank
abbrev pub IsAddressOf : Location → ℕ → Type 0
IsAddressOf place address = (address ≡ place_number place) ⊎ (address ≡ window_address place)

fixed_address : (c : Bool) (bank address : ℕ) → nat_lt address 0o4000 ≡ c → 0o2000 ≤ address
    → IsAddressOf (if c then location.Fixed (0o2000 * bank + address % 0o2000) else location.Fixed address) address
fixed_address true bank address e l = inr (omega (arith, l, ltb-true address 0o4000 e))
fixed_address false bank address e l = inl refl

windowed : (c : Bool) (bank address : ℕ) → nat_lt address 0o2000 ≡ c → 0o1400 ≤ address
    → IsAddressOf (if c then location.Erasable (0o400 * bank + address % 0o400)
    else if nat_lt address 0o4000 then location.Fixed (0o2000 * bank + address % 0o2000)
    else location.Fixed address) address
windowed true bank address e l = inr (omega (arith, l, ltb-true address 0o2000 e))
windowed false bank address e l = fixed_address (nat_lt address 0o4000) bank address refl (ltb-false address 0o2000 e)

any_address : (c : Bool) (bank address : ℕ) → nat_lt address 0o1400 ≡ c
    → IsAddressOf (if c then location.Erasable address
    else if nat_lt address 0o2000 then location.Erasable (0o400 * bank + address % 0o400)
    else if nat_lt address 0o4000 then location.Fixed (0o2000 * bank + address % 0o2000)
    else location.Fixed address) address
any_address true bank address e = inl refl
any_address false bank address e = windowed (nat_lt address 0o2000) bank address refl (ltb-false address 0o1400 e)

two_addresses : (bank address : ℕ) → IsAddressOf (location_at bank address) address
unfolding location_at
two_addresses bank address = any_address (nat_lt address 0o1400) bank address refl

same_place : (here there : Location) → same_location here there ≡ true → here ≡ there
same_place (location.Fixed here) (location.Fixed there) h = ap (λ (n : ℕ). location.Fixed n) (eqb-true here there h)
same_place (location.Erasable here) (location.Erasable there) h = ap (λ (n : ℕ). location.Erasable n) (eqb-true here there h)
same_place (location.Fixed here) (location.Erasable there) h = cc
same_place (location.Erasable here) (location.Fixed there) h = cc

by_upcoming : (u : Upcoming) (s : State) (place : Location) → upcoming_of s ≡ u → is_order_at place u ≡ true
    → IsAddressOf place ((z_at s.processor + 0o7777) % 0o10000)
by_upcoming (upcoming.Order order) s place e h =
    subst (λ (a : ℕ). IsAddressOf place a) (address_of s order (order_by s.stopped s order refl e))
    (subst (λ (l : Location). IsAddressOf l order.address) (same_place (location_at order.bank order.address) place h)
    (two_addresses order.bank order.address))
by_upcoming (upcoming.Stop why) s place e h = cc
by_upcoming (upcoming.Event what) s place e h = cc
by_upcoming (upcoming.Timer t) s place e h = cc
by_upcoming (upcoming.Interrupt r) s place e h = cc

pub address_of_order : (s : State) (place : Location) → is_order_at place (upcoming_of s) ≡ true
    → IsAddressOf place ((z_at s.processor + 0o7777) % 0o10000)
address_of_order s place h = by_upcoming (upcoming_of s) s place refl h

-- Z is one past the second address of the place if it is not one past the first
pub other_address : (z found own window : ℕ) (s : State) (place : Location) → found ≡ (z + 0o7777) % 0o10000 → z ≡ z_at s.processor
    → own ≡ place_number place → window ≡ window_address place → (found ≡ own → ⊥) → is_order_at place (upcoming_of s) ≡ true
    → nat_eq found window ≡ true
other_address z found own window s place f e o w not_own h =
    let here : found ≡ (z_at s.processor + 0o7777) % 0o10000 = omega (arith, f, e) in
    elim (address_of_order s place h) as (λ _. nat_eq found window ≡ true) [
      | inl k ↦ absurd (not_own (here ∙ k ∙ sym o))
      | inr k ↦ let same : found ≡ window = here ∙ k ∙ sym w in grind (arith, nat_tests)
    ]
