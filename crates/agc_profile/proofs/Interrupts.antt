-- The tally of an interrupt, and the boundaries that belong to its services.
use Rattle.std.proofs.Common.{◌≡◌, ◌≢◌, ℕ, ◌+◌, ◌-◌, ◌<◌, List, [], ◌∷◌, length, Option, Some, None, Bool, true, false, refl, ap, sym, ◌∙◌, arith}
use Rattle.std.specs.Prelude.{if◌then◌else◌, ◌&&◌, filter}
use Rattle.std.specs.List.{sum_by}
use Rattle.std.proofs.lemmas.Bool.Decides.{nat_tests}
use Rattle.std.proofs.lemmas.List.Sums.{sum_by-cons}
use Rattle.agc_machine.specs.declared.upcoming.Upcoming.{Upcoming}
use Rattle.agc_machine.specs.declared.upcoming.Upcoming.TheVariants as upcoming
use Rattle.agc_processor.specs.Interrupt.{rupt_number}
use Rattle.agc_processor.specs.declared.interrupt.Rupt.{Rupt}
use Rattle.agc_processor.specs.declared.interrupt.Rupt.TheVariants as rupt
use Rattle.agc_listing.specs.Location.{location_at}
use Rattle.agc_listing.specs.declared.location.Location.{Location}
use Rattle.agc_listing.specs.declared.location.Location.TheVariants as location
use Rattle.agc_profile.specs.Profile.{count_of, counted, counted_as, counted_at, counted_data, counted_happening, counted_inhibited, counted_one, counted_read, counted_serving, is_entry, nothing_counted, served}
use Rattle.agc_profile.specs.Laws.{is_rupt, is_served, serves, takes, tally_of}
use Rattle.agc_profile.specs.Opcode.{named_of}
use Rattle.agc_profile.specs.Step.{service_of}
use Rattle.agc_profile.specs.Tally.{added, empty_table, nothing, once, plus, tally_at}
use Rattle.agc_profile.specs.declared.profile.Profile.{Profile}
use Rattle.agc_profile.specs.declared.data.DataReads.{DataReads}
use Rattle.agc_profile.specs.declared.opcode.Opcode.{Opcode}
use Rattle.agc_profile.specs.declared.opcode.Opcode.TheVariants as named
use Rattle.agc_profile.specs.declared.step.Step.{Step}
use Rattle.agc_profile.specs.declared.tally.Tally.{Tally}
use Rattle.agc_profile.proofs.Places.{added_elsewhere, added_here, added_length, empty_length, empty_tally}

at_same : (l : Location) (one : Tally) (c : Profile) → (counted_at l one c).interrupts ≡ c.interrupts
at_same (location.Fixed place) one c = refl
at_same (location.Erasable cell) one c = refl

as_same : (name : Opcode) (one : Tally) (c : Profile) → (counted_as name one c).interrupts ≡ c.interrupts
as_same (named.Basic order) one c = refl
as_same (named.Extracode order) one c = refl

happening_same : (u : Upcoming) (one : Tally) (c : Profile) → (counted_happening u one c).interrupts ≡ c.interrupts
happening_same (upcoming.Order order) one c =
    let placed = counted_at (location_at order.bank order.address) one c in
    as_same (named_of order) one (record placed { orders = plus placed.orders one }) ∙ at_same (location_at order.bank order.address) one c
happening_same (upcoming.Stop why) one c = refl
happening_same (upcoming.Event what) one c = refl
happening_same (upcoming.Timer t) one c = refl
happening_same (upcoming.Interrupt r) one c = refl

inhibited_same : (b : Bool) (one : Tally) (c : Profile) → (counted_inhibited b one c).interrupts ≡ c.interrupts
inhibited_same true one c = refl
inhibited_same false one c = refl

read_same : (o : Option Location) (one : Tally) (c : Profile) → (counted_read o one c).interrupts ≡ c.interrupts
read_same (Some (location.Fixed place)) one c = refl
read_same (Some (location.Erasable cell)) one c = refl
read_same None one c = refl

data_same : (words : DataReads) (one : Tally) (c : Profile) → (counted_data words one c).interrupts ≡ c.interrupts
data_same words one c = read_same words.before one (counted_read words.at one c) ∙ read_same words.at one c

-- the interrupts after a boundary are those after its service
after_service : (p : Step) (c : Profile) →
    (counted_one p c).interrupts ≡ (counted_serving (service_of p) p (counted_happening p.happening (once p.cycles) c)).interrupts
unfolding counted_one
after_service p c =
    let after = counted_serving (service_of p) p (counted_happening p.happening (once p.cycles) c) in
    data_same p.reads (once p.cycles) (counted_inhibited p.mode.inhibited (once p.cycles) after) ∙ inhibited_same p.mode.inhibited (once p.cycles) after

serving_length : (o : Option Rupt) (p : Step) (c : Profile) → length (counted_serving o p c).interrupts ≡ length c.interrupts
serving_length (Some r) p c = added_length (rupt_number r - 1) (served p) c.interrupts
serving_length None p c = refl

one_length : (p : Step) (c : Profile) → length (counted_one p c).interrupts ≡ length c.interrupts
one_length p c =
    let happened = counted_happening p.happening (once p.cycles) c in
    ap (λ (xs : List Tally). length xs) (after_service p c) ∙ serving_length (service_of p) p happened
    ∙ ap (λ (xs : List Tally). length xs) (happening_same p.happening (once p.cycles) c)

first : (r : Rupt) → 1 + (rupt_number r - 1) ≡ rupt_number r
first rupt.T6rupt = refl
first rupt.T5rupt = refl
first rupt.T3rupt = refl
first rupt.T4rupt = refl
first rupt.Keyrupt1 = refl
first rupt.Keyrupt2 = refl
first rupt.Uprupt = refl
first rupt.Downrupt = refl
first rupt.Radarupt = refl
first rupt.Rupt10 = refl

last : (r : Rupt) → rupt_number r - 1 < 10
last rupt.T6rupt = omega arith
last rupt.T5rupt = omega arith
last rupt.T3rupt = omega arith
last rupt.T4rupt = omega arith
last rupt.Keyrupt1 = omega arith
last rupt.Keyrupt2 = omega arith
last rupt.Uprupt = omega arith
last rupt.Downrupt = omega arith
last rupt.Radarupt = omega arith
last rupt.Rupt10 = omega arith

-- what a boundary adds to an interrupt
abbrev pub added_if : Bool → Step → Tally → Tally
added_if true p t = plus t (served p)
added_if false p t = t

rupt_by : (b : Bool) (r other : Rupt) (p : Step) (xs : List Tally) → is_rupt r other ≡ b → rupt_number r - 1 < length xs →
    tally_at (rupt_number r - 1) (added (rupt_number other - 1) (served p) xs) ≡ added_if b p (tally_at (rupt_number r - 1) xs)
rupt_by true r other p xs e l =
    let same : rupt_number r ≡ rupt_number other = grind (arith, nat_tests) in
    added_here (rupt_number r - 1) (rupt_number other - 1) (served p) xs (ap (λ (n : ℕ). n - 1) same) l
rupt_by false r other p xs e l =
    let apart : rupt_number r ≢ rupt_number other = λ same. grind (arith, nat_tests) in
    added_elsewhere (rupt_number r - 1) (rupt_number other - 1) (served p) xs
    (λ same. apart (sym (first r) ∙ ap (λ (n : ℕ). 1 + n) same ∙ first other))

serving_adds : (o : Option Rupt) (r : Rupt) (p : Step) (c : Profile) → rupt_number r - 1 < length c.interrupts →
    tally_at (rupt_number r - 1) (counted_serving o p c).interrupts ≡ added_if (is_served r o) p (tally_at (rupt_number r - 1) c.interrupts)
serving_adds (Some other) r p c l = rupt_by (is_rupt r other) r other p c.interrupts refl l
serving_adds None r p c l = refl

one_adds : (r : Rupt) (p : Step) (c : Profile) → rupt_number r - 1 < length c.interrupts →
    tally_at (rupt_number r - 1) (counted_one p c).interrupts ≡ added_if (serves r p) p (tally_at (rupt_number r - 1) c.interrupts)
one_adds r p c l =
    let happened = counted_happening p.happening (once p.cycles) c in
    let same = happening_same p.happening (once p.cycles) c in
    ap (λ (xs : List Tally). tally_at (rupt_number r - 1) xs) (after_service p c)
    ∙ serving_adds (service_of p) r p happened (omega (arith, l, ap (λ (xs : List Tally). length xs) same))
    ∙ ap (λ (xs : List Tally). added_if (serves r p) p (tally_at (rupt_number r - 1) xs)) same

times_joined : (b e : Bool) (t : Tally) (p : Step) (ps : List Step) → is_entry p.happening ≡ e →
    (added_if b p t).times + length ps ≡ t.times + length (if b && e then p ∷ ps else ps)
times_joined true true t p ps f = rw f (omega arith)
times_joined true false t p ps f = rw f (omega arith)
times_joined false e t p ps f = refl

cycles_joined : (b : Bool) (t : Tally) (p : Step) (ps : List Step) →
    (added_if b p t).cycles + sum_by (λ q. q.cycles) ps ≡ t.cycles + sum_by (λ q. q.cycles) (if b then p ∷ ps else ps)
cycles_joined true t p ps = omega (arith, sum_by-cons (λ (q : Step). q.cycles) p ps)
cycles_joined false t p ps = refl

module _ (r : Rupt) where
  all_taken : (c : Profile) (ps : List Step) → rupt_number r - 1 < length c.interrupts →
      (tally_at (rupt_number r - 1) (counted c ps).interrupts).times ≡ (tally_at (rupt_number r - 1) c.interrupts).times + length (filter (takes r) ps)
  unfolding counted
  all_taken c [] l = omega arith
  all_taken c (p ∷ ps) l =
      all_taken (counted_one p c) ps (omega (arith, one_length p c))
      ∙ ap (λ (t : Tally). t.times + length (filter (takes r) ps)) (one_adds r p c l)
      ∙ times_joined (serves r p) (is_entry p.happening) (tally_at (rupt_number r - 1) c.interrupts) p (filter (takes r) ps) refl

  all_served : (c : Profile) (ps : List Step) → rupt_number r - 1 < length c.interrupts →
      (tally_at (rupt_number r - 1) (counted c ps).interrupts).cycles
      ≡ (tally_at (rupt_number r - 1) c.interrupts).cycles + (tally_of (filter (serves r) ps)).cycles
  unfolding counted
  all_served c [] l = omega arith
  all_served c (p ∷ ps) l =
      all_served (counted_one p c) ps (omega (arith, one_length p c))
      ∙ ap (λ (t : Tally). t.cycles + (tally_of (filter (serves r) ps)).cycles) (one_adds r p c l)
      ∙ cycles_joined (serves r p) (tally_at (rupt_number r - 1) c.interrupts) p (filter (serves r) ps)

no_interrupts : nothing_counted.interrupts ≡ empty_table 10
unfolding nothing_counted
no_interrupts = refl

ten : length nothing_counted.interrupts ≡ 10
ten = ap (λ (xs : List Tally). length xs) no_interrupts ∙ empty_length 10

none_yet : (r : Rupt) → tally_at (rupt_number r - 1) nothing_counted.interrupts ≡ nothing
none_yet r = ap (λ (xs : List Tally). tally_at (rupt_number r - 1) xs) no_interrupts ∙ empty_tally 10 (rupt_number r - 1) (last r)

-- each interrupt is counted as often as it was taken
pub taken_is : (r : Rupt) (ps : List Step) → (tally_at (rupt_number r - 1) (count_of ps).interrupts).times ≡ length (filter (takes r) ps)
taken_is r ps =
    omega (arith, all_taken r nothing_counted ps (omega (arith, ten, last r)), ap (λ (t : Tally). t.times) (none_yet r))

-- and with the cycles of its services
pub served_is : (r : Rupt) (ps : List Step) →
    (tally_at (rupt_number r - 1) (count_of ps).interrupts).cycles ≡ (tally_of (filter (serves r) ps)).cycles
served_is r ps =
    omega (arith, all_served r nothing_counted ps (omega (arith, ten, last r)), ap (λ (t : Tally). t.cycles) (none_yet r))
