-- If the total of orders has room for one more, each place and each opcode has.
use Rattle.std.proofs.Common.{◌≡◌, ℕ, ◌+◌, ◌-◌, ◌<◌, ◌≤◌, ◌^◌, List, length, Option, Some, None, Bool, true, false, refl, ap, sym, ◌∙◌, subst, arith}
use Rattle.std.specs.Prelude.{if◌then◌else◌}
use Rattle.std.specs.List.{sum_by}
use Rattle.std.proofs.lemmas.List.Sums.{sum_by-set}
use Rattle.agc_machine.specs.Boundary.{boundary}
use Rattle.agc_machine.specs.Run.{boundaries_left}
use Rattle.agc_machine.specs.State.{State}
use Rattle.agc_machine.specs.declared.answer.Stop.{Stop}
use Rattle.agc_machine.specs.declared.upcoming.Upcoming.{Upcoming}
use Rattle.agc_machine.specs.declared.upcoming.Upcoming.TheVariants as upcoming
use Rattle.agc_machine.proofs.Chain.{boundary_falls}
use Rattle.agc_processor.specs.declared.interrupt.Rupt.{Rupt}
use Rattle.agc_listing.specs.Location.{location_at}
use Rattle.agc_listing.specs.declared.location.Location.{Location}
use Rattle.agc_listing.specs.declared.location.Location.TheVariants as location
use Rattle.agc_trace.specs.Trace.{entries_left, entries_unless}
use Rattle.agc_trace.proofs.Forward.{never_earlier}
use Rattle.agc_trace.proofs.Steps.{some_entry}
use Rattle.agc_profile.specs.Profile.{counted_as, counted_at, counted_happening, counted_in, counted_inhibited, counted_one, counted_read, counted_serving, nothing_counted}
use Rattle.agc_profile.specs.Opcode.{named_of}
use Rattle.agc_profile.specs.Step.{RunsAs, is_in, passage_of, service_of}
use Rattle.agc_profile.specs.Sums.{Fits, Halves}
use Rattle.agc_profile.specs.Tally.{cycles_in, nothing, once, plus, tally_at, times_in}
use Rattle.agc_profile.specs.declared.profile.Profile.{Profile}
use Rattle.agc_profile.specs.declared.context.Context.{Context}
use Rattle.agc_profile.specs.declared.opcode.Opcode.{Opcode}
use Rattle.agc_profile.specs.declared.opcode.Opcode.TheVariants as named
use Rattle.agc_profile.specs.declared.step.Step.{Step}
use Rattle.agc_trace.specs.declared.span.Span.{Span}
use Rattle.agc_profile.specs.declared.tally.Tally.{Tally}

-- if a whole has room, the two tables that make it up have
pub fits : (size rest : ℕ) (xs ys : List Tally) (all more : Tally) → Halves size rest xs ys all → all.times + more.times < 2 ^ 64 → all.cycles + more.cycles < 2 ^ 64 →
    Fits size rest xs ys more
fits size rest xs ys all more h l k =
    record {
      length_is = h.length_is;
      others_length = h.others_length;
      times = omega (arith, h.up.times, l);
      cycles = omega (arith, h.up.cycles, k);
    }

part : (f : Tally → ℕ) (place : ℕ) (xs : List Tally) → f nothing ≡ 0 → place < length xs → f (tally_at place xs) ≤ sum_by f xs
unfolding tally_at
part f place xs e l = omega (arith, sum_by-set f xs place nothing nothing l, e)

times_part : (place : ℕ) (xs : List Tally) → place < length xs → (tally_at place xs).times ≤ times_in xs
times_part place xs l = part (λ (x : Tally). x.times) place xs refl l

cycles_part : (place : ℕ) (xs : List Tally) → place < length xs → (tally_at place xs).cycles ≤ cycles_in xs
cycles_part place xs l = part (λ (x : Tally). x.cycles) place xs refl l

-- a tally that may be added at a place
pub record HasRoom (place : ℕ) (table : List Tally) (more : Tally) : Type 0 where
  pub there : place < length table
  pub times : (tally_at place table).times + more.times < 2 ^ 64
  pub cycles : (tally_at place table).cycles + more.cycles < 2 ^ 64

pub left_room : (size rest place : ℕ) (xs ys : List Tally) (more : Tally) → Fits size rest xs ys more → place < size → HasRoom place xs more
left_room size rest place xs ys more h l =
    record {
      there = omega (arith, h.length_is, l);
      times = omega (arith, h.times, times_part place xs (omega (arith, h.length_is, l)));
      cycles = omega (arith, h.cycles, cycles_part place xs (omega (arith, h.length_is, l)));
    }

pub right_room : (size rest place : ℕ) (xs ys : List Tally) (more : Tally) → Fits size rest xs ys more → place < rest → HasRoom place ys more
right_room size rest place xs ys more h l =
    record {
      there = omega (arith, h.others_length, l);
      times = omega (arith, h.times, times_part place ys (omega (arith, h.others_length, l)));
      cycles = omega (arith, h.cycles, cycles_part place ys (omega (arith, h.others_length, l)));
    }

-- what an order adds does not depend on the sequence of the additions
in_turn : (l : Location) (name : Opcode) (one : Tally) (c : Profile) →
    counted_at l one (counted_as name one (record c { orders = plus c.orders one }))
    ≡ counted_as name one (record (counted_at l one c) { orders = plus (counted_at l one c).orders one })
in_turn (location.Fixed place) (named.Basic order) one c = refl
in_turn (location.Fixed place) (named.Extracode order) one c = refl
in_turn (location.Erasable cell) (named.Basic order) one c = refl
in_turn (location.Erasable cell) (named.Extracode order) one c = refl

run_is : (u : Upcoming) (l : Location) (name : Opcode) (one : Tally) (c : Profile) → RunsAs l name u →
    counted_as name one (record (counted_at l one c) { orders = plus (counted_at l one c).orders one }) ≡ counted_happening u one c
run_is (upcoming.Order order) l name one c h =
    ap (λ (k : Location). counted_as name one (record (counted_at k one c) { orders = plus (counted_at k one c).orders one })) h.0
    ∙ ap (λ (n : Opcode). counted_as n one (record (counted_at (location_at order.bank order.address) one c) { orders = plus (counted_at (location_at order.bank order.address) one c).orders one })) h.1
run_is (upcoming.Stop why) l name one c h = absurd h
run_is (upcoming.Event what) l name one c h = absurd h
run_is (upcoming.Timer t) l name one c h = absurd h
run_is (upcoming.Interrupt r) l name one c h = absurd h

pub runs_as : (u : Upcoming) (l : Location) (name : Opcode) (one : Tally) (c all called more : Profile) → RunsAs l name u →
    all ≡ record c { orders = plus c.orders one } → called ≡ counted_as name one all → more ≡ counted_at l one called → more ≡ counted_happening u one c
runs_as u l name one c all called more h e f g =
    g ∙ ap (λ (d : Profile). counted_at l one d) f ∙ ap (λ (d : Profile). counted_at l one (counted_as name one d)) e
    ∙ in_turn l name one c ∙ run_is u l name one c h

-- places and opcodes leave the total of orders unchanged
at_orders : (l : Location) (one : Tally) (c : Profile) → (counted_at l one c).orders ≡ c.orders
at_orders (location.Fixed place) one c = refl
at_orders (location.Erasable cell) one c = refl

as_orders : (name : Opcode) (one : Tally) (c : Profile) → (counted_as name one c).orders ≡ c.orders
as_orders (named.Basic order) one c = refl
as_orders (named.Extracode order) one c = refl

-- a boundary adds at most one order, and its cycles
pub record OneMore (c more : Profile) (cycles : ℕ) : Type 0 where
  pub times : more.orders.times ≤ c.orders.times + 1
  pub cycles_are : more.orders.cycles ≤ c.orders.cycles + cycles

none_more : (c : Profile) (cycles : ℕ) → OneMore c c cycles
none_more c cycles = record { times = omega arith; cycles_are = omega arith }

by_orders : (c d more : Profile) (cycles : ℕ) → more.orders ≡ d.orders → OneMore c d cycles → OneMore c more cycles
by_orders c d more cycles e h =
    record {
      times = omega (arith, ap (λ (t : Tally). t.times) e, h.times);
      cycles_are = omega (arith, ap (λ (t : Tally). t.cycles) e, h.cycles_are);
    }

happening_more : (u : Upcoming) (cycles : ℕ) (c : Profile) → OneMore c (counted_happening u (once cycles) c) cycles
happening_more (upcoming.Order order) cycles c =
    let one = once cycles in
    let placed = counted_at (location_at order.bank order.address) one c in
    let named = as_orders (named_of order) one (record placed { orders = plus placed.orders one }) in
    let here = at_orders (location_at order.bank order.address) one c in
    record {
      times = omega (arith, ap (λ (t : Tally). t.times) named, ap (λ (t : Tally). t.times) here);
      cycles_are = omega (arith, ap (λ (t : Tally). t.cycles) named, ap (λ (t : Tally). t.cycles) here);
    }
happening_more (upcoming.Stop why) cycles c = none_more c cycles
happening_more (upcoming.Event what) cycles c = by_orders c c (counted_happening (upcoming.Event what) (once cycles) c) cycles refl (none_more c cycles)
happening_more (upcoming.Timer t) cycles c = by_orders c c (counted_happening (upcoming.Timer t) (once cycles) c) cycles refl (none_more c cycles)
happening_more (upcoming.Interrupt r) cycles c = by_orders c c (counted_happening (upcoming.Interrupt r) (once cycles) c) cycles refl (none_more c cycles)

serving_orders : (o : Option Rupt) (p : Step) (c : Profile) → (counted_serving o p c).orders ≡ c.orders
serving_orders (Some r) p c = refl
serving_orders None p c = refl

inhibited_orders : (b : Bool) (one : Tally) (c : Profile) → (counted_inhibited b one c).orders ≡ c.orders
inhibited_orders true one c = refl
inhibited_orders false one c = refl

read_orders : (o : Option Location) (one : Tally) (c : Profile) → (counted_read o one c).orders ≡ c.orders
read_orders (Some (location.Fixed place)) one c = refl
read_orders (Some (location.Erasable cell)) one c = refl
read_orders None one c = refl

one_orders : (p : Step) (c : Profile) → (counted_one p c).orders ≡ (counted_happening p.happening (once p.cycles) c).orders
unfolding counted_one
one_orders p c =
    let happened = counted_happening p.happening (once p.cycles) c in
    let served = counted_serving (service_of p) p happened in
    let inhibited = counted_inhibited p.mode.inhibited (once p.cycles) served in
    read_orders p.reads.before (once p.cycles) (counted_read p.reads.at (once p.cycles) inhibited) ∙ read_orders p.reads.at (once p.cycles) inhibited
    ∙ inhibited_orders p.mode.inhibited (once p.cycles) served ∙ serving_orders (service_of p) p happened

one_more : (p : Step) (c : Profile) → OneMore c (counted_one p c) p.cycles
one_more p c = by_orders c (counted_happening p.happening (once p.cycles) c) (counted_one p c) p.cycles (one_orders p c) (happening_more p.happening p.cycles c)

in_more : (b : Bool) (p : Step) (c : Profile) → OneMore c (if b then counted_one p c else c) p.cycles
in_more true p c = one_more p c
in_more false p c = none_more c p.cycles

reported_more : (span : Span) (p : Step) (c more : Profile) → more ≡ counted_in span p c → OneMore c more p.cycles
reported_more span p c more e = subst (λ (d : Profile). OneMore c d p.cycles) (sym e) (in_more (is_in span p) p c)

-- at the start nothing is counted
pub none_taken : (c : Profile) → c ≡ nothing_counted → c.orders ≡ nothing
unfolding nothing_counted
none_taken c e = ap (λ (d : Profile). d.orders) e

takes : (mode : Context) (s : State) → (passage_of mode s).cycles ≡ (boundary None s).0.cycle - s.cycle
unfolding passage_of
takes mode s = refl

-- no boundary goes back in time
pub goes_on : (s t : State) → t ≡ (boundary None s).0 → s.cycle ≤ t.cycle
goes_on s t e = subst (λ (u : State). s.cycle ≤ u.cycle) (sym e) (never_earlier s (boundary None s) (boundary_falls s))

-- a boundary adds no more cycles than have passed
pub no_more : (span : Span) (mode : Context) (s t : State) (c more : Profile) → t ≡ (boundary None s).0 → more ≡ counted_in span (passage_of mode s) c →
    c.orders.cycles ≤ s.cycle → more.orders.cycles ≤ t.cycle
no_more span mode s t c more e f l =
    omega (arith, l, (reported_more span (passage_of mode s) c more f).cycles_are, takes mode s, ap (λ (u : State). u.cycle) e, never_earlier s (boundary None s) (boundary_falls s))

-- and there is room for as many orders as that, plus the boundaries that are left
pub room_left : (span : Span) (mode : Context) (s t : State) (c more : Profile) → entries_left t < entries_left s → more ≡ counted_in span (passage_of mode s) c →
    c.orders.times + entries_left s < 2 ^ 64 → more.orders.times + entries_left t < 2 ^ 64
room_left span mode s t c more e f l = omega (arith, l, e, (reported_more span (passage_of mode s) c more f).times)

pub room_for_one : (s : State) (c : Profile) → c.orders.times + entries_left s < 2 ^ 64 → c.orders.times + 1 < 2 ^ 64
room_for_one s c l = omega (arith, l, some_entry s)

-- the number of boundaries left in a run fits
few_unless : (o : Option Stop) (s : State) → s.limit ≤ 1000000000000 → length s.events + 1000000000002 < 2 ^ 64 → entries_unless o s < 2 ^ 64
unfolding boundaries_left
few_unless (Some why) s l k = omega arith
few_unless None s l k = omega (arith, l, k)

pub few_left : (s : State) → s.limit ≤ 1000000000000 → length s.events + 1000000000002 < 2 ^ 64 → entries_left s < 2 ^ 64
unfolding entries_left
few_left s l k = few_unless s.stopped s l k
