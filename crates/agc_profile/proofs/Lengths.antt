-- The cycles of a whole run by kinds, and its length.
use Rattle.std.proofs.Common.{◌≡◌, ℕ, ◌+◌, List, [], ◌∷◌, Option, Some, None, Bool, true, false, refl, ap, sym, ◌∙◌, subst, arith}
use Rattle.agc_machine.specs.Run.{run_of}
use Rattle.agc_machine.specs.State.{State}
use Rattle.agc_machine.specs.declared.upcoming.Upcoming.{Upcoming}
use Rattle.agc_machine.specs.declared.upcoming.Upcoming.TheVariants as upcoming
use Rattle.agc_processor.specs.declared.interrupt.Rupt.{Rupt}
use Rattle.agc_listing.specs.Location.{location_at}
use Rattle.agc_listing.specs.declared.location.Location.{Location}
use Rattle.agc_listing.specs.declared.location.Location.TheVariants as location
use Rattle.agc_trace.specs.Trace.{is_stop}
use Rattle.agc_trace.specs.TraceLaws.{EndsWithStop, NeverGoBack}
use Rattle.agc_trace.specs.declared.entry.Entry.{Entry}
use Rattle.agc_trace.proofs.Forward.{trace_goes_forward}
use Rattle.agc_trace.proofs.Stops.{trace_ends}
use Rattle.agc_profile.specs.Profile.{count_of, counted, counted_as, counted_at, counted_data, counted_happening, counted_inhibited, counted_one, counted_read, counted_serving, nothing_counted}
use Rattle.agc_profile.specs.Laws.{counted_cycles}
use Rattle.agc_profile.specs.Context.{at_start, mode_after}
use Rattle.agc_profile.specs.Opcode.{named_of}
use Rattle.agc_profile.specs.Step.{passage_between, passages, service_of}
use Rattle.agc_profile.specs.Tally.{once, plus}
use Rattle.agc_profile.specs.Readers.{Reported, all_reported, reported_of}
use Rattle.agc_profile.specs.declared.profile.Profile.{Profile}
use Rattle.agc_profile.specs.declared.data.DataReads.{DataReads}
use Rattle.agc_profile.specs.declared.context.Context.{Context}
use Rattle.agc_profile.specs.declared.opcode.Opcode.{Opcode}
use Rattle.agc_profile.specs.declared.opcode.Opcode.TheVariants as named
use Rattle.agc_profile.specs.declared.step.Step.{Step}
use Rattle.agc_profile.specs.declared.tally.Tally.{Tally}
use Rattle.agc_profile.proofs.Left.{begins}
use Rattle.agc_profile.proofs.Reported.{entries_of, reports, reported_by_one, reported_is_trace}

as_length : (name : Opcode) (one : Tally) (c : Profile) → counted_cycles (counted_as name one c) ≡ counted_cycles c
as_length (named.Basic order) one c = refl
as_length (named.Extracode order) one c = refl

at_length : (l : Location) (one : Tally) (c : Profile) → counted_cycles (counted_at l one c) ≡ counted_cycles c
at_length (location.Fixed place) one c = refl
at_length (location.Erasable cell) one c = refl

more_orders : (one : Tally) (c : Profile) → counted_cycles (record c { orders = plus c.orders one }) ≡ counted_cycles c + one.cycles
more_orders one c = omega arith

happening_length : (u : Upcoming) (one : Tally) (c : Profile) → is_stop u ≡ false → counted_cycles (counted_happening u one c) ≡ counted_cycles c + one.cycles
happening_length (upcoming.Order order) one c e =
    let placed = counted_at (location_at order.bank order.address) one c in
    as_length (named_of order) one (record placed { orders = plus placed.orders one })
    ∙ more_orders one placed
    ∙ ap (λ (n : ℕ). n + one.cycles) (at_length (location_at order.bank order.address) one c)
happening_length (upcoming.Timer t) one c e = omega arith
happening_length (upcoming.Event what) one c e = omega arith
happening_length (upcoming.Interrupt r) one c e = omega arith
happening_length (upcoming.Stop why) one c e = cc

serving_length : (o : Option Rupt) (p : Step) (c : Profile) → counted_cycles (counted_serving o p c) ≡ counted_cycles c
serving_length (Some r) p c = refl
serving_length None p c = refl

inhibited_length : (b : Bool) (one : Tally) (c : Profile) → counted_cycles (counted_inhibited b one c) ≡ counted_cycles c
inhibited_length true one c = refl
inhibited_length false one c = refl

read_length : (o : Option Location) (one : Tally) (c : Profile) → counted_cycles (counted_read o one c) ≡ counted_cycles c
read_length (Some (location.Fixed place)) one c = refl
read_length (Some (location.Erasable cell)) one c = refl
read_length None one c = refl

data_length : (words : DataReads) (one : Tally) (c : Profile) → counted_cycles (counted_data words one c) ≡ counted_cycles c
data_length words one c = read_length words.before one (counted_read words.at one c) ∙ read_length words.at one c

one_length : (p : Step) (c : Profile) → is_stop p.happening ≡ false → counted_cycles (counted_one p c) ≡ counted_cycles c + p.cycles
unfolding counted_one
one_length p c e =
    let happened = counted_happening p.happening (once p.cycles) c in
    data_length p.reads (once p.cycles) (counted_inhibited p.mode.inhibited (once p.cycles) (counted_serving (service_of p) p happened))
    ∙ inhibited_length p.mode.inhibited (once p.cycles) (counted_serving (service_of p) p happened)
    ∙ serving_length (service_of p) p happened
    ∙ happening_length p.happening (once p.cycles) c e

-- up to the stop of a trace, the cycles of its entries pass
all_lengths : (last : State) (mode : Context) (c : Profile) (reported : Reported) (later : List Reported) → NeverGoBack reported.entry.cycle (entries_of (reported ∷ later)) →
    EndsWithStop last (entries_of (reported ∷ later)) →
    counted_cycles (counted c (passages mode (reported ∷ later))) + reported.entry.cycle ≡ counted_cycles c + last.cycle
unfolding counted passages
all_lengths last mode c reported [] h k = ap (λ (n : ℕ). counted_cycles c + n) k.cycle
all_lengths last mode c reported (next ∷ later) h k =
    omega (
      arith,
      h.1.0,
      one_length (passage_between mode reported next) c k.0,
      all_lengths last (mode_after reported.entry.happening mode) (counted_one (passage_between mode reported next) c) next later (omega arith, h.1.1) k.1,
    )

none_yet : counted_cycles nothing_counted ≡ 0
unfolding nothing_counted
none_yet = refl

lengths_from : (s : State) (later : List Reported) → all_reported s ≡ reported_of s ∷ later →
    counted_cycles (count_of (passages at_start (all_reported s))) + s.cycle ≡ (run_of s).last.cycle
lengths_from s later e =
    let entries = sym (reported_is_trace s) ∙ ap entries_of e in
    let forward = subst (λ (xs : List Entry). NeverGoBack s.cycle xs) entries (trace_goes_forward s) in
    let ends = subst (λ (xs : List Entry). EndsWithStop (run_of s).last xs) entries (trace_ends s) in
    let all = all_lengths (run_of s).last at_start nothing_counted (reported_of s) later (omega arith, forward.1) ends in
    ap (λ (xs : List Reported). counted_cycles (count_of (passages at_start xs)) + s.cycle) e
    ∙ ap (λ (n : ℕ). counted_cycles (count_of (passages at_start (reported_of s ∷ later))) + n)
    (sym (ap (λ (entry : Entry). entry.cycle) (reports s) ∙ begins s))
    ∙ omega (arith, all, none_yet)

-- the cycles of a whole run by kinds are its length
pub whole_length : (s : State) → counted_cycles (count_of (passages at_start (all_reported s))) + s.cycle ≡ (run_of s).last.cycle
whole_length s = lengths_from s _ (reported_by_one s)
