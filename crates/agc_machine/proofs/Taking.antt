-- A chain of boundaries depends only on the events that it takes: with others left it comes to the same state.
use Rattle.std.proofs.Common.{◌≡◌, ℕ, ◌≤◌, suc, zero, List, [], ◌∷◌, ◌++◌, length, replicate, Option, Some, None, refl, ap, sym, ◌∙◌, subst, arith, append_assoc}
use Rattle.std.proofs.lemmas.List.{length-append}
use Rattle.agc_script.specs.declared.event.Event.{Event}
use Rattle.agc_script.specs.declared.event.What.{What}
use Rattle.agc_processor.specs.declared.processor.Processor.{Processor}
use Rattle.agc_processor.specs.declared.processor.Ran.{Ran}
use Rattle.agc_processor.specs.declared.processor.Ran.TheVariants as ran
use Rattle.agc_processor.specs.Effect.{order_effect}
use Rattle.agc_machine.specs.declared.answer.Stepped.{Stepped}
use Rattle.agc_machine.specs.declared.answer.Stepped.TheVariants as stepped
use Rattle.agc_machine.specs.declared.answer.Stop.{Stop}
use Rattle.agc_machine.specs.declared.upcoming.Upcoming.{Upcoming}
use Rattle.agc_machine.specs.declared.upcoming.Upcoming.TheVariants as upcoming
use Rattle.agc_machine.specs.Boundary.{Applies, IsBefore, boundary, by_order, carried_out, due_event, later_events, ran_order, upcoming_of}
use Rattle.agc_machine.specs.Laws.{Falls, LeavesEvents}
use Rattle.agc_machine.specs.Replay.{Chain, chain}
use Rattle.agc_machine.specs.State.{State}
use Rattle.agc_machine.proofs.Cases.{FirstDue, by_cases, first_due, none_due, same_upcoming, upcoming_applies}
use Rattle.agc_machine.proofs.Chain.{boundary_falls, stopped_stays}
use Rattle.agc_machine.proofs.Replay.{begun, comes_out, order_keeps_events}

-- an answer of a state with other events left
abbrev answered : List Event → State × Stepped → State × Stepped
answered events r = (record r.0 { events = events }, r.1)

-- orders leave the events unchanged
ran_with : (s : State) (events : List Event) (r : Processor × Ran) → ran_order (record s { events = events }) r ≡ answered events (ran_order s r)
ran_with s events (p, ran.Quiet cycles) = refl
ran_with s events (p, ran.Wrote channel value) = refl
ran_with s events (p, ran.Halted why) = refl

order_with : (s : State) (events : List Event) → by_order (record s { events = events }) ≡ answered events (by_order s)
unfolding by_order
order_with s events = ran_with s events (order_effect s.cycle s.processor)

-- a boundary goes forwards in time, and takes at most one event
falls_later : (s : State) (r : State × Stepped) → Falls s r → s.cycle ≤ r.0.cycle
falls_later s (t, stepped.Quiet) h = h.1
falls_later s (t, stepped.Wrote write) h = omega (arith, h.2)
falls_later s (t, stepped.Stopped why) h = h.1

later : (s : State) → s.cycle ≤ (boundary None s).0.cycle
later s = falls_later s (boundary None s) (boundary_falls s)

same_length : (events left : List Event) → left ≡ events → length left ≤ length events
same_length events left e = rw e (omega arith)

one_fewer : (events : List Event) → length (later_events events) ≤ length events
one_fewer [] = omega arith
one_fewer (event ∷ rest) = omega arith

comes_fewer : (u : Upcoming) (s : State) → length (carried_out u (begun s)).0.events ≤ length s.events
comes_fewer (upcoming.Stop why) s = same_length s.events s.events refl
comes_fewer (upcoming.Event what) s = one_fewer s.events
comes_fewer (upcoming.Timer t) s = same_length s.events s.events refl
comes_fewer (upcoming.Interrupt r) s = same_length s.events s.events refl
comes_fewer (upcoming.Order order) s = same_length s.events _ (order_keeps_events (begun s))

fewer : (s : State) → length (boundary None s).0.events ≤ length s.events
fewer s = by_cases (λ r. length r.0.events ≤ length s.events) s (λ why e. same_length s.events s.events refl) (λ u a. comes_fewer u s)

-- so does a chain, and after a stop it stays where it is
pub chain_later : (n : ℕ) (s : State) → s.cycle ≤ (chain (replicate n None) s).last.cycle
unfolding chain
chain_later zero s = omega arith
chain_later (suc n) s = omega (arith, later s, chain_later n (boundary None s).0)

chain_fewer : (n : ℕ) (s : State) → length (chain (replicate n None) s).last.events ≤ length s.events
unfolding chain
chain_fewer zero s = omega arith
chain_fewer (suc n) s = omega (arith, fewer s, chain_fewer n (boundary None s).0)

chain_stays : (n : ℕ) (s : State) (why : Stop) → s.stopped ≡ Some why → (chain (replicate n None) s).last.stopped ≡ Some why
unfolding chain
chain_stays zero s why e = e
chain_stays (suc n) s why e = chain_stays n (boundary None s).0 why (ap (λ (r : State × Stepped). r.0.stopped) (stopped_stays s why e) ∙ e)

not_stopped : (stopped : Option Stop) (n : ℕ) (s : State) → s.stopped ≡ stopped → (chain (replicate n None) s).last.stopped ≡ None → s.stopped ≡ None
not_stopped (Some why) n s e h = let stays = chain_stays n s why e in cc
not_stopped None n s e h = e

-- events after a later cycle come after an earlier one
before_earlier : (cycle end : ℕ) (events : List Event) → cycle ≤ end → IsBefore end events → IsBefore cycle events
before_earlier cycle end [] l h = tt
before_earlier cycle end (event ∷ events) l h = omega (arith, l, h)

-- What a boundary does to the events that are to be taken, and to the state with others after them.
record Takes (s : State) (taken rest other : List Event) : Type 0 where
  left : List Event
  events : (boundary None s).0.events ≡ left ++ rest
  same : boundary None (record s { events = taken ++ other }) ≡ answered (left ++ other) (boundary None s)

-- what comes, if the same event is due
along : (s : State) (u : Upcoming) (events left : List Event) → s.stopped ≡ None → upcoming_of s ≡ u → due_event s.cycle events ≡ due_event s.cycle s.events →
    carried_out u (record (begun s) { events = events }) ≡ answered left (carried_out u (begun s)) →
    boundary None (record s { events = events }) ≡ answered left (boundary None s)
along s u events left n e d c =
    comes_out (record s { events = events }) u n (same_upcoming s events d ∙ e) ∙ c ∙ ap (answered left) (sym (comes_out s u n e))

undue_by : (cycle : ℕ) (events taken rest other : List Event) → events ≡ taken ++ rest → IsBefore cycle events → IsBefore cycle other → IsBefore cycle (taken ++ other)
undue_by cycle events [] rest other e b h = h
undue_by cycle events (event ∷ taken) rest other e b h = subst (IsBefore cycle) e b

undue : (s : State) (taken rest other : List Event) → s.events ≡ taken ++ rest → IsBefore s.cycle s.events → IsBefore (boundary None s).0.cycle other →
    due_event s.cycle (taken ++ other) ≡ due_event s.cycle s.events
undue s taken rest other e b h =
    none_due s.cycle (taken ++ other) (undue_by s.cycle s.events taken rest other e b (before_earlier s.cycle (boundary None s).0.cycle other (later s) h))
    ∙ sym (none_due s.cycle s.events b)

-- a boundary that takes no event
takes_none : (s : State) (u : Upcoming) (taken rest other : List Event) → s.stopped ≡ None → upcoming_of s ≡ u → s.events ≡ taken ++ rest →
    IsBefore s.cycle s.events → IsBefore (boundary None s).0.cycle other → (carried_out u (begun s)).0.events ≡ s.events →
    carried_out u (record (begun s) { events = taken ++ other }) ≡ answered (taken ++ other) (carried_out u (begun s)) → Takes s taken rest other
takes_none s u taken rest other n e had b h kept c =
    record {
      left = taken;
      events = ap (λ (r : State × Stepped). r.0.events) (comes_out s u n e) ∙ kept ∙ had;
      same = along s u (taken ++ other) (taken ++ other) n e (undue s taken rest other had b h) c;
    }

-- a boundary that takes the first event
takes_first : (s : State) (what : What) (taken rest other : List Event) → s.stopped ≡ None → upcoming_of s ≡ upcoming.Event what → s.events ≡ taken ++ rest →
    FirstDue s.cycle s.events → length rest ≤ length (boundary None s).0.events → Takes s taken rest other
takes_first s what [] rest other n e had first l =
    let left : (boundary None s).0.events ≡ first.rest =
    ap (λ (r : State × Stepped). r.0.events) (comes_out s (upcoming.Event what) n e) ∙ ap later_events first.had in
    let all : rest ≡ first.event ∷ first.rest = sym had ∙ first.had in
    let none : ⊥ = omega (arith, l, ap length left, ap length all) in
    absurd none
takes_first s what (event ∷ taken) rest other n e had first l =
    record {
      left = taken;
      events = ap (λ (r : State × Stepped). r.0.events) (comes_out s (upcoming.Event what) n e) ∙ ap later_events had;
      same = along s (upcoming.Event what) (event ∷ taken ++ other) (taken ++ other) n e (sym (ap (due_event s.cycle) had)) refl;
    }

comes_takes : (u : Upcoming) (s : State) (taken rest other : List Event) → s.stopped ≡ None → upcoming_of s ≡ u → Applies u s → s.events ≡ taken ++ rest →
    length rest ≤ length (boundary None s).0.events → IsBefore (boundary None s).0.cycle other → (boundary None s).0.stopped ≡ None → Takes s taken rest other
comes_takes (upcoming.Stop why) s taken rest other n e a had l h runs =
    let stopped : (boundary None s).0.stopped ≡ Some why = ap (λ (r : State × Stepped). r.0.stopped) (comes_out s (upcoming.Stop why) n e) in cc
comes_takes (upcoming.Event what) s taken rest other n e a had l h runs = takes_first s what taken rest other n e had (first_due s.cycle s.events what a.1) l
comes_takes (upcoming.Timer t) s taken rest other n e a had l h runs = takes_none s (upcoming.Timer t) taken rest other n e had a.1 h refl refl
comes_takes (upcoming.Interrupt r) s taken rest other n e a had l h runs = takes_none s (upcoming.Interrupt r) taken rest other n e had a.0.none_due h refl refl
comes_takes (upcoming.Order order) s taken rest other n e a had l h runs =
    takes_none s (upcoming.Order order) taken rest other n e had a.0.none_due h (order_keeps_events (begun s)) (order_with (begun s) (taken ++ other))

boundary_takes : (s : State) (taken rest other : List Event) → s.stopped ≡ None → s.events ≡ taken ++ rest →
    length rest ≤ length (boundary None s).0.events → IsBefore (boundary None s).0.cycle other → (boundary None s).0.stopped ≡ None → Takes s taken rest other
boundary_takes s taken rest other n had l h runs = comes_takes (upcoming_of s) s taken rest other n refl (upcoming_applies s n) had l h runs

none_taken : (taken rest : List Event) → taken ++ rest ≡ rest → taken ≡ []
none_taken [] rest e = refl
none_taken (event ∷ taken) rest e =
    let none : ⊥ = omega (arith, ap length e, length-append taken rest) in absurd none

-- the chain after a boundary
abbrev chain_from : (n : ℕ) → State × Stepped → Chain
chain_from n r = let rest = chain (replicate n None) r.0 in record { answers = r.1 ∷ rest.answers; last = rest.last }

pub takes_same : (n : ℕ) (s : State) (taken rest other : List Event) → s.events ≡ taken ++ rest → LeavesEvents n rest other s →
    chain (replicate n None) (record s { events = taken ++ other })
    ≡ record { answers = (chain (replicate n None) s).answers; last = record (chain (replicate n None) s).last { events = other } }
unfolding chain
takes_same zero s taken rest other had h =
    let none : taken ≡ [] = none_taken taken rest (sym had ∙ h.left) in
    ap (λ (events : List Event). record { answers = []; last = record s { events = events ++ other } }) none
takes_same (suc n) s taken rest other had h =
    let t : State = (boundary None s).0 in
    let runs : t.stopped ≡ None = not_stopped t.stopped n t refl h.runs in
    let going : s.stopped ≡ None = not_stopped s.stopped (suc n) s refl h.runs in
    let step : Takes s taken rest other =
    boundary_takes s taken rest other going had (omega (arith, ap length h.left, chain_fewer n t))
    (before_earlier t.cycle (chain (replicate n None) t).last.cycle other (chain_later n t) h.later) runs in
    ap (chain_from n) step.same
    ∙ ap (λ (c : Chain). record { answers = (boundary None s).1 ∷ c.answers; last = c.last })
    (takes_same n t step.left rest other step.events (record { left = h.left; runs = h.runs; later = h.later }))

-- the events left are the last of those that there were
abbrev pub IsLeft : List Event → List Event → Type 0
IsLeft events left = (taken : List Event) × (events ≡ taken ++ left)

all_left : (events left : List Event) → left ≡ events → IsLeft events left
all_left events left e = ([], sym e)

rest_left : (cycle : ℕ) (events : List Event) → FirstDue cycle events → IsLeft events (later_events events)
rest_left cycle events first =
    (first.event ∷ [], first.had ∙ ap (λ (left : List Event). first.event ∷ left) (sym (ap later_events first.had)))

comes_left : (u : Upcoming) (s : State) → Applies u s → IsLeft s.events (carried_out u (begun s)).0.events
comes_left (upcoming.Stop why) s a = all_left s.events s.events refl
comes_left (upcoming.Event what) s a = rest_left s.cycle s.events (first_due s.cycle s.events what a.1)
comes_left (upcoming.Timer t) s a = all_left s.events s.events refl
comes_left (upcoming.Interrupt r) s a = all_left s.events s.events refl
comes_left (upcoming.Order order) s a = all_left s.events _ (order_keeps_events (begun s))

boundary_left : (s : State) → IsLeft s.events (boundary None s).0.events
boundary_left s = by_cases (λ r. IsLeft s.events r.0.events) s (λ why e. all_left s.events s.events refl) (λ u a. comes_left u s a)

pub chain_left : (n : ℕ) (s : State) → IsLeft s.events (chain (replicate n None) s).last.events
unfolding chain
chain_left zero s = all_left s.events s.events refl
chain_left (suc n) s =
    let t : State = (boundary None s).0 in
    let first = boundary_left s in
    let rest = chain_left n t in (
      first.0 ++ rest.0,
      first.1 ∙ ap (λ (events : List Event). first.0 ++ events) rest.1
          ∙ sym (append_assoc first.0 rest.0 (chain (replicate n None) t).last.events),
    )
