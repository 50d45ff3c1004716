-- The plain run on the joined events takes each event of a live run's tape at its own cycle; and every run takes its
-- events from the first on.
use Rattle.std.proofs.Common.{◌≡◌, ℕ, ◌+◌, ◌-◌, ◌≤◌, ◌<◌, ◌⊎◌, suc, zero, List, [], ◌∷◌, ◌++◌, length, map, take, replicate, Option, Some, None, Bool, true, false, refl, ap, sym, ◌∙◌, subst, arith, inl, inr, one-add}
use Rattle.std.specs.Prelude.{drop, nat_lt, IsSome, All, slice_get, IfSome}
use Rattle.std.proofs.lemmas.Bool.Decides.{nat_tests}
use Rattle.std.proofs.lemmas.List.{length-append, take_at}
use Rattle.std.proofs.lemmas.List.Elements.{All-cons, All-nil}
use Rattle.agc_script.specs.Merge.{due_at, joined}
use Rattle.agc_script.specs.declared.event.Event.{Event}
use Rattle.agc_script.specs.declared.event.What.{What}
use Rattle.agc_script.specs.declared.key.Key.{Key}
use Rattle.agc_machine.specs.declared.answer.Stepped.{Stepped}
use Rattle.agc_machine.specs.declared.answer.Stop.{Stop}
use Rattle.agc_machine.specs.declared.upcoming.Upcoming.{Upcoming}
use Rattle.agc_machine.specs.declared.upcoming.Upcoming.TheVariants as upcoming
use Rattle.agc_machine.specs.Boundary.{Applies, IsBefore, WantsKey, boundary, carried_out, later_events}
use Rattle.agc_machine.proofs.Cases.{FirstDue, by_cases, first_due}
use Rattle.agc_machine.specs.Laws.{after}
use Rattle.agc_machine.specs.Replay.{Chain, chain, tape_of, AreWanted, with_tape, run_in}
use Rattle.agc_machine.specs.Run.{Run, boundaries_left, run_of}
use Rattle.agc_machine.specs.State.{State, live_event}
use Rattle.agc_machine.specs.Taken.{at_cycle, at_own_cycle, marked, met_between, tape_marks, taken_within, AreApart, TakesLive}
use Rattle.agc_machine.proofs.Chain.{stopped_stays, stops_in_time}
use Rattle.agc_machine.proofs.Kept.{boundary_keeps}
use Rattle.agc_machine.proofs.Replay.{IsFrom, chain_is_run, chain_replays, begun, event_first, from_later, live_first, live_keeps_events, live_taped, none_taped, order_keeps_events, tape_follows, tape_from}

none_met : (events : List Event) → take (length events - length events) events ≡ []
none_met events = let none : length events - length events ≡ 0 = omega arith in ap (λ (n : ℕ). take n events) none

-- a stopped machine takes no event
stopped_takes_none : (n : ℕ) (s : State) (why : Stop) → s.stopped ≡ Some why → taken_within n s ≡ []
unfolding taken_within
stopped_takes_none zero s why e = refl
stopped_takes_none (suc n) s why e =
    let stays : (boundary None s).0 ≡ s = ap (λ (r : State × Stepped). r.0) (stopped_stays s why e) in
    ap (λ (t : State). at_cycle s.cycle (met_between s t) ++ taken_within n t) stays
    ∙ ap (λ (events : List Event). at_cycle s.cycle events ++ taken_within n s) (none_met s.events)
    ∙ stopped_takes_none n s why e

stopped_none : (stopped : Option Stop) (n : ℕ) (s : State) → s.stopped ≡ stopped → IsSome stopped → taken_within n s ≡ []
stopped_none (Some why) n s e i = stopped_takes_none n s why e
stopped_none None n s e i = cc

same_after : (n m : ℕ) (s : State) → taken_within n (boundary None s).0 ≡ taken_within m (boundary None s).0 → taken_within (suc n) s ≡ taken_within (suc m) s
unfolding taken_within
same_after n m s e = ap (λ (takings : List (ℕ × Event)). at_cycle s.cycle (met_between s (boundary None s).0) ++ takings) e

-- once a run has stopped, more boundaries take no more
taken_up_to_stop : (n m : ℕ) (s : State) → IsSome (after n s).stopped → IsSome (after m s).stopped → taken_within n s ≡ taken_within m s
unfolding after taken_within
taken_up_to_stop zero m s i k = sym (stopped_none s.stopped m s refl i)
taken_up_to_stop (suc n) zero s i k = stopped_none s.stopped (suc n) s refl k
taken_up_to_stop (suc n) (suc m) s i k = same_after n m s (taken_up_to_stop n m (boundary None s).0 i k)

one_met : (event : Event) (events : List Event) → take (length (event ∷ events) - length events) (event ∷ events) ≡ event ∷ []
one_met event events = let one : suc (length events) - length events ≡ 1 = omega arith in ap (λ (n : ℕ). take n (event ∷ events)) one

-- what a boundary without a live event does to the events: it leaves them, or takes the first one, which is due
abbrev Meets : State → State → Type 0
Meets s t = (t.events ≡ s.events) ⊎ ((first : FirstDue s.cycle s.events) × (t.events ≡ first.rest))

due_meets : (s t : State) → t.events ≡ later_events s.events → FirstDue s.cycle s.events → Meets s t
due_meets s t e first = inr (first, e ∙ ap later_events first.had)

comes_meets : (u : Upcoming) (s : State) → Applies u s → Meets s (carried_out u (begun s)).0
comes_meets (upcoming.Stop why) s a = inl refl
comes_meets (upcoming.Event what) s a = due_meets s (carried_out (upcoming.Event what) (begun s)).0 refl (first_due s.cycle s.events what a.1)
comes_meets (upcoming.Timer t) s a = inl refl
comes_meets (upcoming.Interrupt r) s a = inl refl
comes_meets (upcoming.Order order) s a = inl (order_keeps_events (begun s))

boundary_meets : (s : State) → Meets s (boundary None s).0
boundary_meets s = by_cases (λ r. Meets s r.0) s (λ why e. inl refl) (λ u a. comes_meets u s a)

no_marks : (marks : List Bool) → marked marks [] ≡ []
unfolding marked
no_marks [] = refl
no_marks (mark ∷ marks) = refl

-- a live event before all events is marked first
due_now : (live : Event) (events : List Event) → IsBefore live.cycle events → due_at live.cycle events ≡ 0
due_now live [] h = refl
due_now live (event ∷ events) h = let later : nat_lt live.cycle event.cycle ≡ true = grind (arith, nat_tests) in rw later refl

live_mark : (live : Event) (tape : List Event) (events : List Event) → IsBefore live.cycle events →
    tape_marks events (live ∷ tape) ≡ true ∷ tape_marks events tape
unfolding tape_marks
live_mark live tape events h =
    ap (λ (due : ℕ). replicate due false ++ true ∷ tape_marks (drop due events) tape) (due_now live events h)

-- an event that is due before a tape is not marked
due_more : (live : Event) (event : Event) (events : List Event) → event.cycle ≤ live.cycle →
    due_at live.cycle (event ∷ events) ≡ suc (due_at live.cycle events)
due_more live event events h = let due : nat_lt live.cycle event.cycle ≡ false = grind (arith, nat_tests) in rw (due, one-add) refl

event_mark : (event : Event) (events : List Event) (tape : List Event) → IsFrom event.cycle tape →
    tape_marks (event ∷ events) tape ≡ false ∷ tape_marks events tape
unfolding tape_marks
event_mark event events [] h = refl
event_mark event events (live ∷ tape) h =
    ap (λ (due : ℕ). replicate due false ++ true ∷ tape_marks (drop due (event ∷ events)) tape) (due_more live event events h)

-- nothing was taken
nothing_met : (s t : State) → length t.events ≡ length s.events → at_cycle s.cycle (met_between s t) ≡ []
nothing_met s t e =
    let none : length s.events - length t.events ≡ 0 = omega arith in ap (λ (n : ℕ). at_cycle s.cycle (take n s.events)) none

-- the first event was taken
first_met : (s t : State) (event : Event) (events : List Event) (cycle : ℕ) → s.cycle ≡ cycle → s.events ≡ event ∷ events → t.events ≡ events →
    at_cycle s.cycle (met_between s t) ≡ (cycle, event) ∷ []
first_met s t event events cycle c e f =
    ap (λ (left : List Event). at_cycle s.cycle (take (length s.events - length left) s.events)) f
    ∙ ap (λ (had : List Event). at_cycle s.cycle (take (length had - length events) had)) e
    ∙ ap (at_cycle s.cycle) (one_met event events)
    ∙ ap (λ (n : ℕ). (n, event) ∷ []) c

-- this many boundaries from a state take the tape's events at their own cycles
abbrev Takes : ℕ → List Event → List Event → State → Type 0
Takes n events tape u = marked (tape_marks events tape) (taken_within n u) ≡ map at_own_cycle tape

live_goes_on : (n : ℕ) (s t u : State) (what : What) (tape : List Event) → WantsKey s → t ≡ (boundary (Some what) s).0 →
    u ≡ with_tape (live_event s what ∷ tape) s → Takes n t.events tape (with_tape tape t) → Takes (suc n) s.events (live_event s what ∷ tape) u
unfolding taken_within marked
live_goes_on n s t u what tape w e is h =
    let live : Event = live_event s what in
    let after_live : (boundary None u).0 ≡ with_tape tape t =
    ap (λ (x : State). (boundary None x).0) is ∙ ap (λ (r : State × Stepped). r.0) (live_taped s what tape w) ∙ ap (with_tape tape) (sym e) in
    let kept : t.events ≡ s.events = ap (λ (x : State). x.events) e ∙ live_keeps_events s what w in
    let had : u.events ≡ live ∷ joined s.events tape = ap (λ (x : State). x.events) is ∙ live_first s.events live tape w.none_due in
    let left : (boundary None u).0.events ≡ joined s.events tape =
    ap (λ (x : State). x.events) after_live ∙ ap (λ (events : List Event). joined events tape) kept in
    let at : u.cycle ≡ s.cycle = ap (λ (x : State). x.cycle) is in
    let met : at_cycle u.cycle (met_between u (boundary None u).0) ≡ (s.cycle, live) ∷ [] =
    first_met u (boundary None u).0 live (joined s.events tape) s.cycle at had left in
    ap (λ (marks : List Bool). marked marks (at_cycle u.cycle (met_between u (boundary None u).0) ++ taken_within n (boundary None u).0))
    (live_mark live tape s.events w.none_due)
    ∙ ap (λ (takings : List (ℕ × Event)). marked (true ∷ tape_marks s.events tape) (takings ++ taken_within n (boundary None u).0)) met
    ∙ ap (λ (x : State). (s.cycle, live) ∷ marked (tape_marks s.events tape) (taken_within n x)) after_live
    ∙ ap (λ (events : List Event). (s.cycle, live) ∷ marked (tape_marks events tape) (taken_within n (with_tape tape t))) (sym kept)
    ∙ ap (λ (takings : List (ℕ × Event)). (s.cycle, live) ∷ takings) h

none_goes_on : (n : ℕ) (s t u : State) (tape : List Event) → IsFrom s.cycle tape → Meets s t → u ≡ with_tape tape s →
    (boundary None u).0 ≡ with_tape tape t → Takes n t.events tape (with_tape tape t) → Takes (suc n) s.events tape u
unfolding taken_within marked
none_goes_on n s t u tape f (inl kept) is e h =
    let met : at_cycle u.cycle (met_between u (boundary None u).0) ≡ [] =
    nothing_met u (boundary None u).0 (ap (λ (x : State). length x.events) e ∙ ap (λ (events : List Event). length (joined events tape)) kept
    ∙ ap (λ (x : State). length x.events) (sym is)) in
    ap (λ (takings : List (ℕ × Event)). marked (tape_marks s.events tape) (takings ++ taken_within n (boundary None u).0)) met
    ∙ ap (λ (x : State). marked (tape_marks s.events tape) (taken_within n x)) e
    ∙ ap (λ (events : List Event). marked (tape_marks events tape) (taken_within n (with_tape tape t))) (sym kept)
    ∙ h
none_goes_on n s t u tape f (inr taken) is e h =
    let first = taken.0 in
    let from : IsFrom first.event.cycle tape = from_later first.event.cycle s.cycle tape first.due f in
    let had : u.events ≡ first.event ∷ joined first.rest tape =
    ap (λ (x : State). x.events) is ∙ ap (λ (events : List Event). joined events tape) first.had ∙ event_first first.event first.rest tape from in
    let left : (boundary None u).0.events ≡ joined first.rest tape =
    ap (λ (x : State). x.events) e ∙ ap (λ (events : List Event). joined events tape) taken.1 in
    let met : at_cycle u.cycle (met_between u (boundary None u).0) ≡ (u.cycle, first.event) ∷ [] =
    first_met u (boundary None u).0 first.event (joined first.rest tape) u.cycle refl had left in
    ap (λ (events : List Event). marked (tape_marks events tape) (at_cycle u.cycle (met_between u (boundary None u).0) ++ taken_within n (boundary None u).0)) first.had
    ∙ ap (λ (marks : List Bool). marked marks (at_cycle u.cycle (met_between u (boundary None u).0) ++ taken_within n (boundary None u).0))
    (event_mark first.event first.rest tape from)
    ∙ ap (λ (takings : List (ℕ × Event)). marked (false ∷ tape_marks first.rest tape) (takings ++ taken_within n (boundary None u).0)) met
    ∙ ap (λ (x : State). marked (tape_marks first.rest tape) (taken_within n x)) e
    ∙ ap (λ (events : List Event). marked (tape_marks events tape) (taken_within n (with_tape tape t))) (sym taken.1)
    ∙ h

-- the same number of plain boundaries on the joined events take the tape
taken_by_chain : (lives : List (Option What)) (s : State) → AreWanted lives s →
    Takes (length lives) s.events (tape_of lives s) (with_tape (tape_of lives s) s)
unfolding tape_of AreWanted taken_within
taken_by_chain [] s w = no_marks (tape_marks s.events [])
taken_by_chain (Some what ∷ lives) s w =
    let t : State = (boundary (Some what) s).0 in
    live_goes_on (length lives) s t (with_tape (live_event s what ∷ tape_of lives t) s) what (tape_of lives t) w.0 refl refl (taken_by_chain lives t w.1)
taken_by_chain (None ∷ lives) s w =
    let t : State = (boundary None s).0 in
    let from : IsFrom s.cycle (tape_of (None ∷ lives) s) = tape_from (None ∷ lives) s in
    none_goes_on (length lives) s t (with_tape (tape_of lives t) s) (tape_of lives t) from (boundary_meets s) refl
    (ap (λ (r : State × Stepped). r.0) (none_taped s (tape_of lives t) (tape_follows lives (boundary None s) w))) (taken_by_chain lives t w)

-- the state after some boundaries is the last one of their chain
after_is_last : (n : ℕ) (s : State) → after n s ≡ (chain (replicate n None) s).last
unfolding after chain
after_is_last zero s = refl
after_is_last (suc n) s = after_is_last n (boundary None s).0

-- the run on the events joined with the tape of a live run that has stopped takes the tape
pub tape_is_taken : (lives : List (Option What)) (s : State) → AreWanted lives s → IsSome (chain lives s).last.stopped →
    TakesLive s (tape_of lives s) (with_tape (tape_of lives s) s)
tape_is_taken lives s w i =
    let u : State = with_tape (tape_of lives s) s in
    let stopped : IsSome (after (length lives) u).stopped =
    subst (λ (x : State). IsSome x.stopped) (sym (after_is_last (length lives) u ∙ ap (λ (c : Chain). c.last) (chain_replays lives s w))) i in
    ap (marked (tape_marks s.events (tape_of lives s)))
    (taken_up_to_stop (boundaries_left u) (length lives) u (stops_in_time (boundaries_left u) u (omega arith)) stopped)
    ∙ taken_by_chain lives s w

-- and its events come below the limit
pub tape_is_below : (lives : List (Option What)) (s : State) → AreWanted lives s → All (λ live. live.cycle < s.limit) (tape_of lives s)
unfolding tape_of AreWanted
tape_is_below [] s w = All-nil (λ live. live.cycle < s.limit)
tape_is_below (Some what ∷ lives) s w =
    All-cons (λ live. live.cycle < s.limit) (live_event s what) (tape_of lives (boundary (Some what) s).0) w.0.below
    (subst (λ (limit : ℕ). All (λ live. live.cycle < limit) (tape_of lives (boundary (Some what) s).0)) (boundary_keeps (Some what) s).1
    (tape_is_below lives (boundary (Some what) s).0 w.1))
tape_is_below (None ∷ lives) s w =
    subst (λ (limit : ℕ). All (λ live. live.cycle < limit) (tape_of lives (boundary None s).0)) (boundary_keeps None s).1
    (tape_is_below lives (boundary None s).0 w)

pub chain_stops : (s : State) → IsSome (chain (replicate (boundaries_left s) None) s).last.stopped
chain_stops s =
    subst (λ (t : State). IsSome t.stopped) (after_is_last (boundaries_left s) s) (stops_in_time (boundaries_left s) s (omega arith))

-- a run is the chain of as many boundaries as are left
pub run_is_chain : (s : State) → run_of s ≡ run_in (chain (replicate (boundaries_left s) None) s)
run_is_chain s = chain_is_run (boundaries_left s) s (chain_stops s)

-- the last of two or more is the last of all but the first
last_of_more : (spacing : ℕ) (first later : ℕ × Key) (tape : List (ℕ × Key)) (entry : ℕ × Key) →
    IfSome (slice_get (first ∷ later ∷ tape) (length (first ∷ later ∷ tape) - 1)) (λ last. last.0 + spacing ≤ entry.0) →
    IfSome (slice_get (later ∷ tape) (length (later ∷ tape) - 1)) (λ last. last.0 + spacing ≤ entry.0)
last_of_more spacing first later tape entry h =
    let place : length (first ∷ later ∷ tape) - 1 ≡ suc (length (later ∷ tape) - 1) = omega arith in
    subst (λ (i : ℕ). IfSome (slice_get (first ∷ later ∷ tape) i) (λ last. last.0 + spacing ≤ entry.0)) place h

-- one more key, far enough from the last one
pub apart_snoc : (spacing : ℕ) (tape : List (ℕ × Key)) (entry : ℕ × Key) → AreApart spacing tape →
    IfSome (slice_get tape (length tape - 1)) (λ last. last.0 + spacing ≤ entry.0) → AreApart spacing (tape ++ entry ∷ [])
unfolding AreApart
apart_snoc spacing [] entry h k = tt
apart_snoc spacing (first ∷ []) entry h k = (k, tt)
apart_snoc spacing (first ∷ later ∷ tape) entry h k = (h.0, apart_snoc spacing (later ∷ tape) entry h.1 (last_of_more spacing first later tape entry k))

-- what is left of the events in a later state is their end
record EndsIn (s t : State) : Type 0 where
  met : List Event
  had : s.events ≡ met ++ t.events

ends_after : (s t u : State) → Meets s t → EndsIn t u → EndsIn s u
ends_after s t u (inl kept) h = record { met = h.met; had = sym kept ∙ h.had }
ends_after s t u (inr taken) h =
    let first = taken.0 in
    record { met = first.event ∷ h.met; had = first.had ∙ ap (λ (events : List Event). first.event ∷ events) (sym taken.1 ∙ h.had) }

ends_within : (n : ℕ) (s : State) → EndsIn s (after n s)
unfolding after
ends_within zero s = record { met = []; had = refl }
ends_within (suc n) s = ends_after s (boundary None s).0 (after n (boundary None s).0) (boundary_meets s) (ends_within n (boundary None s).0)

-- what comes before the end, by lengths
before_end : (met left : List Event) → take (length (met ++ left) - length left) (met ++ left) ≡ met
before_end met left =
    let both = length-append met left in
    take_at met left (length (met ++ left) - length left) (omega (arith, both))

by_lengths : (s t : State) → EndsIn s t → s.events ≡ met_between s t ++ t.events
by_lengths s t h =
    h.had ∙ ap (λ (met : List Event). met ++ t.events) (sym (before_end h.met t.events))
    ∙ ap (λ (events : List Event). take (length events - length t.events) events ++ t.events) (sym h.had)

-- a run takes the first of its events, and the rest is left
pub run_meets : (s : State) → s.events ≡ met_between s (run_of s).last ++ (run_of s).last.events
run_meets s =
    let last : (run_of s).last ≡ after (boundaries_left s) s =
    ap (λ (run : Run). run.last) (run_is_chain s) ∙ sym (after_is_last (boundaries_left s) s) in
    subst (λ (t : State). s.events ≡ met_between s t ++ t.events) (sym last)
    (by_lengths s (after (boundaries_left s) s) (ends_within (boundaries_left s) s))

-- so that no more are left than there were
pub no_more_left : (s : State) → length (run_of s).last.events ≤ length s.events
no_more_left s =
    let all = ap (λ (events : List Event). length events) (run_meets s) in
    let both = length-append (met_between s (run_of s).last) (run_of s).last.events in
    omega (arith, all, both)
