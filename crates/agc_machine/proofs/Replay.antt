-- A chain of boundaries with live events is the plain chain on the events joined with its tape.
use Rattle.std.proofs.Common.{◌≡◌, ℕ, ◌+◌, ◌≤◌, ◌<◌, suc, zero, List, [], ◌∷◌, length, replicate, Option, Some, None, Bool, true, false, refl, ap, sym, ◌∙◌, subst, arith}
use Rattle.std.specs.Prelude.{nat_le, IsSome}
use Rattle.std.proofs.lemmas.Bool.Decides.{nat_tests}
use Rattle.agc_script.proofs.Merges.{joined_event_first, joined_given_first, joined_given_last, joined_none}
use Rattle.agc_script.specs.Merge.{joined}
use Rattle.agc_script.specs.declared.event.Event.{Event}
use Rattle.agc_script.specs.declared.event.What.{What}
use Rattle.agc_machine.specs.declared.answer.Next.{Next}
use Rattle.agc_machine.specs.declared.answer.Next.TheVariants as next
use Rattle.agc_machine.specs.declared.answer.Stepped.{Stepped}
use Rattle.agc_machine.specs.declared.answer.Stepped.TheVariants as stepped
use Rattle.agc_machine.specs.declared.answer.Stop.{Stop}
use Rattle.agc_processor.specs.declared.processor.Processor.{Processor}
use Rattle.agc_processor.specs.declared.processor.Ran.{Ran}
use Rattle.agc_processor.specs.declared.processor.Ran.TheVariants as ran
use Rattle.agc_machine.specs.declared.upcoming.Upcoming.{Upcoming}
use Rattle.agc_machine.specs.declared.upcoming.Upcoming.TheVariants as upcoming
use Rattle.agc_machine.specs.Boundary.{Applies, IsBefore, WantsKey, boundary, by_order, carried_out, due_event, later_events, passes, ran_order, upcoming_of}
use Rattle.agc_machine.proofs.Cases.{FirstDue, event_upcoming, first_due, none_due, same_upcoming, upcoming_applies, upcoming_comes}
use Rattle.agc_machine.proofs.Before.{falls_shows}
use Rattle.agc_machine.proofs.Kept.{boundary_keeps}
use Rattle.agc_processor.specs.Effect.{order_effect}
use Rattle.agc_machine.specs.EventEffect.{happened, cycles_of}
use Rattle.agc_machine.specs.Laws.{Falls, Comes, HasChannel, HasNextChannel}
use Rattle.agc_machine.specs.Replay.{Chain, chain, tape_of, AreWanted, with_tape, writes_in, run_in}
use Rattle.agc_machine.specs.Run.{Run, boundaries_left, next_of, run_of, while_writing}
use Rattle.agc_machine.specs.State.{State, fed, live_event}
use Rattle.agc_machine.proofs.Chain.{boundary_falls, stopped_stays, run_by_next, run_at_write, run_at_stop, next_at_write, next_at_stop, next_after_quiet, next_comes}

-- an answer of a state with a tape among its events
abbrev taped : List Event → State × Stepped → State × Stepped
taped tape r = (with_tape tape r.0, r.1)

-- orders leave the events unchanged
ran_taped : (s : State) (tape : List Event) (r : Processor × Ran) → ran_order (with_tape tape s) r ≡ taped tape (ran_order s r)
ran_taped s tape (p, ran.Quiet cycles) = refl
ran_taped s tape (p, ran.Wrote channel value) = refl
ran_taped s tape (p, ran.Halted why) = refl

order_taped : (s : State) (tape : List Event) → by_order (with_tape tape s) ≡ taped tape (by_order s)
unfolding by_order
order_taped s tape = ran_taped s tape (order_effect s.cycle s.processor)

ran_keeps_events : (s : State) (r : Processor × Ran) → (ran_order s r).0.events ≡ s.events
ran_keeps_events s (p, ran.Quiet cycles) = refl
ran_keeps_events s (p, ran.Wrote channel value) = refl
ran_keeps_events s (p, ran.Halted why) = refl

pub order_keeps_events : (s : State) → (by_order s).0.events ≡ s.events
unfolding by_order
order_keeps_events s = ran_keeps_events s (order_effect s.cycle s.processor)

-- a tape's first event is not before a cycle
abbrev pub IsFrom : ℕ → List Event → Type 0
IsFrom cycle [] = Unit {0}
IsFrom cycle (entry ∷ tape) = cycle ≤ entry.cycle

pub from_later : (cycle later : ℕ) (tape : List Event) → cycle ≤ later → IsFrom later tape → IsFrom cycle tape
from_later cycle later [] l h = tt
from_later cycle later (entry ∷ tape) l h = omega arith

-- the tape of what comes after a boundary: it begins no earlier than the state after, and is empty after a stop
pub record Follows (r : State × Stepped) (tape : List Event) : Type 0 where
  pub from : IsFrom r.0.cycle tape
  pub none : (why : Stop) → r.0.stopped ≡ Some why → tape ≡ []

-- a boundary that takes no event takes time, so that the next live event comes after its cycle
later_tape : (s : State) (r : State × Stepped) (tape : List Event) → r.0.events ≡ s.events → r.0.limit ≡ s.limit → Falls s r →
    Follows r tape → IsFrom (s.cycle + 1) tape
unfolding boundaries_left
later_tape s (t, stepped.Quiet) [] e l f h = tt
later_tape s (t, stepped.Quiet) (entry ∷ tape) e l f h =
    let same : length t.events ≡ length s.events = ap length e in
    let from : t.cycle ≤ entry.cycle = h.from in
    omega arith
later_tape s (t, stepped.Wrote write) [] e l f h = tt
later_tape s (t, stepped.Wrote write) (entry ∷ tape) e l f h = let from : t.cycle ≤ entry.cycle = h.from in omega arith
later_tape s (t, stepped.Stopped why) tape e l f h = subst (IsFrom (s.cycle + 1)) (sym (h.none why f.0)) tt

-- what is not due is not due with later live events either
not_due_by : (b : Bool) (cycle : ℕ) (event : Event) (events : List Event) (entry : Event) (tape : List Event) →
    nat_le event.cycle entry.cycle ≡ b → cycle < event.cycle → cycle + 1 ≤ entry.cycle → IsBefore cycle (joined (event ∷ events) (entry ∷ tape))
not_due_by true cycle event events entry tape e h k =
    subst (IsBefore cycle) (sym (joined_event_first event events entry tape (grind (arith, nat_tests)))) h
not_due_by false cycle event events entry tape e h k =
    subst (IsBefore cycle) (sym (joined_given_first event events entry tape (grind (arith, nat_tests)))) (omega arith)

not_due : (cycle : ℕ) (events : List Event) (tape : List Event) → IsBefore cycle events → IsFrom (cycle + 1) tape →
    IsBefore cycle (joined events tape)
not_due cycle events [] h k = subst (IsBefore cycle) (sym (joined_none events)) h
not_due cycle [] (entry ∷ tape) h k = subst (IsBefore cycle) (sym (joined_given_last entry tape)) (omega arith)
not_due cycle (event ∷ events) (entry ∷ tape) h k = not_due_by (nat_le event.cycle entry.cycle) cycle event events entry tape refl h k

-- an event that is due comes before the live ones
pub event_first : (event : Event) (rest : List Event) (tape : List Event) → IsFrom event.cycle tape →
    joined (event ∷ rest) tape ≡ event ∷ joined rest tape
event_first event rest [] h = joined_none (event ∷ rest) ∙ ap (λ (events : List Event). event ∷ events) (sym (joined_none rest))
event_first event rest (entry ∷ tape) h = joined_event_first event rest entry tape h

-- with no tape left a boundary is as it was
no_more : (s : State) → with_tape [] s ≡ s
no_more s = ap (λ (events : List Event). record s { events = events }) (joined_none s.events)

none_left : (s : State) (tape : List Event) → tape ≡ [] → boundary None (with_tape tape s) ≡ taped tape (boundary None s)
none_left s tape e =
    subst (λ (t : List Event). boundary None (with_tape t s) ≡ taped t (boundary None s)) (sym e)
    (ap (λ (t : State). boundary None t) (no_more s) ∙ ap (λ (t : State). (t, (boundary None s).1)) (sym (no_more (boundary None s).0)))

abbrev pub begun : State → State
begun s = record s { begun = true }

-- what comes, carried out
pub comes_out : (s : State) (u : Upcoming) → s.stopped ≡ None → upcoming_of s ≡ u → boundary None s ≡ carried_out u (begun s)
comes_out s u n e = (upcoming_comes s).comes n ∙ ap (λ (u : Upcoming). carried_out u (begun s)) e

-- the same comes with a tape among the events, if the same event is due
along : (s : State) (u : Upcoming) (tape : List Event) → s.stopped ≡ None → upcoming_of s ≡ u →
    due_event s.cycle (joined s.events tape) ≡ due_event s.cycle s.events →
    carried_out u (with_tape tape (begun s)) ≡ taped tape (carried_out u (begun s)) → boundary None (with_tape tape s) ≡ taped tape (boundary None s)
along s u tape n e d c =
    comes_out (with_tape tape s) u n (same_upcoming s (joined s.events tape) d ∙ e) ∙ c ∙ ap (taped tape) (sym (comes_out s u n e))

-- no event is due
undue : (s : State) (tape : List Event) → IsBefore s.cycle s.events → (boundary None s).0.events ≡ s.events → Follows (boundary None s) tape →
    due_event s.cycle (joined s.events tape) ≡ due_event s.cycle s.events
undue s tape b same f =
    let later : IsFrom (s.cycle + 1) tape = later_tape s (boundary None s) tape same (boundary_keeps None s).1 (boundary_falls s) f in
    none_due s.cycle (joined s.events tape) (not_due s.cycle s.events tape b later) ∙ sym (none_due s.cycle s.events b)

events_of : (s : State) (r : State × Stepped) → boundary None s ≡ r → r.0.events ≡ s.events → (boundary None s).0.events ≡ s.events
events_of s r e h = ap (λ (x : State × Stepped). x.0.events) e ∙ h

-- the first event is due
due : (s : State) (tape : List Event) (what : What) → s.stopped ≡ None → upcoming_of s ≡ upcoming.Event what →
    FirstDue s.cycle s.events → Follows (boundary None s) tape → boundary None (with_tape tape s) ≡ taped tape (boundary None s)
due s tape what n e first f =
    let out = comes_out s (upcoming.Event what) n e in
    let follows : Follows (carried_out (upcoming.Event what) (begun s)) tape = subst (λ (r : State × Stepped). Follows r tape) out f in
    let from : IsFrom first.event.cycle tape = from_later first.event.cycle (s.cycle + cycles_of what) tape (omega (arith, first.due)) follows.from in
    let all : joined s.events tape ≡ first.event ∷ joined first.rest tape =
    ap (λ (events : List Event). joined events tape) first.had ∙ event_first first.event first.rest tape from in
    let left : later_events (joined s.events tape) ≡ joined (later_events s.events) tape =
    ap later_events all ∙ sym (ap (λ (events : List Event). joined (later_events events) tape) first.had) in
    along s (upcoming.Event what) tape n e (ap (due_event s.cycle) all ∙ sym (ap (due_event s.cycle) first.had))
    (ap (λ (events : List Event). passes (happened s.cycle what s.processor) (cycles_of what) (record (begun s) { events = events })) left)

comes_taped : (u : Upcoming) (s : State) (tape : List Event) → s.stopped ≡ None → upcoming_of s ≡ u → Applies u s → Follows (boundary None s) tape →
    boundary None (with_tape tape s) ≡ taped tape (boundary None s)
comes_taped (upcoming.Stop why) s tape n e a f =
    none_left s tape (f.none why (ap (λ (r : State × Stepped). r.0.stopped) (comes_out s (upcoming.Stop why) n e)))
comes_taped (upcoming.Event what) s tape n e a f = due s tape what n e (first_due s.cycle s.events what a.1) f
comes_taped (upcoming.Timer t) s tape n e a f =
    along s (upcoming.Timer t) tape n e (undue s tape a.1 (events_of s _ (comes_out s _ n e) refl) f) refl
comes_taped (upcoming.Interrupt r) s tape n e a f =
    along s (upcoming.Interrupt r) tape n e (undue s tape a.0.none_due (events_of s _ (comes_out s _ n e) refl) f) refl
comes_taped (upcoming.Order order) s tape n e a f =
    along s (upcoming.Order order) tape n e (undue s tape a.0.none_due (events_of s _ (comes_out s _ n e) (order_keeps_events (begun s))) f) (order_taped (begun s) tape)

stopped_taped : (stopped : Option Stop) (s : State) (tape : List Event) → s.stopped ≡ stopped → Follows (boundary None s) tape →
    boundary None (with_tape tape s) ≡ taped tape (boundary None s)
stopped_taped (Some why) s tape e f =
    none_left s tape (f.none why (ap (λ (r : State × Stepped). r.0.stopped) (stopped_stays s why e) ∙ e))
stopped_taped None s tape e f = comes_taped (upcoming_of s) s tape e refl (upcoming_applies s e) f

-- a boundary without a live event, with the tape of what comes after it among the events
pub none_taped : (s : State) (tape : List Event) → Follows (boundary None s) tape → boundary None (with_tape tape s) ≡ taped tape (boundary None s)
none_taped s tape f = stopped_taped s.stopped s tape refl f

-- what a due event leaves
abbrev pub after_event : State → Event → List Event → State × Stepped
after_event s event rest = passes (happened s.cycle event.what s.processor) (cycles_of event.what) (record s { events = rest })

-- a boundary at which an event is due
event_boundary : (s : State) (event : Event) (rest : List Event) → s.stopped ≡ None → s.cycle < s.limit → s.events ≡ event ∷ rest →
    event.cycle ≤ s.cycle → boundary None s ≡ after_event (begun s) event rest
event_boundary s event rest n l e d =
    let test : nat_le event.cycle s.cycle ≡ true = grind (arith, nat_tests) in
    let is_due : due_event s.cycle s.events ≡ Some event.what = ap (due_event s.cycle) e ∙ rw test refl in
    comes_out s (upcoming.Event event.what) n (event_upcoming s event.what n l is_due)
    ∙ ap (λ (events : List Event). after_event (begun s) event (later_events events)) e

pub live_first : (events : List Event) (entry : Event) (tape : List Event) → IsBefore entry.cycle events →
    joined events (entry ∷ tape) ≡ entry ∷ joined events tape
live_first [] entry tape b = joined_given_last entry tape
live_first (event ∷ events) entry tape b = joined_given_first event events entry tape b

-- a boundary with a wanted live event: the event happens
pub live_happens : (s : State) (what : What) → WantsKey s →
    boundary (Some what) s ≡ after_event (begun (fed (Some what) s)) (live_event s what) s.events
unfolding boundary
live_happens s what w = event_boundary (fed (Some what) s) (live_event s what) s.events w.runs w.below refl (omega arith)

-- it is one without, if the tape begins with that event
pub live_taped : (s : State) (what : What) (tape : List Event) → WantsKey s →
    boundary None (with_tape (live_event s what ∷ tape) s) ≡ taped tape (boundary (Some what) s)
live_taped s what tape w =
    event_boundary (with_tape (live_event s what ∷ tape) s) (live_event s what) (joined s.events tape) w.runs w.below
    (live_first s.events (live_event s what) tape w.none_due) (omega arith)
    ∙ ap (taped tape) (sym (live_happens s what w))

never_back : (s : State) (r : State × Stepped) → Falls s r → s.cycle ≤ r.0.cycle
never_back s (t, stepped.Quiet) f = f.1
never_back s (t, stepped.Wrote write) f = omega arith
never_back s (t, stepped.Stopped why) f = f.1

-- a tape begins no earlier than its chain
pub tape_from : (lives : List (Option What)) (s : State) → IsFrom s.cycle (tape_of lives s)
unfolding tape_of
tape_from [] s = tt
tape_from (Some what ∷ lives) s = omega arith
tape_from (None ∷ lives) s =
    let t : State = (boundary None s).0 in
    from_later s.cycle t.cycle (tape_of lives t) (never_back s (boundary None s) (boundary_falls s)) (tape_from lives t)

-- a stopped machine takes no live event
no_tape : (lives : List (Option What)) (s : State) (why : Stop) → AreWanted lives s → s.stopped ≡ Some why → tape_of lives s ≡ []
unfolding tape_of AreWanted
no_tape [] s why w e = refl
no_tape (Some what ∷ lives) s why w e = let runs : s.stopped ≡ None = w.0.runs in cc
no_tape (None ∷ lives) s why w e =
    no_tape lives (boundary None s).0 why w (ap (λ (r : State × Stepped). r.0.stopped) (stopped_stays s why e) ∙ e)

pub tape_follows : (lives : List (Option What)) (r : State × Stepped) → AreWanted lives r.0 → Follows r (tape_of lives r.0)
tape_follows lives r w = record { from = tape_from lives r.0; none = λ why e. no_tape lives r.0 why w e }

-- the chain after a boundary
abbrev chain_from : (lives : List (Option What)) → State × Stepped → Chain
chain_from lives r = let rest = chain lives r.0 in record { answers = r.1 ∷ rest.answers; last = rest.last }

-- the chain of a live run, replayed without live events
pub chain_replays : (lives : List (Option What)) (s : State) → AreWanted lives s →
    chain (replicate (length lives) None) (with_tape (tape_of lives s) s) ≡ chain lives s
unfolding chain tape_of AreWanted
chain_replays [] s w = ap (λ (events : List Event). record { answers = []; last = record s { events = events } }) (joined_none s.events)
chain_replays (Some what ∷ lives) s w =
    let t : State = (boundary (Some what) s).0 in
    ap (chain_from (replicate (length lives) None)) (live_taped s what (tape_of lives t) w.0)
    ∙ ap (λ (rest : Chain). record { answers = (boundary (Some what) s).1 ∷ rest.answers; last = rest.last }) (chain_replays lives t w.1)
chain_replays (None ∷ lives) s w =
    let t : State = (boundary None s).0 in
    ap (chain_from (replicate (length lives) None)) (none_taped s (tape_of lives t) (tape_follows lives (boundary None s) w))
    ∙ ap (λ (rest : Chain). record { answers = (boundary None s).1 ∷ rest.answers; last = rest.last }) (chain_replays lives t w)

-- the run of a state that has stopped
stopped_run : (s : State) (why : Stop) → s.stopped ≡ Some why → run_of s ≡ record { writes = []; last = s }
stopped_run s why e = run_at_stop s s why (next_at_stop s s why (sym (stopped_stays s why e)))

run_after_quiet : (s t : State) → (t, stepped.Quiet) ≡ boundary None s → run_of s ≡ run_of t
run_after_quiet s t e =
    run_by_next s ∙ ap (while_writing run_of) (sym (next_after_quiet s t e)) ∙ sym (run_by_next t)

stop_stays_in : (s t : State) (why : Stop) → (t, stepped.Stopped why) ≡ boundary None s → t.stopped ≡ Some why
stop_stays_in s t why e = (subst (Falls s) (sym e) (boundary_falls s)).0

-- a run by its first boundary
run_by_boundary : (s : State) (r : State × Stepped) (rest : Chain) → r ≡ boundary None s → run_of r.0 ≡ run_in rest →
    run_of s ≡ run_in (record { answers = r.1 ∷ rest.answers; last = rest.last })
unfolding writes_in
run_by_boundary s (t, stepped.Quiet) rest e h = run_after_quiet s t e ∙ h
run_by_boundary s (t, stepped.Wrote write) rest e h =
    run_at_write s t write (next_at_write s t write e) ∙ ap (λ (run : Run). record { writes = write ∷ run.writes; last = run.last }) h
run_by_boundary s (t, stepped.Stopped why) rest e h =
    run_at_stop s t why (next_at_stop s t why e) ∙ sym (stopped_run t why (stop_stays_in s t why e)) ∙ h

some_why : (o : Option Stop) (s : State) → s.stopped ≡ o → IsSome o → run_of s ≡ record { writes = []; last = s }
some_why (Some why) s e h = stopped_run s why e
some_why None s e h = cc

-- a plain chain that has stopped is the run
pub chain_is_run : (n : ℕ) (s : State) → IsSome (chain (replicate n None) s).last.stopped → run_of s ≡ run_in (chain (replicate n None) s)
unfolding chain writes_in
chain_is_run zero s h = some_why s.stopped s refl h
chain_is_run (suc n) s h = run_by_boundary s (boundary None s) (chain (replicate n None) (boundary None s).0) refl (chain_is_run n (boundary None s).0 h)

-- a live run that has stopped is the run on the joined events
pub live_run_replays : (lives : List (Option What)) (s : State) → AreWanted lives s → IsSome (chain lives s).last.stopped →
    run_of (with_tape (tape_of lives s) s) ≡ run_in (chain lives s)
live_run_replays lives s w h =
    let same : chain (replicate (length lives) None) (with_tape (tape_of lives s) s) ≡ chain lives s = chain_replays lives s w in
    chain_is_run (length lives) (with_tape (tape_of lives s) s) (subst (λ (c : Chain). IsSome c.last.stopped) (sym same) h) ∙ ap run_in same

-- a boundary shows only writes to channels from 5 to 777 octal
pub boundary_shows : (live : Option What) (s : State) (r : State × Stepped) → r ≡ boundary live s → HasChannel r.1
unfolding boundary
boundary_shows live s r e =
    let t : State = fed live s in subst (λ (x : State × Stepped). HasChannel x.1) (sym e) (falls_shows t (boundary None t) (boundary_falls t))

comes_shown : (s : State) (r : State × Next) → Comes s r → HasNextChannel r.1
comes_shown s (t, next.Wrote write) c = c.3
comes_shown s (t, next.Stopped why) c = tt

-- and so does the next write
pub next_shows : (s : State) (r : State × Next) → r ≡ next_of s → HasNextChannel r.1
next_shows s r e = subst (λ (x : State × Next). HasNextChannel x.1) (sym e) (comes_shown s (next_of s) (next_comes s))

-- it leaves the events as they were, and returns nothing
pub live_keeps_events : (s : State) (what : What) → WantsKey s → (boundary (Some what) s).0.events ≡ s.events
live_keeps_events s what w = ap (λ (r : State × Stepped). r.0.events) (live_happens s what w)

pub live_is_quiet : (s : State) (what : What) → WantsKey s → (boundary (Some what) s).1 ≡ stepped.Quiet
live_is_quiet s what w = ap (λ (r : State × Stepped). r.1) (live_happens s what w)
