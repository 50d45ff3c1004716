-- The chain of boundaries comes to its end: what is left falls with each boundary, and extra boundaries change nothing.
use Rattle.std.proofs.Common.{◌≡◌, ℕ, ◌+◌, ◌≤◌, ◌<◌, suc, zero, List, [], ◌∷◌, length, Option, Some, None, true, refl, ap, sym, ◌∙◌, subst, arith, lit≤}
use Rattle.std.specs.Prelude.{IsSome}
use Rattle.agc_word.specs.declared.pulse.Carry.{Carry}
use Rattle.agc_word.specs.declared.pulse.Carry.TheVariants as carry
use Rattle.agc_word.specs.declared.channel_write.ChannelWrite.{ChannelWrite}
use Rattle.agc_script.specs.declared.event.Event.{Event}
use Rattle.agc_script.specs.declared.event.What.{What}
use Rattle.agc_machine.specs.declared.answer.Stepped.{Stepped}
use Rattle.agc_machine.specs.declared.answer.Stepped.TheVariants as stepped
use Rattle.agc_machine.specs.declared.answer.Stop.{Stop}
use Rattle.agc_machine.specs.declared.answer.Next.{Next}
use Rattle.agc_machine.specs.declared.answer.Next.TheVariants as next
use Rattle.agc_processor.specs.declared.processor.Processor.{Processor}
use Rattle.agc_processor.specs.declared.processor.Ran.{Ran}
use Rattle.agc_processor.specs.declared.processor.Ran.TheVariants as ran
use Rattle.agc_machine.specs.declared.upcoming.Upcoming.{Upcoming}
use Rattle.agc_machine.specs.declared.upcoming.Upcoming.TheVariants as upcoming
use Rattle.agc_machine.specs.Boundary.{Applies, boundary, by_order, carried_out, due_event, later_events, ran_order, unless_stopped}
use Rattle.agc_machine.proofs.Cases.{by_cases}
use Rattle.agc_processor.specs.Effect.{order_effect, IsOrderly}
use Rattle.agc_processor.specs.Timer.{timer_step, time1_step, time2_by, time3_step, time4_step, time5_step, time6_step}
use Rattle.agc_processor.specs.declared.timer.Timer.{Timer}
use Rattle.agc_processor.specs.declared.timer.Timer.TheVariants as timer
use Rattle.agc_machine.specs.Run.{Run, boundaries_left, next_within, next_of, while_quiet, run_within, run_of, while_writing}
use Rattle.agc_machine.specs.Laws.{Falls, Comes, AreRising, after}
use Rattle.agc_machine.specs.State.{State}
use Rattle.agc_processor.proofs.Orderly.{order_effect-orderly}

order_falls : (s : State) (r : Processor × Ran) → s.cycle < s.limit → IsOrderly r.1 → Falls s (ran_order s r)
unfolding boundaries_left
order_falls s (p, ran.Quiet cycles) h o = (omega arith, omega arith)
order_falls s (p, ran.Wrote channel value) h o = (omega arith, refl, omega arith, o)
order_falls s (p, ran.Halted why) h o = (refl, omega arith)

by_order_falls : (s : State) → s.cycle < s.limit → Falls s (by_order s)
unfolding by_order
by_order_falls s h = order_falls s (order_effect s.cycle s.processor) h (order_effect-orderly s.cycle s.processor)

-- a timer's step costs at least one cycle
time2_costs : (c : Carry) (p : Processor) → 1 ≤ (time2_by c p).1
time2_costs carry.Out p = lit≤ tt
time2_costs carry.None p = lit≤ tt

step_costs : (t : Timer) (p : Processor) → 1 ≤ (timer_step t p).1
unfolding time1_step time3_step time4_step time5_step time6_step
step_costs timer.Time1 p = time2_costs _ _
step_costs timer.Time3 p = lit≤ tt
step_costs timer.Time4 p = lit≤ tt
step_costs timer.Time5 p = lit≤ tt
step_costs timer.Time6 p = lit≤ tt

-- an event that is due is one of those left
one_fewer : (cycle : ℕ) (events : List Event) (what : What) → due_event cycle events ≡ Some what → length events ≡ suc (length (later_events events))
one_fewer cycle [] what e = cc
one_fewer cycle (event ∷ rest) what e = refl

comes_falls : (u : Upcoming) (s : State) → Applies u s → Falls s (carried_out u (record s { begun = true }))
unfolding boundaries_left
comes_falls (upcoming.Stop why) s a = (refl, omega arith)
comes_falls (upcoming.Event what) s a = let shorter = one_fewer s.cycle s.events what a.1 in (omega arith, omega arith)
comes_falls (upcoming.Timer t) s a = let costs = step_costs t s.processor in (omega arith, omega arith)
comes_falls (upcoming.Interrupt r) s a = (omega (arith, a.0.below), omega arith)
comes_falls (upcoming.Order order) s a = by_order_falls (record s { begun = true }) a.0.below

-- each boundary without a live key leaves fewer, unless it stops
pub boundary_falls : (s : State) → Falls s (boundary None s)
boundary_falls s = by_cases (Falls s) s (λ why e. (e, omega arith)) (λ u a. comes_falls u s a)

step_same : (go stay : State → State × Next) (s : State) (r : State × Stepped) → Falls s r →
    ((t : State) → boundaries_left t < boundaries_left s → go t ≡ stay t) → while_quiet go r ≡ while_quiet stay r
step_same go stay s (t, stepped.Quiet) h f = f t h.0
step_same go stay s (t, stepped.Wrote write) h f = refl
step_same go stay s (t, stepped.Stopped why) h f = refl

pub some_left : (s : State) → 1 ≤ boundaries_left s
unfolding boundaries_left
some_left s = omega arith

-- with enough boundaries, more make no difference
pub same_next : (n m : ℕ) (s : State) → boundaries_left s ≤ n → boundaries_left s ≤ m → next_within n s ≡ next_within m s
unfolding next_within
same_next zero m s h k = absurd (omega (arith, some_left s))
same_next (suc n) zero s h k = absurd (omega (arith, some_left s))
same_next (suc n) (suc m) s h k =
    step_same (next_within n) (next_within m) s (boundary None s) (boundary_falls s) (λ t l. same_next n m t (omega arith) (omega arith))

-- one boundary of the chain
pub next_by_boundary : (s : State) → next_of s ≡ while_quiet (next_within (boundaries_left s)) (boundary None s)
unfolding next_of next_within
next_by_boundary s = same_next (boundaries_left s) (suc (boundaries_left s)) s (omega arith) (omega arith)

after_quiet : (s t : State) (r : State × Stepped) → r ≡ (t, stepped.Quiet) → Falls s r → boundaries_left t < boundaries_left s
after_quiet s t r e h = (subst (Falls s) e h).0

pub fewer_after_quiet : (s t : State) → (t, stepped.Quiet) ≡ boundary None s → boundaries_left t < boundaries_left s
fewer_after_quiet s t e = after_quiet s t (boundary None s) (sym e) (boundary_falls s)

-- after a quiet boundary the next write is the same
pub next_after_quiet : (s t : State) → (t, stepped.Quiet) ≡ boundary None s → next_of t ≡ next_of s
unfolding next_of
next_after_quiet s t e =
    let fewer : boundaries_left t < boundaries_left s = fewer_after_quiet s t e in
    same_next (boundaries_left t) (boundaries_left s) t (omega arith) (omega arith) ∙ ap (while_quiet (next_within (boundaries_left s))) e ∙ sym (next_by_boundary s)

-- a boundary that writes, or that stops, is itself the next one
pub next_at_write : (s t : State) (write : ChannelWrite) → (t, stepped.Wrote write) ≡ boundary None s → (t, next.Wrote write) ≡ next_of s
next_at_write s t write e = ap (while_quiet (next_within (boundaries_left s))) e ∙ sym (next_by_boundary s)

pub next_at_stop : (s t : State) (why : Stop) → (t, stepped.Stopped why) ≡ boundary None s → (t, next.Stopped why) ≡ next_of s
next_at_stop s t why e = ap (while_quiet (next_within (boundaries_left s))) e ∙ sym (next_by_boundary s)

later_comes : (s t : State) (r : State × Next) → boundaries_left t < boundaries_left s → s.cycle ≤ t.cycle → Comes t r → Comes s r
later_comes s t (u, next.Wrote write) h k c = (omega arith, omega arith, c.2, c.3)
later_comes s t (u, next.Stopped why) h k c = (c.0, omega arith)

comes_by : (go_on : State → State × Next) (s : State) (r : State × Stepped) → Falls s r →
    ((t : State) → boundaries_left t < boundaries_left s → Comes t (go_on t)) → Comes s (while_quiet go_on r)
comes_by go_on s (t, stepped.Quiet) h f = later_comes s t (go_on t) h.0 h.1 (f t h.0)
comes_by go_on s (t, stepped.Wrote write) h f = (h.0, omega arith, omega arith, h.3)
comes_by go_on s (t, stepped.Stopped why) h f = h

within_comes : (n : ℕ) (s : State) → boundaries_left s ≤ n → Comes s (next_within n s)
unfolding next_within
within_comes zero s h = absurd (omega (arith, some_left s))
within_comes (suc n) s h = comes_by (next_within n) s (boundary None s) (boundary_falls s) (λ t l. within_comes n t (omega arith))

-- the next write or stop of any state
pub next_comes : (s : State) → Comes s (next_of s)
unfolding next_of
next_comes s = within_comes (boundaries_left s) s (omega arith)

run_step_same : (go stay : State → Run) (s : State) (r : State × Next) → Comes s r →
    ((t : State) → boundaries_left t < boundaries_left s → go t ≡ stay t) → while_writing go r ≡ while_writing stay r
run_step_same go stay s (t, next.Wrote write) h f = ap (λ (rest : Run). record rest { writes = write ∷ rest.writes }) (f t h.0)
run_step_same go stay s (t, next.Stopped why) h f = refl

same_run : (n m : ℕ) (s : State) → boundaries_left s ≤ n → boundaries_left s ≤ m → run_within n s ≡ run_within m s
unfolding run_within
same_run zero m s h k = absurd (omega (arith, some_left s))
same_run (suc n) zero s h k = absurd (omega (arith, some_left s))
same_run (suc n) (suc m) s h k =
    run_step_same (run_within n) (run_within m) s (next_of s) (next_comes s) (λ t l. same_run n m t (omega arith) (omega arith))

-- a run by its next write or stop
pub run_by_next : (s : State) → run_of s ≡ while_writing run_of (next_of s)
unfolding run_of run_within
run_by_next s =
    same_run (boundaries_left s) (suc (boundaries_left s)) s (omega arith) (omega arith)
    ∙ run_step_same (run_within (boundaries_left s)) run_of s (next_of s) (next_comes s) (λ t l. same_run (boundaries_left s) (boundaries_left t) t (omega arith) (omega arith))

-- the run of a state whose next is a write
pub run_at_write : (s t : State) (write : ChannelWrite) → (t, next.Wrote write) ≡ next_of s →
    run_of s ≡ record { writes = write ∷ (run_of t).writes; last = (run_of t).last }
run_at_write s t write e = run_by_next s ∙ ap (while_writing run_of) (sym e)

-- the run of a state whose next is the stop
pub run_at_stop : (s t : State) (why : Stop) → (t, next.Stopped why) ≡ next_of s → run_of s ≡ record { writes = []; last = t }
run_at_stop s t why e = run_by_next s ∙ ap (while_writing run_of) (sym e)

-- fewer boundaries are left after a write, so that a loop over writes can count down
pub fewer_after_write : (s t : State) (write : ChannelWrite) → (t, next.Wrote write) ≡ next_of s → boundaries_left t < boundaries_left s
fewer_after_write s t write e = (subst (Comes s) (sym e) (next_comes s)).0

-- a stop is kept in the state
pub stop_is_kept : (s t : State) (why : Stop) → (t, next.Stopped why) ≡ next_of s → t.stopped ≡ Some why
stop_is_kept s t why e = (subst (Comes s) (sym e) (next_comes s)).0

rises_later : (from later : ℕ) (writes : List ChannelWrite) → from ≤ later → AreRising later writes → AreRising from writes
rises_later from later [] h r = tt
rises_later from later (write ∷ writes) h r = (omega arith, r.1, r.2)

run_rises_by : (go_on : State → Run) (s : State) (r : State × Next) → Comes s r →
    ((t : State) → boundaries_left t < boundaries_left s → AreRising t.cycle (go_on t).writes) → AreRising s.cycle (while_writing go_on r).writes
run_rises_by go_on s (t, next.Wrote write) h f =
    (h.1, h.3, rises_later (write.cycle + 1) t.cycle (go_on t).writes (omega arith) (f t h.0))
run_rises_by go_on s (t, next.Stopped why) h f = tt

run_within_rises : (n : ℕ) (s : State) → AreRising s.cycle (run_within n s).writes
unfolding run_within
run_within_rises zero s = tt
run_within_rises (suc n) s = run_rises_by (run_within n) s (next_of s) (next_comes s) (λ t l. run_within_rises n t)

-- the writes of a run rise, and show channels from 5 to 777 octal
pub run_rises : (s : State) → AreRising s.cycle (run_of s).writes
unfolding run_of
run_rises s = run_within_rises (boundaries_left s) s

stays : (stopped : Option Stop) (s : State) (why : Stop) → stopped ≡ Some why → unless_stopped stopped s ≡ (s, stepped.Stopped why)
stays (Some other) s why e = cc
stays None s why e = cc

-- a stopped machine does not change, and returns its stop again
pub stopped_stays : (s : State) (why : Stop) → s.stopped ≡ Some why → boundary None s ≡ (s, stepped.Stopped why)
unfolding boundary
stopped_stays s why e = stays s.stopped s why e

pub stopped_for_ever : (n : ℕ) (s : State) (why : Stop) → s.stopped ≡ Some why → after n s ≡ s
unfolding after
stopped_for_ever zero s why e = refl
stopped_for_ever (suc n) s why e = ap (λ (r : State × Stepped). after n r.0) (stopped_stays s why e) ∙ stopped_for_ever n s why e

stops_by : (n : ℕ) (s : State) (r : State × Stepped) → Falls s r →
    ((t : State) → boundaries_left t < boundaries_left s → IsSome (after n t).stopped) → IsSome (after n r.0).stopped
stops_by n s (t, stepped.Quiet) h f = f t h.0
stops_by n s (t, stepped.Wrote write) h f = f t h.0
stops_by n s (t, stepped.Stopped why) h f =
    subst (λ (u : State). IsSome u.stopped) (sym (stopped_for_ever n t why h.0)) (subst (λ (o : Option Stop). IsSome o) (sym h.0) refl)

-- no run has more boundaries than are left at its start
pub stops_in_time : (n : ℕ) (s : State) → boundaries_left s ≤ n → IsSome (after n s).stopped
unfolding after
stops_in_time zero s h = absurd (omega (arith, some_left s))
stops_in_time (suc n) s h = stops_by n s (boundary None s) (boundary_falls s) (λ t l. stops_in_time n t (omega arith))

pub next_of_stopped : (s : State) (why : Stop) → s.stopped ≡ Some why → next_of s ≡ (s, next.Stopped why)
next_of_stopped s why e = sym (next_at_stop s s why (sym (stopped_stays s why e)))
