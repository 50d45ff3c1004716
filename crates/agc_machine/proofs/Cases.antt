-- What comes next: which case it is, and that the boundary carries it out.
use Rattle.std.proofs.Common.{◌≡◌, ℕ, ◌<◌, ◌≤◌, List, [], ◌∷◌, Option, Some, None, Bool, true, false, refl, ap, sym, ◌∙◌, subst, arith}
use Rattle.std.specs.Prelude.{nat_le, if◌then◌else◌, option_map}
use Rattle.std.proofs.lemmas.Bool.Decides.{nat_tests}
use Rattle.agc_script.specs.declared.event.Event.{Event}
use Rattle.agc_script.specs.declared.event.What.{What}
use Rattle.agc_processor.specs.Interrupt.{pending}
use Rattle.agc_processor.specs.Timer.{due_timer}
use Rattle.agc_processor.specs.declared.interrupt.Rupt.{Rupt}
use Rattle.agc_processor.specs.declared.timer.Timer.{Timer}
use Rattle.agc_machine.specs.Boundary.{Applies, HappensNext, IsBefore, IsClockQuiet, address_comes, boundary, carried_out, due_event, event_comes, in_hand, interrupt_comes, is_reached, limit_comes, order_comes, stop_again, timer_comes, unless_stopped, upcoming_of, ◌otherwise◌}
use Rattle.agc_machine.specs.State.{State}
use Rattle.agc_machine.specs.declared.answer.Stepped.{Stepped}
use Rattle.agc_machine.specs.declared.answer.Stepped.TheVariants as stepped
use Rattle.agc_machine.specs.declared.answer.Stop.{Stop}
use Rattle.agc_machine.specs.declared.answer.Stop.TheVariants as stop
use Rattle.agc_machine.specs.declared.upcoming.Upcoming.{Upcoming}
use Rattle.agc_machine.specs.declared.upcoming.Upcoming.TheVariants as upcoming

-- the first event left is due, or none is
pub none_due : (cycle : ℕ) (events : List Event) → IsBefore cycle events → due_event cycle events ≡ None
none_due cycle [] h = refl
none_due cycle (event ∷ rest) h = let f : nat_le event.cycle cycle ≡ false = grind (arith, nat_tests) in rw f refl

before_by : (b : Bool) (cycle : ℕ) (event : Event) (rest : List Event) → nat_le event.cycle cycle ≡ b →
    (if b then Some event.what else None) ≡ None → IsBefore cycle (event ∷ rest)
before_by true cycle event rest e h = cc
before_by false cycle event rest e h = grind (arith, nat_tests)

is_before : (cycle : ℕ) (events : List Event) → due_event cycle events ≡ None → IsBefore cycle events
is_before cycle [] h = tt
is_before cycle (event ∷ rest) h = before_by (nat_le event.cycle cycle) cycle event rest refl h

-- the first of some events is due
pub record FirstDue (cycle : ℕ) (events : List Event) : Type 0 where
  pub event : Event
  pub rest : List Event
  pub had : events ≡ event ∷ rest
  pub due : event.cycle ≤ cycle

due_by : (b : Bool) (cycle : ℕ) (event : Event) (rest : List Event) (what : What) → nat_le event.cycle cycle ≡ b →
    (if b then Some event.what else None) ≡ Some what → FirstDue cycle (event ∷ rest)
due_by true cycle event rest what e h = record { event = event; rest = rest; had = refl; due = grind (arith, nat_tests) }
due_by false cycle event rest what e h = cc

pub first_due : (cycle : ℕ) (events : List Event) (what : What) → due_event cycle events ≡ Some what → FirstDue cycle events
first_due cycle [] what h = cc
first_due cycle (event ∷ rest) what h = due_by (nat_le event.cycle cycle) cycle event rest what refl h

-- from each case, what comes applies
address_applies : (b : Bool) (s : State) → is_reached s.until s.processor ≡ b → IsClockQuiet s → pending s.processor ≡ None →
    Applies ((if b then Some (upcoming.Stop stop.Reached) else None) otherwise order_comes s) s
address_applies true s e q n = (q, n, e)
address_applies false s e q n = (q, n, e, refl)

interrupt_applies : (o : Option Rupt) (s : State) → pending s.processor ≡ o → IsClockQuiet s →
    Applies (option_map (λ r. upcoming.Interrupt r) o otherwise address_comes s otherwise order_comes s) s
interrupt_applies (Some r) s e q = (q, e)
interrupt_applies None s e q = address_applies (is_reached s.until s.processor) s refl q e

timer_applies : (o : Option Timer) (s : State) → due_timer s.cycle s.processor ≡ o → s.cycle < s.limit → IsBefore s.cycle s.events →
    Applies (option_map (λ t. upcoming.Timer t) o otherwise interrupt_comes s otherwise address_comes s otherwise order_comes s) s
timer_applies (Some t) s e l b = (l, b, e)
timer_applies None s e l b = interrupt_applies (pending s.processor) s refl (record { below = l; none_due = b; no_timer = e })

event_applies : (o : Option What) (s : State) → due_event s.cycle s.events ≡ o → s.cycle < s.limit →
    Applies (option_map (λ what. upcoming.Event what) o otherwise timer_comes s otherwise interrupt_comes s otherwise address_comes s otherwise order_comes s) s
event_applies (Some what) s e l = (l, e)
event_applies None s e l = timer_applies (due_timer s.cycle s.processor) s refl l (is_before s.cycle s.events e)

limit_applies : (b : Bool) (s : State) → nat_le s.limit s.cycle ≡ b →
    Applies ((if b then Some (upcoming.Stop stop.Limit) else None) otherwise event_comes s otherwise timer_comes s otherwise interrupt_comes s otherwise address_comes s otherwise order_comes s) s
limit_applies true s e = grind (arith, nat_tests)
limit_applies false s e = event_applies (due_event s.cycle s.events) s refl (grind (arith, nat_tests))

pub upcoming_applies : (s : State) → s.stopped ≡ None → Applies (upcoming_of s) s
unfolding upcoming_of
upcoming_applies s e =
    subst (λ (o : Option Stop). Applies (stop_again o otherwise limit_comes s otherwise event_comes s otherwise timer_comes s otherwise interrupt_comes s otherwise address_comes s otherwise order_comes s) s)
    (sym e) (limit_applies (nat_le s.limit s.cycle) s refl)

-- what comes does not depend on whether the machine has begun
pub applies_begun : (s : State) (u : Upcoming) → s.stopped ≡ None → u ≡ upcoming_of s → Applies u (record s { begun = true })
unfolding upcoming_of
applies_begun s u n e = subst (λ (u : Upcoming). Applies u (record s { begun = true })) (sym e) (upcoming_applies (record s { begun = true }) n)

-- a due event comes below the limit
pub event_upcoming : (s : State) (what : What) → s.stopped ≡ None → s.cycle < s.limit → due_event s.cycle s.events ≡ Some what →
    upcoming_of s ≡ upcoming.Event what
unfolding upcoming_of
event_upcoming s what e l d = let f : nat_le s.limit s.cycle ≡ false = grind (arith, nat_tests) in rw (e, f, d) refl

-- if the clock brings nothing, an interrupt, the stop address or the order comes
clock_quiet : (s : State) → s.stopped ≡ None → IsClockQuiet s →
    upcoming_of s ≡ (interrupt_comes s otherwise address_comes s otherwise order_comes s)
unfolding upcoming_of
clock_quiet s e q =
    let f : nat_le s.limit s.cycle ≡ false = grind (arith, nat_tests, q.below) in
    rw (e, f, none_due s.cycle s.events q.none_due, q.no_timer) refl

pub interrupt_upcoming : (s : State) (r : Rupt) → s.stopped ≡ None → IsClockQuiet s → pending s.processor ≡ Some r →
    upcoming_of s ≡ upcoming.Interrupt r
interrupt_upcoming s r e q n = clock_quiet s e q ∙ rw n refl

pub address_upcoming : (s : State) → s.stopped ≡ None → IsClockQuiet s → pending s.processor ≡ None → is_reached s.until s.processor ≡ true →
    upcoming_of s ≡ upcoming.Stop stop.Reached
address_upcoming s e q n r = clock_quiet s e q ∙ rw (n, r) refl

pub order_upcoming : (s : State) → s.stopped ≡ None → IsClockQuiet s → pending s.processor ≡ None → is_reached s.until s.processor ≡ false →
    upcoming_of s ≡ upcoming.Order (in_hand s.processor)
order_upcoming s e q n r = clock_quiet s e q ∙ rw (n, r) refl

-- what comes is the same if the same event is due
pub same_upcoming : (s : State) (events : List Event) → due_event s.cycle events ≡ due_event s.cycle s.events →
    upcoming_of (record s { events = events }) ≡ upcoming_of s
unfolding upcoming_of
same_upcoming s events e =
    ap (λ (o : Option What). stop_again s.stopped otherwise limit_comes s otherwise option_map (λ what. upcoming.Event what) o otherwise timer_comes s otherwise interrupt_comes s otherwise address_comes s otherwise order_comes s) e

-- a stopped machine returns its stop again
stop_is_reported : (o : Option Stop) (why : Stop) (rest : Upcoming) → o ≡ Some why → (stop_again o otherwise rest) ≡ upcoming.Stop why
stop_is_reported (Some other) why rest e = cc
stop_is_reported None why rest e = cc

stop_upcoming : (s : State) (why : Stop) → s.stopped ≡ Some why → upcoming_of s ≡ upcoming.Stop why
unfolding upcoming_of
stop_upcoming s why e = stop_is_reported s.stopped why _ e

runs_on : (o : Option Stop) (s : State) → o ≡ None → unless_stopped o s ≡ carried_out (upcoming_of s) (record s { begun = true })
runs_on (Some why) s e = cc
runs_on None s e = refl

pub upcoming_comes : (s : State) → HappensNext s (upcoming_of s)
unfolding boundary
upcoming_comes s = record { stays = stop_upcoming s; comes = runs_on s.stopped s }

pub reported_comes : (s t : State) (reported : Upcoming) → s ≡ t → reported ≡ upcoming_of s → HappensNext t reported
reported_comes s t reported e f = subst (λ u. HappensNext u reported) e (subst (λ u. HappensNext s u) (sym f) (upcoming_comes s))

by_stop : (o : Option Stop) (P : State × Stepped → Type 0) (s : State) → s.stopped ≡ o → ((why : Stop) → s.stopped ≡ Some why → P (s, stepped.Stopped why)) →
    (s.stopped ≡ None → P (carried_out (upcoming_of s) (record s { begun = true }))) → P (unless_stopped o s)
by_stop (Some why) P s e stays comes = stays why e
by_stop None P s e stays comes = comes e

-- what is true after a stop and after whatever applies is true after every boundary
pub by_cases : (P : State × Stepped → Type 0) (s : State) → ((why : Stop) → s.stopped ≡ Some why → P (s, stepped.Stopped why)) →
    ((u : Upcoming) → Applies u s → P (carried_out u (record s { begun = true }))) → P (boundary None s)
unfolding boundary
by_cases P s stays comes = by_stop s.stopped P s refl stays (λ e. comes (upcoming_of s) (upcoming_applies s e))
