-- When the clock brings nothing, and what can then come before the order in hand: what the machine
-- keeps beside its state, so that orders in quiet check one number.
use Rattle.std.specs.Prelude.{◌≡◌, ℕ, ◌<◌, ◌≤◌, ◌⊎◌, Bool, true, false, List, [], ◌∷◌, Option, None, Some}
use Rattle.agc_script.specs.declared.event.Event.{Event}
use Rattle.agc_processor.specs.Channel.{switch_word}
use Rattle.agc_processor.specs.Interrupt.{first_request}
use Rattle.agc_processor.specs.Timer.{is_any_due}
use Rattle.agc_processor.specs.declared.interrupt.Rupt.{Rupt}
use Rattle.agc_machine.specs.Boundary.{IsBefore}
use Rattle.agc_machine.specs.State.{State}
use Rattle.agc_machine.specs.declared.quiet.Pace.{Pace}
use Rattle.agc_machine.specs.declared.quiet.Pace.TheVariants as pace
use Rattle.agc_machine.specs.declared.stop_address.StopAddress.{StopAddress}

-- a machine that has begun and has not stopped
pub record IsGoing (s : State) : Type 0 where
  pub begun : s.begun ≡ true
  pub runs : s.stopped ≡ None

-- a timer's step is due at a cycle
abbrev pub is_timer_due : ℕ → State → Bool
is_timer_due cycle s = is_any_due cycle s.processor.timers (switch_word s.processor)

-- below this cycle the clock brings nothing: no limit, no event and no timer's step, whatever
-- orders run and whatever interrupts are taken
pub record IsQuiet (until : ℕ) (s : State) : Type 0 where
  pub going : IsGoing s
  pub limit : (cycle : ℕ) → cycle < until → cycle < s.limit
  pub events : (cycle : ℕ) → cycle < until → IsBefore cycle s.events
  pub timers : (cycle : ℕ) → cycle < until → is_timer_due cycle s ≡ false

-- What a pace leaves out cannot come: without a request no interrupt, and without a stop address no
-- stop. A held pace leaves nothing out.
abbrev pub Serves : Pace → State → Type 0
Serves pace.Bare s = (first_request s.processor ≡ None) × (s.until ≡ None)
Serves pace.Watched s = first_request s.processor ≡ None
Serves pace.Held s = Unit {0}

-- the pace that leaves out the most
abbrev pub pace_by : Option Rupt → Option StopAddress → Pace
pace_by None None = pace.Bare
pace_by None (Some at) = pace.Watched
pace_by (Some request) at = pace.Held

abbrev pub pace_of : State → Pace
pace_of s = pace_by (first_request s.processor) s.until

-- the first event left is due at a cycle
abbrev pub IsEventDue : ℕ → List Event → Type 0
IsEventDue cycle [] = ⊥
IsEventDue cycle (event ∷ rest) = event.cycle ≤ cycle

-- at this cycle the clock brings something: the limit, an event or a timer's step
abbrev pub IsDue : ℕ → State → Type 0
IsDue cycle s = (s.limit ≤ cycle) ⊎ (IsEventDue cycle s.events ⊎ (is_timer_due cycle s ≡ true))

-- the longest quiet possible: the cycle up to which it is quiet brings something
abbrev pub IsLongest : ℕ → State → Type 0
IsLongest until s = IsGoing s → IsDue until s
