-- The boundary: what comes next, carried out. Of all that may happen between two orders, only the
-- first that applies comes.
use Rattle.std.specs.Prelude.{◌≡◌, ℕ, ◌<◌, ◌≤◌, ◌+◌, ◌%◌, ◌==◌, ◌&&◌, Bool, true, false, List, [], ◌∷◌}
use Rattle.std.specs.Prelude.{Option, Some, None, nat_lt, nat_le, option_map, if◌then◌else◌}
use Rattle.agc_word.specs.declared.channel_write.ChannelWrite.{ChannelWrite}
use Rattle.agc_store.specs.Memory.{erasable_bank, selected_bank}
use Rattle.agc_store.specs.Places.{erasable_window, fixed_fixed, fixed_window}
use Rattle.agc_script.specs.declared.event.Event.{Event}
use Rattle.agc_script.specs.declared.event.What.{What}
use Rattle.agc_script.specs.declared.event.What.TheVariants as what
use Rattle.agc_script.specs.declared.key.Key.{Key}
use Rattle.agc_processor.specs.declared.processor.Processor.{Processor}
use Rattle.agc_processor.specs.declared.processor.Halt.{Halt}
use Rattle.agc_processor.specs.declared.processor.Halt.TheVariants as halt
use Rattle.agc_processor.specs.declared.processor.Ran.{Ran}
use Rattle.agc_processor.specs.declared.processor.Ran.TheVariants as ran
use Rattle.agc_processor.specs.Effect.{order_effect, write_cycles}
use Rattle.agc_processor.specs.Interrupt.{interrupt_cycles, interrupted, pending}
use Rattle.agc_processor.specs.Processor.{z_at}
use Rattle.agc_processor.specs.Timer.{due_timer, timer_step}
use Rattle.agc_machine.specs.EventEffect.{happened, cycles_of}
use Rattle.agc_machine.specs.State.{State, fed}
use Rattle.agc_machine.specs.declared.answer.Stepped.{Stepped}
use Rattle.agc_machine.specs.declared.answer.Stepped.TheVariants as stepped
use Rattle.agc_machine.specs.declared.answer.Stop.{Stop}
use Rattle.agc_machine.specs.declared.answer.Stop.TheVariants as stop
use Rattle.agc_machine.specs.declared.stop_address.StopAddress.{StopAddress}
use Rattle.agc_machine.specs.declared.upcoming.InHand.{InHand}
use Rattle.agc_machine.specs.declared.upcoming.Upcoming.{Upcoming}
use Rattle.agc_machine.specs.declared.upcoming.Upcoming.TheVariants as upcoming

infixr 5 ◌otherwise◌
-- 1: the limit is reached
abbrev pub limit_comes : State → Option Upcoming
limit_comes s = if nat_le s.limit s.cycle then Some (upcoming.Stop stop.Limit) else None

-- the first event left, if it is due
abbrev pub due_event : ℕ → List Event → Option What
due_event cycle [] = None
due_event cycle (event ∷ rest) = if nat_le event.cycle cycle then Some event.what else None

-- 2: an event of the script is due
abbrev pub event_comes : State → Option Upcoming
event_comes s = option_map (λ what. upcoming.Event what) (due_event s.cycle s.events)

-- 3: a timer's step is due
abbrev pub timer_comes : State → Option Upcoming
timer_comes s = option_map (λ t. upcoming.Timer t) (due_timer s.cycle s.processor)

-- 4: an interrupt is requested and allowed
abbrev pub interrupt_comes : State → Option Upcoming
interrupt_comes s = option_map (λ r. upcoming.Interrupt r) (pending s.processor)

-- the bank of an address agrees with the requested one, in the two windows of switched banks
abbrev pub bank_agrees : StopAddress → Processor → Bool
bank_agrees at p =
    if nat_lt at.address erasable_window then true
    else if nat_lt at.address fixed_window then erasable_bank p.store.erasable == at.bank
    else if nat_lt at.address fixed_fixed then selected_bank p.store == at.bank
    else true

-- the order at the stop address, one before Z, is in hand
abbrev pub is_reached : Option StopAddress → Processor → Bool
is_reached (Some at) p = ((z_at p + 0o7777) % 0o10000 == at.address) && bank_agrees at p
is_reached None p = false

-- 5: the stop address is reached
abbrev pub address_comes : State → Option Upcoming
address_comes s =
    if is_reached s.until s.processor then Some (upcoming.Stop stop.Reached) else None

-- the bank that an address is in, in the two windows of switched banks; elsewhere 0
abbrev pub bank_of_address : ℕ → Processor → ℕ
bank_of_address address p =
    if nat_lt address erasable_window then 0
    else if nat_lt address fixed_window then erasable_bank p.store.erasable
    else if nat_lt address fixed_fixed then selected_bank p.store
    else 0

-- the order in hand, with its place, which is one before Z
unfoldable pub in_hand : Processor → InHand
in_hand p =
    let address = (z_at p + 0o7777) % 0o10000 in
    record {
      bank = bank_of_address address p;
      address = address;
      word = p.hand;
      extracode = p.extracode;
    }

-- 6: the order in hand
abbrev pub order_comes : State → Upcoming
order_comes s = upcoming.Order (in_hand s.processor)

-- a machine that has stopped returns its stop again
abbrev pub stop_again : Option Stop → Option Upcoming
stop_again stopped = option_map (λ why. upcoming.Stop why) stopped

-- what applies, otherwise what comes after it
abbrev pub ◌otherwise◌ : Option Upcoming → Upcoming → Upcoming
(Some this) otherwise that = this
None otherwise that = that

-- what the next boundary without a live event will be: the first that applies
unfoldable pub upcoming_of : State → Upcoming
upcoming_of s =
    stop_again s.stopped otherwise limit_comes s otherwise event_comes s otherwise timer_comes s
    otherwise interrupt_comes s otherwise address_comes s otherwise order_comes s

-- the machine stops, for this reason; nothing else changes, not even the cycle
abbrev pub stops : Stop → State → State × Stepped
stops why s = (record s { stopped = Some why }, stepped.Stopped why)

-- some cycles pass without anything visible outside
abbrev pub passes : Processor → ℕ → State → State × Stepped
passes p cycles s = (record s { processor = p; cycle = s.cycle + cycles }, stepped.Quiet)

-- the events after the first one left
abbrev pub later_events : List Event → List Event
later_events [] = []
later_events (event ∷ rest) = rest

-- the stop for an order that does not run
abbrev pub stop_of : Halt → Stop
stop_of halt.DivisionUndefined = stop.DivisionUndefined
stop_of halt.Edrupt = stop.Edrupt

-- an order that has run takes its cycles, shows its write, or stops the machine
abbrev pub ran_order : State → Processor × Ran → State × Stepped
ran_order s (p, ran.Quiet cycles) = passes p cycles s
ran_order s (p, ran.Wrote channel value) =
    let write : ChannelWrite = record { cycle = s.cycle; channel = channel; value = value } in
    (record s { processor = p; cycle = s.cycle + write_cycles }, stepped.Wrote write)
ran_order s (p, ran.Halted why) = stops (stop_of why) (record s { processor = p })

-- the order in hand runs
unfoldable pub by_order : State → State × Stepped
by_order s = ran_order s (order_effect s.cycle s.processor)

-- What comes is carried out: the machine stops, the first event left happens, the timer steps, the
-- interrupt is taken, which takes 3 cycles, or the order in hand runs.
abbrev pub carried_out : Upcoming → State → State × Stepped
carried_out (upcoming.Stop why) s = stops why s
carried_out (upcoming.Event what) s =
    let p = happened s.cycle what s.processor in
    passes p (cycles_of what) (record s { events = later_events s.events })
carried_out (upcoming.Timer t) s = let step = timer_step t s.processor in passes step.0 step.1 s
carried_out (upcoming.Interrupt r) s = passes (interrupted r s.processor) interrupt_cycles s
carried_out (upcoming.Order order) s = by_order s

-- a stopped machine does not change; in any other, what comes is carried out, and the machine has
-- begun
abbrev pub unless_stopped : Option Stop → State → State × Stepped
unless_stopped (Some why) s = (s, stepped.Stopped why)
unless_stopped None s = carried_out (upcoming_of s) (record s { begun = true })

-- a live key as a live event
abbrev pub pressed_live : Option Key → Option What
pressed_live (Some key) = Some (what.Key key)
pressed_live None = None

-- one boundary, with or without a live event
unfoldable pub boundary : Option What → State → State × Stepped
boundary live s = let with_live = fed live s in unless_stopped with_live.stopped with_live

-- The boundary does what comes: if the machine has stopped nothing, and the stop is returned;
-- otherwise a machine that has begun carries out what comes.
pub record HappensNext (s : State) (reported : Upcoming) : Type 0 where
  pub stays : (why : Stop) → s.stopped ≡ Some why → reported ≡ upcoming.Stop why
  pub comes : s.stopped ≡ None → boundary None s ≡ carried_out reported (record s { begun = true })

-- no event left is due at the present cycle
abbrev pub IsBefore : ℕ → List Event → Type 0
IsBefore cycle [] = Unit {0}
IsBefore cycle (event ∷ rest) = cycle < event.cycle

-- at the present cycle the clock brings nothing: no limit, event or timer's step
pub record IsClockQuiet (s : State) : Type 0 where
  pub below : s.cycle < s.limit
  pub none_due : IsBefore s.cycle s.events
  pub no_timer : due_timer s.cycle s.processor ≡ None

-- Which case applies, in a machine that has not stopped: what comes does, and none before it.
abbrev pub Applies : Upcoming → State → Type 0
Applies (upcoming.Stop stop.Limit) s = s.limit ≤ s.cycle
Applies (upcoming.Event what) s =
    (s.cycle < s.limit) × (due_event s.cycle s.events ≡ Some what)
Applies (upcoming.Timer t) s =
    (s.cycle < s.limit) × IsBefore s.cycle s.events × (due_timer s.cycle s.processor ≡ Some t)
Applies (upcoming.Interrupt r) s = IsClockQuiet s × (pending s.processor ≡ Some r)
Applies (upcoming.Stop stop.Reached) s =
    IsClockQuiet s × (pending s.processor ≡ None) × (is_reached s.until s.processor ≡ true)
Applies (upcoming.Order order) s =
    IsClockQuiet s × (pending s.processor ≡ None) × (is_reached s.until s.processor ≡ false)
    × (order ≡ in_hand s.processor)
Applies (upcoming.Stop stop.DivisionUndefined) s = ⊥
Applies (upcoming.Stop stop.Edrupt) s = ⊥

-- a live key, like any live event, is allowed if it happens at once: not after the stop, nor at the
-- limit, nor before events that are due
pub record WantsKey (s : State) : Type 0 where
  pub runs : s.stopped ≡ None
  pub below : s.cycle < s.limit
  pub none_due : IsBefore s.cycle s.events

-- an order's bank has enough digits: two for a bank, and one for an erasable bank
abbrev pub HasPlace : Upcoming → Type 0
HasPlace (upcoming.Order order) =
    (order.bank < 0o50) × (order.address < fixed_window → order.bank < 0o10)
HasPlace (upcoming.Stop why) = Unit {0}
HasPlace (upcoming.Event what) = Unit {0}
HasPlace (upcoming.Timer t) = Unit {0}
HasPlace (upcoming.Interrupt r) = Unit {0}
