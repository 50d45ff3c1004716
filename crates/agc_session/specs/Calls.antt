-- The steps by calls: over one, or out of one, forward and back, each as the condition at which it ends.
use Rattle.std.specs.Prelude.{ℕ, ◌+◌, ◌-◌, ◌%◌, nat_le, nat_lt, Bool, not, ◌&&◌, ◌||◌, Option, Some, None, if◌then◌else◌}
use Rattle.agc_word.specs.Arithmetic.{narrow_of}
use Rattle.agc_word.specs.Number.{pattern_of}
use Rattle.agc_store.specs.Cells.{fetch_of}
use Rattle.agc_store.specs.Memory.{Memory}
use Rattle.agc_store.specs.Places.{fixed_window, q_cell}
use Rattle.agc_store.specs.Registers.{register, z_of}
use Rattle.agc_listing.specs.Location.{location_in}
use Rattle.agc_listing.specs.declared.location.Location.{Location}
use Rattle.agc_listing.specs.declared.location.Location.TheVariants as location
use Rattle.agc_machine.specs.Boundary.{upcoming_of}
use Rattle.agc_machine.specs.State.{State}
use Rattle.agc_machine.specs.declared.upcoming.InHand.{InHand}
use Rattle.agc_machine.specs.declared.upcoming.Upcoming.{Upcoming}
use Rattle.agc_machine.specs.declared.upcoming.Upcoming.TheVariants as upcoming
use Rattle.agc_session.specs.Comparison.{word_at}
use Rattle.agc_session.specs.declared.calls.CallStep.{CallStep}
use Rattle.agc_session.specs.declared.calls.CallStep.TheVariants as step
use Rattle.agc_session.specs.declared.comparison.Comparison.{Comparison}
use Rattle.agc_session.specs.declared.comparison.Relation.TheVariants as relation
use Rattle.agc_session.specs.declared.condition.Condition.{Condition}
use Rattle.agc_session.specs.declared.condition.Condition.TheVariants as condition

-- the job of a state, by a cell that differs between jobs, if there is one
abbrev pub job_of : Option ℕ → Memory → Option Comparison
job_of (Some cell) m = Some (record { cell = cell; relation = relation.Equal; word = word_at cell m })
job_of None m = None

-- the orders at this many places in a row, in the job of a state, and in a service if and only if the state is in one
abbrev pub caller_at : Option ℕ → State → Location → ℕ → Condition
caller_at cell s first count = condition.Caller (record {
  first = first;
  count = count;
  serving = s.processor.serving;
  job = job_of cell s.processor.store;
})

-- the place of a call is before the three places to which it may return
abbrev pub returns : ℕ
returns = 3

-- the three places before one; near the beginning of a memory those that there are
abbrev pub before : Option ℕ → State → Location → Condition
before cell s (location.Fixed place) = caller_at cell s (location.Fixed (place - returns)) (place - (place - returns))
before cell s (location.Erasable place) = caller_at cell s (location.Erasable (place - returns)) (place - (place - returns))

-- the address that Q names, and that of the order in hand
abbrev pub return_address : Memory → ℕ
return_address m = pattern_of 15 (narrow_of (register q_cell m)) % 0o10000

abbrev pub address_in_hand : Memory → ℕ
address_in_hand m = (z_of m + 0o7777) % 0o10000

-- TC to fixed memory
unfoldable pub is_tc : ℕ → Bool
is_tc word = nat_le fixed_window word && nat_lt word 0o10000

-- TC to the address that Q names, or to one of the two behind it, is a return
abbrev pub is_return : ℕ → Memory → Bool
is_return word m = nat_le (return_address m) word && nat_lt word (return_address m + returns)

-- a call: TC in fixed memory that does not return
unfoldable pub is_call : InHand → Memory → Bool
is_call order m =
    not order.extracode && nat_le fixed_window order.address && is_tc (pattern_of 15 order.word)
    && not (is_return (pattern_of 15 order.word) m)

-- Over: the orders behind the call that comes next, to which Z points; of a service, the order that it interrupts;
-- otherwise any boundary.
unfoldable pub over_by : Option ℕ → State → Upcoming → Condition
over_by cell s (upcoming.Order order) =
    if is_call order s.processor.store
    then caller_at cell s (location_in s.processor.store (z_of s.processor.store)) returns
    else condition.Boundary
over_by cell s (upcoming.Interrupt r) =
    caller_at cell s (location_in s.processor.store (address_in_hand s.processor.store)) 1
over_by cell s (upcoming.Stop why) = condition.Boundary
over_by cell s (upcoming.Event what) = condition.Boundary
over_by cell s (upcoming.Timer t) = condition.Boundary

-- Finish: the orders at the place that Q names and behind it.
unfoldable pub ahead : CallStep → Option ℕ → State → Condition
ahead step.Over cell s = over_by cell s (upcoming_of s)
ahead step.Finish cell s = caller_at cell s (location_in s.processor.store (return_address s.processor.store)) returns

-- the order in hand is in fixed memory, and one of the three words before it is TC
abbrev pub word_before : ℕ → Memory → ℕ
word_before distance m = pattern_of 15 (fetch_of m ((address_in_hand m + (0o10000 - distance)) % 0o10000))

unfoldable pub follows_call : Memory → Bool
follows_call m =
    nat_le fixed_window (address_in_hand m)
    && (is_tc (word_before 1 m) || is_tc (word_before 2 m) || is_tc (word_before 3 m))

-- Back over: the orders before the one in hand, if it follows a call, otherwise any boundary. Back finish: the orders
-- before the place that Q names.
unfoldable pub back : CallStep → Option ℕ → State → Condition
back step.Over cell s =
    if follows_call s.processor.store
    then before cell s (location_in s.processor.store (address_in_hand s.processor.store))
    else condition.Boundary
back step.Finish cell s = before cell s (location_in s.processor.store (return_address s.processor.store))
