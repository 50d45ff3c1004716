-- The trace: an entry for each boundary up to the stop, of the chain without live keys.
use Rattle.std.specs.Prelude.{ℕ, zero, suc, ◌+◌, Bool, true, false, if◌then◌else◌}
use Rattle.std.specs.Prelude.{List, [], ◌∷◌, Option, Some, None}
use Rattle.agc_machine.specs.Boundary.{boundary, upcoming_of}
use Rattle.agc_machine.specs.Run.{boundaries_left}
use Rattle.agc_machine.specs.State.{State}
use Rattle.agc_machine.specs.declared.answer.Stop.{Stop}
use Rattle.agc_machine.specs.declared.upcoming.Upcoming.{Upcoming}
use Rattle.agc_machine.specs.declared.upcoming.Upcoming.TheVariants as upcoming
use Rattle.agc_trace.specs.Entry.{entry_of}
use Rattle.agc_trace.specs.declared.entry.Entry.{Entry}

-- a stop, with which a trace ends
abbrev pub is_stop : Upcoming → Bool
is_stop (upcoming.Stop why) = true
is_stop (upcoming.Event what) = false
is_stop (upcoming.Timer t) = false
is_stop (upcoming.Interrupt r) = false
is_stop (upcoming.Order order) = false

-- the entries of at most this many boundaries; the bound must be large enough
unfoldable pub trace_within : ℕ → State → List Entry
trace_within zero s = []
trace_within (suc more) s =
    entry_of s ∷ (if is_stop (upcoming_of s) then [] else trace_within more (boundary None s).0)

-- No trace has more entries than this: a stopped machine has its stop, and any other one more
-- boundary than it may have left.
abbrev pub entries_unless : Option Stop → State → ℕ
entries_unless (Some why) s = 1
entries_unless None s = boundaries_left s + 1

unfoldable pub entries_left : State → ℕ
entries_left s = entries_unless s.stopped s

-- the trace from a state on: the last entry is the stop
unfoldable pub trace_of : State → List Entry
trace_of s = trace_within (entries_left s) s
