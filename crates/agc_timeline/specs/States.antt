-- The states of a run: its own, and each that a boundary without a live key leads to, up to that of the stop.
use Rattle.std.specs.Prelude.{ℕ, zero, suc, is_some, if◌then◌else◌, List, [], ◌∷◌, None}
use Rattle.agc_machine.specs.Boundary.{boundary}
use Rattle.agc_machine.specs.State.{State}
use Rattle.agc_trace.specs.Trace.{entries_left}

-- this many states, or up to the one that has stopped
unfoldable pub states_within : ℕ → State → List State
states_within zero s = []
states_within (suc more) s =
    s ∷ (if is_some s.stopped then [] else states_within more (boundary None s).0)

-- the states of a run from one on: the last one has stopped, and there are at most as many as the trace has entries
unfoldable pub states_of : State → List State
states_of s = states_within (entries_left s) s
