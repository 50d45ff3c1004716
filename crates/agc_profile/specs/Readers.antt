-- The boundaries of a run: the trace entry of each, and the words that it reads as data.
use Rattle.std.specs.Prelude.{ℕ, zero, suc, List, [], ◌∷◌, None, if◌then◌else◌}
use Rattle.agc_machine.specs.Boundary.{boundary, upcoming_of}
use Rattle.agc_machine.specs.State.{State}
use Rattle.agc_trace.specs.Entry.{entry_of}
use Rattle.agc_trace.specs.Trace.{entries_left, is_stop}
use Rattle.agc_trace.specs.declared.entry.Entry.{Entry}
use Rattle.agc_profile.specs.DataReads.{data_of}
use Rattle.agc_profile.specs.declared.data.DataReads.{DataReads}

-- the entry that a trace has of a boundary, and what the boundary reads
pub record Reported : Type 0 where
  pub entry : Entry
  pub reads : DataReads

-- the boundary that begins in a state
unfoldable pub reported_of : State → Reported
reported_of s =
    record { entry = entry_of s; reads = data_of (upcoming_of s) s.processor.store }

-- those of at most this many boundaries; the bound must be large enough
unfoldable pub all_within : ℕ → State → List Reported
all_within zero s = []
all_within (suc more) s =
    reported_of s ∷ (if is_stop (upcoming_of s) then [] else all_within more (boundary None s).0)

-- those from a state on: the last one is the stop
unfoldable pub all_reported : State → List Reported
all_reported s = all_within (entries_left s) s
