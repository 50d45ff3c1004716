-- The last boundaries of a session, as trace entries in folded lines.
use Rattle.std.specs.Prelude.{ℕ, List, Some, None}
use Rattle.circular_buffer.specs.Buffer.{keep_last}
use Rattle.agc_script.specs.declared.event.What.{What}
use Rattle.agc_machine.specs.Boundary.{boundary}
use Rattle.agc_machine.specs.State.{State}
use Rattle.agc_machine.specs.declared.upcoming.Upcoming.TheVariants as upcoming
use Rattle.agc_trace.specs.Entry.{registers_of}
use Rattle.agc_trace.specs.declared.entry.Entry.{Entry}
use Rattle.agc_tui.specs.Fold.{added}
use Rattle.agc_tui.specs.declared.fold.Line.{Line}

-- the number of lines kept
abbrev pub most_recent : ℕ
most_recent = 12

-- one more boundary; the oldest line goes if there are too many
abbrev pub with_last : Entry → List Line → List Line
with_last entry history = keep_last most_recent (added entry history)

-- the boundary of an event injected now, which writes nothing
unfoldable pub given_entry : What → State → Entry
given_entry what s =
    record {
      cycle = s.cycle;
      happening = upcoming.Event what;
      write = None;
      registers = registers_of (boundary (Some what) s).0.processor.store;
    }
