-- The script of a file of lines, or its first faulty line.
use Rattle.std.specs.Prelude.{ℕ, ◌+◌, ◌*◌, ◌<◌, ◌≤◌, nat_le, List, [], ◌∷◌, ◌++◌, length, map}
use Rattle.std.specs.Prelude.{Option, Some, None, Result, Ok, Err, IfErr, if◌then◌else◌}
use Rattle.std.specs.List.{range_with_len}
use Rattle.agc_word.specs.Text.{lines_of}
use Rattle.agc_script.specs.Command.{and_then}
use Rattle.agc_script.specs.Line.{meaning_of}
use Rattle.agc_script.specs.declared.event.Event.{Event}
use Rattle.agc_script.specs.declared.line.Repeat.{Repeat}
use Rattle.agc_script.specs.declared.fault.FaultKind.{FaultKind}
use Rattle.agc_script.specs.declared.fault.ScriptFault.{ScriptFault}

-- the event of a line at its i-th time, counted from 0
abbrev pub event_at : Repeat → ℕ → Event
event_at repeat i = record { cycle = repeat.start + i * repeat.period; what = repeat.what }

-- all events of a line
unfoldable pub events_of : Repeat → List Event
events_of repeat = map (event_at repeat) (range_with_len 0 repeat.times)

-- the events of a line's meaning, and the start that later lines are compared with
abbrev pub events_parsed : Option Repeat → List Event
events_parsed None = []
events_parsed (Some repeat) = events_of repeat

abbrev pub start_parsed : ℕ → Option Repeat → ℕ
start_parsed last None = last
start_parsed last (Some repeat) = repeat.start

-- The start and the events after one more line; the last event line started at `last`, and these
-- events come before.
unfoldable pub taken : ℕ → List Event → List ℕ → Result (ℕ × List Event) FaultKind
taken last events line =
    and_then (meaning_of last (length events) line)
    (λ parsed. Ok (start_parsed last parsed, events ++ events_parsed parsed))

-- The events of the lines, in the order of the lines, or the first faulty line with its lowest kind
-- of fault; n is the number of the first line.
unfoldable pub reading : ℕ → ℕ → List Event → List (List ℕ) → Result (List Event) ScriptFault
reading n last events [] = Ok events
reading n last events (line ∷ lines) =
    elim (taken last events line) [
      | Ok after ↦ reading (n + 1) after.0 after.1 lines
      | Err kind ↦ Err (record { line = n; kind = kind })
    ]

-- a list in the order of the cycles with one more event, which comes before those of its cycle
unfoldable pub put_in : Event → List Event → List Event
put_in event [] = event ∷ []
put_in event (first ∷ events) =
    if nat_le event.cycle first.cycle then event ∷ first ∷ events else first ∷ put_in event events

-- the events in the order of their cycles; events of one cycle keep the order of their lines
unfoldable pub arranged : List Event → List Event
arranged [] = []
arranged (event ∷ events) = put_in event (arranged events)

-- the script of a file, or its fault
abbrev pub in_order_of : Result (List Event) ScriptFault → Result (List Event) ScriptFault
in_order_of (Ok events) = Ok (arranged events)
in_order_of (Err fault) = Err fault

unfoldable pub script_of : List ℕ → Result (List Event) ScriptFault
script_of file = in_order_of (reading 1 0 [] (lines_of file))

-- a line of the file that is not faulty, with none faulty before it
pub record IsSoundLine (file : List ℕ) (line : ℕ) : Type 0 where
  pub first : 1 ≤ line
  pub last : line ≤ length (lines_of file)
  pub sound : IfErr (script_of file) (λ fault. line < fault.line)
