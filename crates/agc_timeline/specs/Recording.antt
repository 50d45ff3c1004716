-- The recording of a part of a run: its frames, its keys and its end.
use Rattle.std.specs.Prelude.{◌≡◌, min, nat_le, if◌then◌else◌, Option, None}
use Rattle.agc_machine.specs.Run.{run_of}
use Rattle.agc_machine.specs.State.{State}
use Rattle.agc_machine.specs.Taken.{met_between}
use Rattle.agc_machine.specs.declared.answer.Stop.{Stop}
use Rattle.agc_timeline.specs.Frames.{frames_of, last_of}
use Rattle.agc_timeline.specs.KeyEvents.{presses_of}
use Rattle.agc_timeline.specs.Run.{past}
use Rattle.agc_trace.specs.declared.span.Span.{Span}
use Rattle.agc_timeline.specs.declared.recording.Recording.{Recording}

-- the state to which a part of a run is run: the first one past its last cycle, or that of the stop
abbrev pub end_of : Span → State → State
end_of part start = past (last_of part) start

-- the stop in a part, if its cycle is in the part
abbrev pub stop_in : Span → State → Option Stop
stop_in part end = if nat_le end.cycle (last_of part) then end.stopped else None

-- A recording shows a part of the run from a state: its frames, the keys of the events that the run has met up to its
-- end, and its last cycle, which is that of the stop if the run stops before.
pub record IsRecordingOf (part : Span) (start : State) (recording : Recording) : Type 0 where
  pub from : recording.from ≡ part.from
  pub frames : recording.frames.items ≡ frames_of part (run_of start).writes
  pub keys : recording.presses.items ≡ presses_of (met_between start (end_of part start))
  pub cycle : recording.cycle ≡ min (last_of part) (end_of part start).cycle
  pub stop : recording.stop ≡ stop_in part (end_of part start)
