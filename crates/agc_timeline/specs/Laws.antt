-- Properties of the film of a part of a run, in terms of time.
use Rattle.std.specs.Prelude.{◌≢◌, ℕ, ◌+◌, ◌≤◌, List, [], ◌∷◌}
use Rattle.agc_word.specs.declared.channel_write.ChannelWrite.{ChannelWrite}
use Rattle.agc_machine.specs.Run.{run_of}
use Rattle.agc_machine.specs.State.{State}
use Rattle.agc_panel.specs.Text.{panel_text}
use Rattle.agc_timeline.specs.Frames.{frames_of, up_to}
use Rattle.agc_timeline.specs.declared.frame.Frame.{Frame}
use Rattle.agc_trace.specs.declared.span.Span.{Span}

-- the frames of a part of the run from a state
abbrev pub frames_of_run : Span → State → List Frame
frames_of_run part s = frames_of part (run_of s).writes

-- the writes of the run from a state up to a cycle
abbrev pub writes_up_to : ℕ → State → List ChannelWrite
writes_up_to cycle s = up_to cycle (run_of s).writes

-- Frames from a cycle on, after a panel that shows this: each is later than the one before it and shows something
-- else.
abbrev pub AreCuts : ℕ → List ℕ → List Frame → Type 0
AreCuts from shown [] = Unit {0}
AreCuts from shown (frame ∷ frames) =
    (from ≤ frame.cycle) × (panel_text frame.panel ≢ shown)
    × AreCuts (frame.cycle + 1) (panel_text frame.panel) frames
