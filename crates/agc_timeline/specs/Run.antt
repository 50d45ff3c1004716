-- A run past a cycle, and what a recorder has taken of it.
use Rattle.std.specs.Prelude.{◌≡◌, ℕ, zero, suc, ◌+◌, ◌≤◌, nat_lt, if◌then◌else◌, List, [], ◌∷◌, ◌++◌, None}
use Rattle.agc_word.specs.declared.channel_write.ChannelWrite.{ChannelWrite}
use Rattle.agc_machine.specs.Boundary.{boundary}
use Rattle.agc_machine.specs.Laws.{AreRising}
use Rattle.agc_machine.specs.Run.{boundaries_left, run_of}
use Rattle.agc_machine.specs.State.{State}
use Rattle.agc_panel.specs.Face.{panel_of}
use Rattle.agc_panel.specs.declared.face.Face.{Face}
use Rattle.agc_timeline.specs.Frames.{frames_after, opening_of}
use Rattle.agc_timeline.specs.declared.recorder.Recorder.{Recorder}

-- the first state of a run that is past a cycle, within this many boundaries; a stopped one stays
unfoldable pub past_within : ℕ → ℕ → State → State
past_within zero cycle s = s
past_within (suc more) cycle s =
    if nat_lt cycle s.cycle then s else past_within more cycle (boundary None s).0

-- the first state of a run that is past a cycle, or that of its stop if there is no such state
unfoldable pub past : ℕ → State → State
past cycle s = past_within (boundaries_left s) cycle s

-- writes up to a cycle
abbrev pub AreUpTo : ℕ → List ChannelWrite → Type 0
AreUpTo cycle [] = Unit {0}
AreUpTo cycle (write ∷ writes) = (write.cycle ≤ cycle) × AreUpTo cycle writes

-- a run got from one state to another, and these are the writes between
abbrev pub HasCome : State → List ChannelWrite → State → Type 0
HasCome s taken t =
    run_of s ≡ record { writes = taken ++ (run_of t).writes; last = (run_of t).last }

-- a run has gone past a cycle, or to its stop: these are all its writes up to then
pub record HasPassed (cycle : ℕ) (s : State) (taken : List ChannelWrite) (t : State) : Type 0 where
  pub come : HasCome s taken t
  pub taken_up_to : AreUpTo cycle taken
  pub left_later : AreRising (cycle + 1) (run_of t).writes

-- a run has gone past a cycle, and this is its panel then
pub record HasOpened (cycle : ℕ) (s t : State) (panel : Face) : Type 0 where
  pub taken : List ChannelWrite
  pub passed : HasPassed cycle s taken t
  pub panel_is : panel ≡ panel_of taken

-- a recorder that began at a cycle, after some writes, has taken these
pub record HasTaken (from : ℕ) (before taken : List ChannelWrite) (recorder : Recorder) : Type 0 where
  pub panel : recorder.panel ≡ panel_of (before ++ taken)
  pub frames : recorder.frames.items ≡ opening_of from before ++ frames_after before taken

-- a run has gone past a cycle, and a recorder has taken its writes
pub record HasRecorded (cycle : ℕ) (s t : State) (old new : Recorder) : Type 0 where
  pub taken : List ChannelWrite
  pub passed : HasPassed cycle s taken t
  pub recorded : (from : ℕ) (before : List ChannelWrite) → HasTaken from before [] old
      → HasTaken from before taken new
