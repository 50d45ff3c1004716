-- The copies of its machine that a session keeps, to continue from the newest one when it goes back.
use Rattle.std.specs.Prelude.{◌≡◌, ℕ, ◌-◌, ◌^◌, ◌≤◌, List, [], length, min, take, drop, replicate, All, None}
use Rattle.agc_word.specs.Number.{Number}
use Rattle.agc_word.specs.declared.channel_write.ChannelWrite.{ChannelWrite}
use Rattle.agc_script.specs.declared.event.Event.{Event}
use Rattle.agc_machine.specs.Boundary.{IsBefore}
use Rattle.agc_machine.specs.Replay.{chain, writes_in}
use Rattle.agc_machine.specs.State.{State, start_state}
use Rattle.agc_panel.specs.Face.{panel_of}
use Rattle.agc_panel.specs.declared.face.Face.{Face}
use Rattle.agc_session.specs.Session.{BeginBefore, IsSession, SessionState}
use Rattle.agc_session.specs.declared.checkpoint.Checkpoint.{Checkpoint}

-- channel writes are counted in a number of 64 bits
abbrev pub counted : List ChannelWrite → ℕ
counted writes = min (length writes) (2 ^ 64 - 1)

-- A state on the plain run from a start: some boundaries lead to it, its panel shows their writes, and these are
-- counted.
pub record IsOnRun (start now : State) (panel : Face) (writes : ℕ) : Type 0 where
  pub boundaries : ℕ
  pub state : (chain (replicate boundaries None) start).last ≡ now
  pub shown : panel ≡ panel_of (writes_in (chain (replicate boundaries None) start).answers)
  pub count : writes ≡ counted (writes_in (chain (replicate boundaries None) start).answers)

-- a state on the way to a cycle: each boundary up to it begins before the cycle
pub record IsOnWay (cycle : ℕ) (start now : State) (panel : Face) (writes : ℕ) : Type 0 where
  pub on_run : IsOnRun start now panel writes
  pub before : BeginBefore on_run.boundaries cycle start

-- A copy is a state of a run of this rope up to this limit: the plain run of the events taken leads to it, no event is
-- left, and the machine has not stopped.
pub record IsCheckpoint (words : List Number) (limit : ℕ) (copy : Checkpoint) : Type 0 where
  pub on_run : IsOnRun (start_state words copy.taken limit None) copy.machine copy.panel copy.writes
  pub none_left : copy.machine.events ≡ []
  pub runs : copy.machine.stopped ≡ None

-- The run of a script leads to a copy too: the script begins with the events that the copy has taken, and its other
-- events are later than the copy's cycle.
pub record Fits (script : List Event) (copy : Checkpoint) : Type 0 where
  pub some : length copy.taken ≤ length script
  pub same : take (length copy.taken) script ≡ copy.taken
  pub later : IsBefore copy.machine.cycle (drop (length copy.taken) script)

-- what is true of a session, the number of its writes, and its copies
pub record IsKept (s : SessionState) (writes : ℕ) (copies : List Checkpoint) : Type 0 where
  pub session : IsSession s
  pub count : writes ≡ counted session.writes
  pub right : All (IsCheckpoint s.now.processor.store.fixed s.now.limit) copies
