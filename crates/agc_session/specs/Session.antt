-- A session: the events it starts with, the events injected into it, its state and its panel.
use Rattle.std.specs.Prelude.{◌≡◌, ◌⊎◌, ℕ, zero, suc, ◌+◌, ◌<◌, ◌≤◌, List, [], ◌∷◌, ◌++◌, length, drop, nat_le, replicate, Some, None, IsSome}
use Rattle.std.specs.List.{position_or_len}
use Rattle.agc_word.specs.declared.channel_write.ChannelWrite.{ChannelWrite}
use Rattle.agc_script.specs.Event.{most_events}
use Rattle.agc_script.specs.Merge.{joined}
use Rattle.agc_script.specs.Script.{before}
use Rattle.agc_script.specs.declared.event.Event.{Event}
use Rattle.agc_script.specs.declared.event.What.{What}
use Rattle.agc_machine.specs.Boundary.{boundary}
use Rattle.agc_machine.specs.Laws.{IsSameRun, after}
use Rattle.agc_machine.specs.Live.{IsLive}
use Rattle.agc_machine.specs.Replay.{Chain, chain, writes_in}
use Rattle.agc_machine.specs.State.{State, live_event, start_state}
use Rattle.agc_machine.specs.declared.answer.Stepped.{Stepped}
use Rattle.agc_machine.specs.declared.answer.Stepped.TheVariants as stepped
use Rattle.agc_panel.specs.Face.{face_after, panel_of}
use Rattle.agc_panel.specs.declared.face.Face.{Face}

-- `base` is the script that the session was opened with, `retained` the events injected before the last rewind that
-- it retained, `script` the events known at the last start, and `injected` those injected since, each at the cycle of
-- its injection.
pub record SessionState : Type 0 where
  pub base : List Event
  pub retained : List Event
  pub script : List Event
  pub injected : List Event
  pub now : State
  pub panel : Face

-- the start of a run of the same rope, up to the same limit, with these events
abbrev pub start_with : List Event → State → State
start_with events now = start_state now.processor.store.fixed events now.limit None

-- A session got from its start to its state by boundaries and its injected events, each at a point where the machine
-- wanted one. Its panel shows the writes on the way, and its known and injected events fit into one script.
pub record IsSession (s : SessionState) : Type 0 where
  pub writes : List ChannelWrite
  pub live : IsLive (start_with s.script s.now) s.injected writes s.now
  pub panel : s.panel ≡ panel_of writes
  pub known : s.script ≡ joined s.base s.retained
  pub room : length s.script + length s.injected ≤ most_events

-- the script of a session: the injected events merged into the known ones, after those of the same cycle
abbrev pub script_of : SessionState → List Event
script_of s = joined s.script s.injected

-- the events injected before a cycle, both before the last rewind and since
abbrev pub retained_before : ℕ → SessionState → List Event
retained_before cycle s = joined (before cycle s.retained) (before cycle s.injected)

-- the script that the session would have without the events injected at a cycle or later
abbrev pub script_before : ℕ → SessionState → List Event
script_before cycle s = joined s.base (retained_before cycle s)

-- the events from the first one at a cycle or later on, that is, those not before it
abbrev pub since : ℕ → List Event → List Event
since cycle events = drop (position_or_len (λ event. nat_le cycle event.cycle) events) events

-- the events injected at a cycle or later, both before the last rewind and since: a rewind to it discards these
abbrev pub discarded : ℕ → SessionState → List Event
discarded cycle s = joined (since cycle s.retained) (since cycle s.injected)

-- this many boundaries of the plain run of a script from the start of a session
abbrev pub plain_run : ℕ → List Event → SessionState → Chain
plain_run boundaries events s = chain (replicate boundaries None) (start_with events s.now)

-- The plain run of a script reaches the exact state of a session, and shows its panel.
pub record IsReplay (script : List Event) (s : SessionState) : Type 0 where
  pub boundaries : ℕ
  pub state : (plain_run boundaries script s).last ≡ s.now
  pub panel : panel_of (writes_in (plain_run boundaries script s).answers) ≡ s.panel

-- A session that restarted with the script of another before a cycle, and into which the discarded events were
-- injected again, each at its cycle. That both then have one script is proved for a rewind.
pub record IsInjectedAgain (cycle : ℕ) (s t : SessionState) : Type 0 where
  pub again : joined t.script (discarded cycle s) ≡ script_of s
  pub injected : t.injected ≡ discarded cycle s
  pub run : IsSameRun s.now t.now

-- a run gets from one state to another by boundaries with nothing injected
abbrev pub ComesTo : State → State → Type 0
ComesTo s t = (boundaries : ℕ) × (after boundaries s ≡ t)

-- a session after an event is injected now
abbrev pub injected_now : What → SessionState → SessionState
injected_now what s =
    record s { injected = s.injected ++ live_event s.now what ∷ []; now = (boundary (Some what) s.now).0 }

-- a panel with the write of a boundary applied, if there is one
abbrev pub shown_after : Stepped → Face → Face
shown_after (stepped.Wrote write) face = face_after face (write ∷ [])
shown_after answer face = face

-- a session that has run to a state with an answer: nothing was injected, and the write, if there is one, was applied
-- to the panel
pub record HasGone (s : SessionState) (way : State × Stepped) (answer : Stepped) (t : SessionState) : Type 0 where
  pub now : (t.now, answer) ≡ way
  pub panel : t.panel ≡ shown_after answer s.panel
  pub base : t.base ≡ s.base
  pub retained : t.retained ≡ s.retained
  pub script : t.script ≡ s.script
  pub injected : t.injected ≡ s.injected

-- each of this many boundaries begins before a cycle
unfoldable pub BeginBefore : ℕ → ℕ → State → Type 0
BeginBefore zero cycle s = Unit {0}
BeginBefore (suc more) cycle s = (s.cycle < cycle) × BeginBefore more cycle (boundary None s).0

-- A run has reached a cycle: each boundary on the way begins before the cycle, and the last ends at it or later, or
-- the machine has stopped.
pub record HasReached (cycle : ℕ) (s t : State) : Type 0 where
  pub boundaries : ℕ
  pub way : (chain (replicate boundaries None) s).last ≡ t
  pub before : BeginBefore boundaries cycle s
  pub there : (cycle ≤ t.cycle) ⊎ IsSome t.stopped
