-- What the plain run on a script with a tape's keys takes: each key of the tape, at a boundary that
-- begins at its own cycle.
use Rattle.std.specs.Prelude.{◌≡◌, ℕ, zero, suc, ◌+◌, ◌-◌, ◌<◌, ◌≤◌, Bool, true, false, List}
use Rattle.std.specs.Prelude.{[], ◌∷◌, ◌++◌, length, map, take, drop, replicate, All, None}
use Rattle.agc_script.specs.Merge.{due_at, key_event, merged}
use Rattle.agc_script.specs.declared.event.Event.{Event}
use Rattle.agc_script.specs.declared.key.Key.{Key}
use Rattle.agc_machine.specs.Boundary.{boundary}
use Rattle.agc_machine.specs.Run.{boundaries_left}
use Rattle.agc_machine.specs.State.{State, start_state}

-- the events that were left in one state and are no longer left in a later one
abbrev pub met_between : State → State → List Event
met_between s t = take (length s.events - length t.events) s.events

-- what is taken at a cycle
abbrev pub at_cycle : ℕ → List Event → List (ℕ × Event)
at_cycle cycle events = map (λ event. (cycle, event)) events

-- the events that this many boundaries without live keys take, each with the cycle at which its
-- boundary begins
unfoldable pub taken_within : ℕ → State → List (ℕ × Event)
taken_within zero s = []
taken_within (suc more) s =
    let t = (boundary None s).0 in at_cycle s.cycle (met_between s t) ++ taken_within more t

-- the events that a run takes up to its stop
abbrev pub taken_in : State → List (ℕ × Event)
taken_in s = taken_within (boundaries_left s) s

-- which of the events of a script joined with a tape are the tape's
unfoldable pub tape_marks : List Event → List Event → List Bool
tape_marks events [] = map (λ event. false) events
tape_marks events (live ∷ tape) =
    let due = due_at live.cycle events in
    replicate due false ++ true ∷ tape_marks (drop due events) tape

-- the entries at the marked positions
unfoldable pub marked : List Bool → List (ℕ × Event) → List (ℕ × Event)
marked [] takings = []
marked marks [] = []
marked (true ∷ marks) (taking ∷ takings) = taking ∷ marked marks takings
marked (false ∷ marks) (taking ∷ takings) = marked marks takings

-- an event, taken at its own cycle
abbrev pub at_own_cycle : Event → ℕ × Event
at_own_cycle event = (event.cycle, event)

-- The run on the events joined with a tape takes each event of the tape, and each at its own cycle.
-- What a run takes is the beginning of its events, so the marks of the join are those of what is
-- taken; an event of the script that is the same is not marked.
abbrev pub TakesLive : State → List Event → State → Type 0
TakesLive start tape joined_start =
    marked (tape_marks start.events tape) (taken_in joined_start) ≡ map at_own_cycle tape

-- the same of a tape of keys
abbrev pub TakesTape : State → List (ℕ × Key) → State → Type 0
TakesTape start tape merged_start = TakesLive start (map key_event tape) merged_start

-- keys that follow each other are at least this many cycles apart
unfoldable pub AreApart : ℕ → List (ℕ × Key) → Type 0
AreApart spacing [] = Unit {0}
AreApart spacing (entry ∷ []) = Unit {0}
AreApart spacing (entry ∷ later ∷ tape) =
    (entry.0 + spacing ≤ later.0) × AreApart spacing (later ∷ tape)

-- the start from which a run with live keys can be replayed: the script has the tape's keys among
-- its events
abbrev pub replayed : List (ℕ × Key) → State → State
replayed tape s = start_state s.processor.store.fixed (merged s.events tape) s.limit s.until

-- A tape that a live run from a start took: its keys come below the limit and far enough apart, and
-- the plain run on the merged events takes each of them at its own cycle.
pub record IsTakenTape (spacing : ℕ) (start : State) (tape : List (ℕ × Key)) : Type 0 where
  pub below : All (λ entry. entry.0 < start.limit) tape
  pub apart : AreApart spacing tape
  pub taken : TakesTape start tape (replayed tape start)
