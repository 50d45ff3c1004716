-- Runs with live events: a chain of boundaries with or without a live event at each, the tape of
-- the events that it took, and the plain run with the same result.
use Rattle.std.specs.Prelude.{List, [], ◌∷◌, Option, None, Some}
use Rattle.agc_word.specs.declared.channel_write.ChannelWrite.{ChannelWrite}
use Rattle.agc_script.specs.Merge.{joined}
use Rattle.agc_script.specs.declared.event.Event.{Event}
use Rattle.agc_script.specs.declared.event.What.{What}
use Rattle.agc_machine.specs.declared.answer.Stepped.{Stepped}
use Rattle.agc_machine.specs.declared.answer.Stepped.TheVariants as stepped
use Rattle.agc_machine.specs.Boundary.{boundary, WantsKey}
use Rattle.agc_machine.specs.Run.{Run}
use Rattle.agc_machine.specs.State.{State, live_event}

-- What some boundaries returned one after another, and the state after them.
pub record Chain : Type 0 where
  pub answers : List Stepped
  pub last : State

-- the boundaries from a state on, one for each of the live events or none
unfoldable pub chain : List (Option What) → State → Chain
chain [] s = record { answers = []; last = s }
chain (live ∷ lives) s =
    let first = boundary live s in
    let rest = chain lives first.0 in
    record { answers = first.1 ∷ rest.answers; last = rest.last }

-- the live events that a chain took, each with the cycle at which its boundary began
unfoldable pub tape_of : List (Option What) → State → List Event
tape_of [] s = []
tape_of (Some what ∷ lives) s = live_event s what ∷ tape_of lives (boundary (Some what) s).0
tape_of (None ∷ lives) s = tape_of lives (boundary None s).0

-- each live event of a chain comes when the machine wants one
unfoldable pub AreWanted : List (Option What) → State → Type 0
AreWanted [] s = Unit {0}
AreWanted (Some what ∷ lives) s = WantsKey s × AreWanted lives (boundary (Some what) s).0
AreWanted (None ∷ lives) s = AreWanted lives (boundary None s).0

-- the state that has a tape among the events left, as if the script had named them
abbrev pub with_tape : List Event → State → State
with_tape tape s = record s { events = joined s.events tape }

-- the channel writes among what boundaries returned
unfoldable pub writes_in : List Stepped → List ChannelWrite
writes_in [] = []
writes_in (stepped.Wrote write ∷ answers) = write ∷ writes_in answers
writes_in (answer ∷ answers) = writes_in answers

-- what a chain shows to the outside: its writes and its last state
abbrev pub run_in : Chain → Run
run_in c = record { writes = writes_in c.answers; last = c.last }
