-- The whole state of a run between two boundaries, and the state at its start.
use Rattle.std.specs.Prelude.{◌≡◌, ℕ, Bool, false, List, ◌∷◌, Option, Some, None}
use Rattle.agc_word.specs.Number.{Number}
use Rattle.agc_script.specs.declared.event.Event.{Event}
use Rattle.agc_script.specs.declared.event.What.{What}
use Rattle.agc_machine.specs.declared.answer.Stop.{Stop}
use Rattle.agc_machine.specs.declared.stop_address.StopAddress.{StopAddress}
use Rattle.agc_processor.specs.declared.processor.Processor.{Processor}
use Rattle.agc_processor.specs.Start.{start_processor}

-- `events` are those that the run has not taken yet, `begun` is set after the first boundary, and
-- `stopped` is why it has stopped.
pub record State : Type 0 where
  pub processor : Processor
  pub events : List Event
  pub limit : ℕ
  pub cycle : ℕ
  pub begun : Bool
  pub stopped : Option Stop
  pub until : Option StopAddress

-- the start of a run of a rope's words with these events, this limit of cycles and perhaps a stop
-- address
unfoldable pub start_state : List Number → List Event → ℕ → Option StopAddress → State
start_state words events limit until =
    record {
      processor = start_processor words;
      events = events;
      limit = limit;
      cycle = 0;
      begun = false;
      stopped = None;
      until = until;
    }

-- a state that is the start of its run
abbrev pub IsAtStart : State → Type 0
IsAtStart s = s ≡ start_state s.processor.store.fixed s.events s.limit s.until

-- a live event as an event of the present cycle
abbrev pub live_event : State → What → Event
live_event s what = record { cycle = s.cycle; what = what }

-- a live event comes before all events left
abbrev pub fed : Option What → State → State
fed (Some what) s = record s { events = live_event s what ∷ s.events }
fed None s = s
