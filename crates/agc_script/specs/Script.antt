-- The list of events that a script is.
use Rattle.std.specs.Prelude.{ℕ, ◌≤◌, nat_le, List, [], ◌∷◌, length, take, All}
use Rattle.std.specs.List.{position_or_len}
use Rattle.agc_script.specs.declared.event.Event.{Event}
use Rattle.agc_script.specs.Event.{IsInRange, most_events}

-- the cycles never fall: no later event has a lower cycle
unfoldable pub IsInOrder : List Event → Type 0
IsInOrder [] = Unit {0}
IsInOrder (event ∷ events) = All (λ later. event.cycle ≤ later.cycle) events × IsInOrder events

-- what is true of every script: each event in its ranges, cycles that never fall, and no more
-- events than allowed
pub record IsScript (events : List Event) : Type 0 where
  pub in_range : All IsInRange events
  pub in_order : IsInOrder events
  pub few : length events ≤ most_events

-- a cycle that no event comes after
abbrev pub IsNotBefore : List Event → ℕ → Type 0
IsNotBefore events cycle = All (λ event. event.cycle ≤ cycle) events

-- the events before the first that comes at a cycle or later
abbrev pub before : ℕ → List Event → List Event
before cycle events = take (position_or_len (λ event. nat_le cycle event.cycle) events) events
