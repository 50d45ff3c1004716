-- A script merged with injected events: those of another script, or the live keys of a tape.
use Rattle.std.specs.Prelude.{◌≡◌, ◌⊎◌, ℕ, ◌≤◌, ◌<◌, nat_lt, List, [], ◌∷◌, ◌++◌, map, take, drop}
use Rattle.std.specs.Prelude.{filter_map, All, Option, Some, None}
use Rattle.std.proofs.Common.{inl, inr}
use Rattle.std.specs.List.{position_or_len}
use Rattle.agc_script.specs.declared.key.Key.{Key}
use Rattle.agc_script.specs.declared.event.Event.{Event}
use Rattle.agc_script.specs.declared.event.What.TheVariants as what
use Rattle.agc_script.specs.declared.fault.ScriptFault.{ScriptFault}
use Rattle.agc_script.specs.declared.fault.FaultKind.TheVariants.{TooMany, Memory}

-- a live key as an event
abbrev pub key_event : ℕ × Key → Event
key_event entry = record { cycle = entry.0; what = what.Key entry.1 }

-- how many events precede an injected one: those of its cycle or earlier
abbrev pub due_at : ℕ → List Event → ℕ
due_at cycle events = position_or_len (λ event. nat_lt cycle event.cycle) events

-- The events of a script and injected events in one list: each injected event comes after all
-- script events of its cycle or earlier, and before all others.
unfoldable pub joined : List Event → List Event → List Event
joined events [] = events
joined events (given ∷ later) =
    let due = due_at given.cycle events in
    take due events ++ given ∷ joined (drop due events) later

-- the events of a script and the live keys of a tape in one list
abbrev pub merged : List Event → List (ℕ × Key) → List Event
merged events tape = joined events (map key_event tape)

-- an entry of a merge: an event of the script, or an injected one
abbrev pub Entry : Type 0
Entry = Event ⊎ Event

-- what an entry is as an event
abbrev pub event_of : Entry → Event
event_of (inl event) = event
event_of (inr given) = given

-- the script's event of an entry, or the injected one
abbrev pub scripted : Entry → Option Event
scripted (inl event) = Some event
scripted (inr given) = None

abbrev pub given_of : Entry → Option Event
given_of (inl event) = None
given_of (inr given) = Some given

-- A script's event comes before an injected one if it is due at the cycle of the injected one;
-- otherwise after it.
abbrev pub ComesBefore : Entry → Entry → Type 0
ComesBefore (inl event) (inr given) = event.cycle ≤ given.cycle
ComesBefore (inr given) (inl event) = given.cycle < event.cycle
ComesBefore (inl event) (inl later) = Unit {0}
ComesBefore (inr given) (inr later) = Unit {0}

unfoldable pub AreInPlace : List Entry → Type 0
AreInPlace [] = Unit {0}
AreInPlace (entry ∷ entries) = All (ComesBefore entry) entries × AreInPlace entries

-- A merge has both lists in it, each in its order, and nothing else; before each injected event are
-- the script's events of its cycle or earlier, and no others.
pub record IsMerge (events given all : List Event) : Type 0 where
  pub entries : List Entry
  pub all_are : all ≡ map event_of entries
  pub events_are : filter_map scripted entries ≡ events
  pub given_are : filter_map given_of entries ≡ given
  pub in_place : AreInPlace entries

-- a refused merge names no line
abbrev pub too_many : ScriptFault
too_many = record { line = 0; kind = TooMany }

abbrev pub no_memory : ScriptFault
no_memory = record { line = 0; kind = Memory }
