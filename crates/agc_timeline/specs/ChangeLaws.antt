-- Properties of the changes of a run, in terms of time.
use Rattle.std.specs.Prelude.{◌≢◌, ℕ, ◌≤◌, nat_le, List, [], ◌∷◌, filter, map}
use Rattle.agc_machine.specs.State.{State}
use Rattle.agc_panel.specs.declared.watch_spec.WatchSpec.{WatchSpec}
use Rattle.agc_timeline.specs.Changes.{Sight, shown_after, sight_of}
use Rattle.agc_timeline.specs.States.{states_of}

-- the sights up to a cycle
abbrev pub up_to : ℕ → List Sight → List Sight
up_to cycle sights = filter (λ sight. nat_le sight.cycle cycle) sights

-- what sights show at a cycle: nothing before the first one, then the last one up to that cycle
unfoldable pub shown_at : List Sight → ℕ → List ℕ
shown_at sights cycle = shown_after [] (up_to cycle sights)

-- what the tables show at a cycle of the run from a state: those of its last state up to that cycle
unfoldable pub tables_at : WatchSpec → State → ℕ → List ℕ
tables_at spec s cycle = shown_at (map (sight_of spec) (states_of s)) cycle

-- Sights from one cycle up to another, after this was shown: none comes before its predecessor, and each shows
-- something else.
abbrev pub AreChanges : ℕ → ℕ → List ℕ → List Sight → Type 0
AreChanges from to shown [] = Unit {0}
AreChanges from to shown (sight ∷ sights) =
    (from ≤ sight.cycle) × (sight.cycle ≤ to) × (sight.text ≢ shown)
    × AreChanges sight.cycle to sight.text sights
