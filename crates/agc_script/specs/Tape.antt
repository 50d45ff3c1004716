-- Keys that were pressed live, with the cycles at which the machine took them.
use Rattle.std.specs.Prelude.{ℕ, ◌-◌, ◌≤◌, ◌<◌, List, [], ◌∷◌, length, slice_get, All, IfSome}
use Rattle.agc_script.specs.declared.key.Key.{Key}
use Rattle.agc_script.specs.Event.{last_cycle}

-- the cycles rise: every later entry has a higher one
unfoldable pub IsRising : List (ℕ × Key) → Type 0
IsRising [] = Unit {0}
IsRising (entry ∷ tape) = All (λ later. entry.0 < later.0) tape × IsRising tape

-- what is true of every tape: cycles that rise, up to the last one that a script may name
pub record IsTape (tape : List (ℕ × Key)) : Type 0 where
  pub rising : IsRising tape
  pub in_range : All (λ entry. entry.0 ≤ last_cycle) tape

-- a cycle above that of the last entry, if there is one
abbrev pub IsAfter : List (ℕ × Key) → ℕ → Type 0
IsAfter tape cycle = IfSome (slice_get tape (length tape - 1)) (λ last. last.0 < cycle)
