-- The word of a line that is at fault.
use Rattle.std.specs.Prelude.{◌≡◌, ℕ, ◌+◌, ◌-◌, ◌≤◌, List, length, take, drop}
use Rattle.agc_asm.specs.declared.fault_place.Spot.{Spot}

-- a word stands in a line at its column
pub record IsWordOf (line : List ℕ) (spot : Spot) : Type 0 where
  pub column : 1 ≤ spot.column
  pub inside : spot.column - 1 + length spot.word.now ≤ length line
  pub same : take (length spot.word.now) (drop (spot.column - 1) line) ≡ spot.word.now
