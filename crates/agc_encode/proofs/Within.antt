-- A name on a line for which there is room has a location in memory.
use Rattle.std.specs.Prelude.{◌≡◌, ℕ, ◌+◌, ◌*◌, ◌<◌, ◌≤◌, nat_le, ◌==◌, Bool, true, false, Ok, Err, IsOk, if◌then◌else◌, ◌&&◌}
use Rattle.std.proofs.Common.{refl, arith}
use Rattle.std.proofs.lemmas.Bool.Decides.{nat_tests}
use Rattle.agc_encode.specs.LocationCounter.{IsAt, after_cells, bank_end, left_in, location_at, stretch_end}
use Rattle.agc_encode.specs.LineKind.{after_line_words, after_room}
use Rattle.agc_interpretive.specs.Pending.{nothing_due}
use Rattle.agc_encode.specs.declared.location_counter.At.{At}
use Rattle.agc_encode.specs.declared.location_counter.At.TheVariants as at
use Rattle.agc_encode.specs.declared.location_counter.LocationCounter.{LocationCounter}
use Rattle.agc_listing.specs.Location.{IsWithin}
use Rattle.agc_vocabulary.specs.declared.source_fault.SourceFault.TheVariants as fault

in_rope : (bank left count : ℕ) (two : Bool) → (bank == 2) ≡ two → nat_le (left + count) (if two then 0o4000 else 0o2000) ≡ true → bank < 36 → 0 < count → 0o2000 * bank + left < 0o110000
in_rope bank left count true is e h some = grind (arith, nat_tests)
in_rope bank left count false is e h some = let room : left + count ≤ 0o2000 = grind (arith, nat_tests) in omega arith

in_bank : (room : Bool) (counter : LocationCounter) (bank left count : ℕ) → nat_le (left + count) (bank_end bank) ≡ room → bank < 36 → 0 < count
    → IsOk (after_room counter count (if room then Ok (0o2000 * bank + left) else Err fault.Full)) → 0o2000 * bank + left < 0o110000
in_bank true counter bank left count e h some ok = in_rope bank left count (bank == 2) refl e h some
in_bank false counter bank left count e h some ok = absurd cc

in_erasable : (room same : Bool) (counter next : LocationCounter) (cell count : ℕ) → nat_le (cell + count) 0o4000 ≡ room → 0 < count
    → IsOk (if room && same then Ok next else Err fault.Full) → cell < 0o4000
in_erasable true same counter next cell count e some ok = let room : cell + count ≤ 0o4000 = grind (arith, nat_tests) in omega arith
in_erasable false same counter next cell count e some ok = absurd cc

-- when cells have room
pub cells_within : (counter : LocationCounter) (here : At) (count : ℕ) → 0 < count → IsOk (after_cells counter here count) → IsWithin (location_at counter here)
cells_within counter (at.Cell cell) count some ok =
    in_erasable (nat_le (cell + count) 0o4000) (nat_le (cell + count) (stretch_end cell)) counter (record counter { at = at.Cell (cell + count); due = nothing_due }) cell count refl some ok
cells_within counter (at.Bank bank) count some ok = absurd cc

-- when words have room
pub room_within : (counter : LocationCounter) (here : At) (count : ℕ) → IsAt here → 0 < count → IsOk (after_line_words counter here count) → IsWithin (location_at counter here)
room_within counter (at.Bank bank) count h some ok =
    in_bank (nat_le (left_in counter bank + count) (bank_end bank)) counter bank (left_in counter bank) count refl h some ok
room_within counter (at.Cell cell) count h some ok = cells_within counter (at.Cell cell) count some ok
