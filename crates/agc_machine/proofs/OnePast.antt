-- Z is one past the address of the order in hand; 0 follows 7777 octal.
use Rattle.std.proofs.Common.{◌≡◌, ℕ, ◌+◌, ◌<◌, arith}
use Rattle.std.specs.Prelude.{◌==◌, ◌%◌}
use Rattle.std.proofs.lemmas.Bool.Decides.{nat_tests}

pub stands_one_past : (z address : ℕ) → z < 0o10000 → address < 0o10000 →
    (z == (address + 1) % 0o10000) ≡ ((z + 0o7777) % 0o10000 == address)
stands_one_past z address h k = grind (arith, nat_tests)
