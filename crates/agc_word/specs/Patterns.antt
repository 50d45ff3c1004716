-- A pattern and the number that it stands for determine each other.
use Rattle.std.specs.Prelude.{◌≡◌, ℕ, ◌^◌, ◌<◌}
use Rattle.std.proofs.Common.{arith}
use Rattle.std.proofs.lemmas.Bool.Decides.{nat_tests}
use Rattle.agc_word.specs.Number.{number_from_pattern, pattern_of}

-- a pattern of n digits comes back from its number
pub pattern_back : (n p : ℕ) → p < 2 ^ n → pattern_of n (number_from_pattern n p) ≡ p
pattern_back n p h = grind (arith, nat_tests)
