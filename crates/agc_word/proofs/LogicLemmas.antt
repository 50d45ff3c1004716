-- The logical operations on digits are those on patterns.
use Rattle.std.proofs.Common.{◌≡◌, ℕ, zero, suc, ◌+◌, ◌%◌, ◌^◌, ◌<◌, min, max, List, ◌∷◌, cond, eqb, bit_and, bit_or, bit_xor, refl, sym, ap, ap₂, ◌∙◌, arith}
use Rattle.std.proofs.lemmas.Bool.Decides.{nat_tests}
use Rattle.std.proofs.lemmas.Nat.{and_le_l, or_lt, xor_lt}
use Rattle.std.proofs.lemmas.Nat.Bits.{bit_at_and, bit_at_or, bit_at_xor, bit_at-lt}
use Rattle.std.specs.Int.{bit_at}
use Rattle.agc_word.specs.Number.{number_from_pattern}
use Rattle.agc_word.specs.Digits.{binary, digits, number_of_digits}
use Rattle.agc_word.specs.Logic.{digit_by_digit, and_of, or_of, xor_of}
use Rattle.agc_word.proofs.Digits.{digits-number_from_pattern, number_of_digits-binary}

digit_by_digit-binary : (f : ℕ → ℕ → ℕ) (n a b c : ℕ) → ((i : ℕ) → bit_at c i ≡ f (bit_at a i) (bit_at b i)) → digit_by_digit f (binary n a) (binary n b) ≡ binary n c
unfolding digit_by_digit binary
digit_by_digit-binary f zero a b c same = refl
digit_by_digit-binary f (suc n) a b c same =
    ap₂ {C = List ℕ} (λ (d : ℕ) (ds : List ℕ). d ∷ ds) (sym (same n)) (digit_by_digit-binary f n a b c same)

combined : (f : ℕ → ℕ → ℕ) (a b c : ℕ) → a < 2 ^ 16 → b < 2 ^ 16 → c < 2 ^ 16 → ((i : ℕ) → bit_at c i ≡ f (bit_at a i) (bit_at b i)) → number_of_digits (digit_by_digit f (digits 16 (number_from_pattern 16 a)) (digits 16 (number_from_pattern 16 b))) ≡ number_from_pattern 16 c
combined f a b c p q r same =
    ap₂ (λ (ds es : List ℕ). number_of_digits (digit_by_digit f ds es)) (digits-number_from_pattern 15 a p) (digits-number_from_pattern 15 b q)
    ∙ ap number_of_digits (digit_by_digit-binary f 16 a b c same)
    ∙ number_of_digits-binary 15 c r

differs : (a b : ℕ) → a < 2 → b < 2 → (a + b) % 2 ≡ cond (eqb a b) 0 1
differs a b p q = grind (arith, nat_tests)

pub and_of-number_from_pattern : (a b : ℕ) → a < 2 ^ 16 → b < 2 ^ 16 → and_of (number_from_pattern 16 a) (number_from_pattern 16 b) ≡ number_from_pattern 16 (bit_and a b)
unfolding and_of
and_of-number_from_pattern a b p q = combined min a b (bit_and a b) p q (omega (arith, and_le_l a b)) (bit_at_and a b)

pub or_of-number_from_pattern : (a b : ℕ) → a < 2 ^ 16 → b < 2 ^ 16 → or_of (number_from_pattern 16 a) (number_from_pattern 16 b) ≡ number_from_pattern 16 (bit_or a b)
unfolding or_of
or_of-number_from_pattern a b p q = combined max a b (bit_or a b) p q (or_lt 16 a b p q) (bit_at_or a b)

pub xor_of-number_from_pattern : (a b : ℕ) → a < 2 ^ 16 → b < 2 ^ 16 → xor_of (number_from_pattern 16 a) (number_from_pattern 16 b) ≡ number_from_pattern 16 (bit_xor a b)
unfolding xor_of
xor_of-number_from_pattern a b p q =
    combined (λ d e. cond (eqb d e) 0 1) a b (bit_xor a b) p q (xor_lt 16 a b p q) (λ i. bit_at_xor a b i ∙ differs (bit_at a i) (bit_at b i) (bit_at-lt a i) (bit_at-lt b i))
