-- What a shift makes of a pattern.
use Rattle.std.proofs.Common.{◌≡◌, ℕ, ◌+◌, ◌*◌, ◌/◌, ◌%◌, ◌^◌, ◌<◌, List, [], ◌∷◌, ◌++◌, get_or, ap, ap₂, refl, ◌∙◌, arith, add-zero, cond, eqb}
use Rattle.agc_word.specs.Number.{Number, number_from_pattern}
use Rattle.agc_word.specs.Digits.{binary, digits, number_of_digits}
use Rattle.agc_word.specs.Pulses.{pulsed, shifted_in}
use Rattle.agc_word.specs.declared.pulse.Carry.{Carry}
use Rattle.agc_word.specs.declared.pulse.Carry.TheVariants as carry
use Rattle.agc_word.specs.declared.pulse.Pulse.TheVariants as pulse
use Rattle.agc_word.proofs.Digits.{drop-binary, digits-number_from_pattern}
use Rattle.agc_word.proofs.Edits.{joined}

-- the row of one digit
one_digit : (d : ℕ) → d < 2 → d ∷ [] ≡ binary 1 d
unfolding binary
one_digit d h = ap (λ (e : ℕ). e ∷ []) (omega arith)

first_digit : (p : ℕ) → p < 2 ^ 15 → get_or (binary 15 p) 0 0 ≡ p / 16384
unfolding binary
first_digit p h = omega arith

shifted_in-number_from_pattern : (d p : ℕ) → d < 2 → p < 2 ^ 15 → shifted_in d (digits 15 (number_from_pattern 15 p)) ≡ (number_from_pattern 15 (p % 16384 * 2 + d), cond (eqb (p / 16384) 1) carry.Out carry.None)
shifted_in-number_from_pattern d p small h =
    ap (shifted_in d) (digits-number_from_pattern 14 p h)
    ∙ ap₂ {C = Number × Carry} (λ (x : Number) (c : Carry). (x, c))
    (ap₂ (λ (ds es : List ℕ). number_of_digits (ds ++ es)) (drop-binary 1 14 p) (one_digit d small) ∙ joined 14 1 (p % 16384) d refl (omega arith) (omega arith))
    (ap (λ (e : ℕ). cond (eqb e 1) carry.Out carry.None) (first_digit p h))

pub pulsed-shinc : (p : ℕ) → p < 2 ^ 15 → pulsed pulse.Shinc (number_from_pattern 15 p) ≡ (number_from_pattern 15 (p % 16384 * 2), cond (eqb (p / 16384) 1) carry.Out carry.None)
unfolding pulsed
pulsed-shinc p h =
    shifted_in-number_from_pattern 0 p (omega arith) h
    ∙ ap (λ (q : ℕ). (number_from_pattern 15 q, cond (eqb (p / 16384) 1) carry.Out carry.None)) (add-zero (p % 16384 * 2))

pub pulsed-shanc : (p : ℕ) → p < 2 ^ 15 → pulsed pulse.Shanc (number_from_pattern 15 p) ≡ (number_from_pattern 15 (p % 16384 * 2 + 1), cond (eqb (p / 16384) 1) carry.Out carry.None)
unfolding pulsed
pulsed-shanc p h = shifted_in-number_from_pattern 1 p (omega arith) h
