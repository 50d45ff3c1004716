-- `{:05o}` and `{:06o}` write the digits that the definition names, with zeros in front.
use Rattle.std.proofs.Common.{◌≡◌, ◌≢◌, ◌∙◌, ℕ, zero, suc, ◌+◌, ◌-◌, ◌/◌, ◌%◌, ◌^◌, ◌<◌, ◌≤◌, false, List, [], ◌∷◌, ◌++◌, length, replicate, refl, sym, ap, arith, append_assoc, append-nil}
use Rattle.std.specs.Fmt.{digits, digits_onto, padded_integral, format_spec, char_count}
use Rattle.std.proofs.lemmas.Bool.Decides.{nat_tests}
use Rattle.agc_word.specs.Octal.{octal_digits}

abbrev zeros : ℕ → List ℕ
zeros k = replicate k 48

zeros_end : (k : ℕ) → zeros k ++ (48 ∷ []) ≡ 48 ∷ zeros k
zeros_end zero = refl
zeros_end (suc k) = ap (λ (xs : List ℕ). 48 ∷ xs) (zeros_end k)

octal_of_zero : (k : ℕ) → octal_digits k 0 ≡ zeros k
unfolding octal_digits
octal_of_zero zero = refl
octal_of_zero (suc k) = rw (octal_of_zero k) (zeros_end k)

last_digit : (k n : ℕ) (acc : List ℕ) → n / 8 ≡ 0 → digits_onto (suc k) 8 false n acc ≡ (48 + n % 8) ∷ acc
last_digit k n acc e = grind (arith, nat_tests)

more_digits : (k n : ℕ) (acc : List ℕ) → n / 8 ≢ 0 → digits_onto (suc k) 8 false n acc ≡ digits_onto k 8 false (n / 8) ((48 + n % 8) ∷ acc)
more_digits k n acc e = grind (arith, nat_tests)

-- the digits of a number, with zeros in front up to a width
filled : (k fuel n : ℕ) (acc ds : List ℕ) → 0 < k → k ≤ fuel → n < 8 ^ k → (m : ℕ) → n / 8 ≡ m → digits_onto fuel 8 false n acc ≡ ds
    → zeros (k + length acc - length ds) ++ ds ≡ octal_digits k n ++ acc
unfolding octal_digits
filled zero fuel n acc ds some room small m is e = absurd (omega arith)
filled (suc k) zero n acc ds some room small m is e = absurd (omega arith)
filled (suc k) (suc fuel) n acc ds some room small zero is e =
    let d : ds ≡ (48 + n % 8) ∷ acc = sym e ∙ last_digit fuel n acc is in
    let count : suc k + length acc - length ds ≡ k = omega (arith, ap length d) in
    rw (count, d, is, octal_of_zero k, append_assoc) refl
filled (suc zero) (suc fuel) n acc ds some room small (suc m) is e = absurd (omega arith)
filled (suc (suc k)) (suc fuel) n acc ds some room small (suc m) is e =
    let d = sym (more_digits fuel n acc (omega arith)) ∙ e in
    let less : n / 8 < 8 ^ suc k = omega arith in
    let rest = filled (suc k) fuel (n / 8) ((48 + n % 8) ∷ acc) ds (omega arith) (omega arith) less (n / 8 / 8) refl d in
    let count : suc (suc k) + length acc - length ds ≡ suc k + suc (length acc) - length ds = omega arith in
    rw count (rest ∙ sym (append_assoc (octal_digits (suc k) (n / 8)) ((48 + n % 8) ∷ []) acc))

as_digits : (n : ℕ) → digits_onto 64 8 false n [] ≡ digits 8 false n
unfolding digits
as_digits n = refl

as_padded : (k : ℕ) (ds : List ℕ) → padded_integral (format_spec 32 0 4 k (2 ^ 64 - 1)) false [] ds ≡ zeros (k - length ds) ++ ds
unfolding padded_integral char_count
as_padded k ds =
    let count : k - length ds - 0 - 0 ≡ k - length ds = omega arith in
    simp (append-nil, count) refl

-- what a hole such as `{:03o}` writes of a number that has no more digits than that
pub octal_text : (k n : ℕ) → 0 < k → k ≤ 64 → n < 8 ^ k → padded_integral (format_spec 32 0 4 k (2 ^ 64 - 1)) false [] (digits 8 false n) ≡ octal_digits k n
octal_text k n some room small =
    let all = filled k 64 n [] (digits 8 false n) some room small (n / 8) refl (as_digits n) in
    let count : k - length (digits 8 false n) ≡ k + 0 - length (digits 8 false n) = omega arith in
    as_padded k (digits 8 false n) ∙ ap (λ (z : ℕ). zeros z ++ digits 8 false n) count ∙ all ∙ append-nil (octal_digits k n)
