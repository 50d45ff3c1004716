-- The digits of a number are the binary digits of its pattern, and rows of binary digits can be cut and joined.
use Rattle.std.proofs.Common.{◌≡◌, ℕ, zero, suc, ◌+◌, ◌-◌, ◌*◌, ◌/◌, ◌%◌, ◌^◌, ◌<◌, List, [], ◌∷◌, ◌++◌, map, take, drop, length, get_or, refl, sym, ap, ◌∙◌, arith, add-one, zero-add, suc-add, pow-suc, mul_assoc, mul_comm, Bool, true, false, sub-one, one-add, le_refl, inl, inr, mod-eq_of_lt}
use Rattle.std.proofs.lemmas.Grind.{common_steps}
use Rattle.std.proofs.lemmas.Bool.Decides.{nat_tests}
use Rattle.std.proofs.lemmas.Bool.{cases_lt}
use Rattle.std.proofs.lemmas.List.{map-append}
use Rattle.std.proofs.lemmas.Nat.{pow_pos, shr_split, mod_below, mod-pow-add}
use Rattle.std.proofs.lemmas.Nat.Bits.{bit_at-suc, bit_at_above, bit_at_cat_low, bit_at_cat_high}
use Rattle.std.proofs.lemmas.Int.Digits.{number_push}
use Rattle.std.proofs.Math.Seq.{take-append_seam, drop-append_seam}
use Rattle.std.specs.Int.Digits.{number_from_digits}
use Rattle.std.specs.Int.{bit_at}
use Rattle.agc_word.specs.Number.{Number, number_from_pattern, pattern_of}
use Rattle.agc_word.specs.Digits.{binary, digits, flipped, number_of_digits}

-- the last digit is the remainder by 2
pub binary-snoc : (n m : ℕ) → binary (suc n) m ≡ binary n (m / 2) ++ (m % 2) ∷ []
unfolding binary
binary-snoc zero m = ap (λ (d : ℕ). d ∷ []) (omega arith)
binary-snoc (suc n) m =
    ap (λ (d : ℕ). d ∷ binary (suc n) m) (bit_at-suc m n) ∙ ap {B = List ℕ} (λ r. (m / 2 / 2 ^ n % 2) ∷ r) (binary-snoc n m)

pub length-binary : (n m : ℕ) → length (binary n m) ≡ n
unfolding binary
length-binary zero m = refl
length-binary (suc n) m = ap suc (length-binary n m)

-- if two numbers together are all ones, each has the other's digits flipped
pub binary-flipped : (n m p : ℕ) → m + p + 1 ≡ 2 ^ n → map flipped (binary n m) ≡ binary n p
unfolding binary
binary-flipped zero m p h = refl
binary-flipped (suc n) m p h =
    let halves : m / 2 + p / 2 + 1 ≡ 2 ^ n = omega arith in
    let last : flipped (m % 2) ≡ p % 2 = omega arith in
    ap (map flipped) (binary-snoc n m)
    ∙ map-append flipped (binary n (m / 2)) ((m % 2) ∷ [])
    ∙ ap {B = List ℕ} (λ r. r ++ flipped (m % 2) ∷ []) (binary-flipped n (m / 2) (p / 2) halves)
    ∙ ap (λ (d : ℕ). binary n (p / 2) ++ d ∷ []) last
    ∙ sym (binary-snoc n p)

-- the number that binary digits write
pub number-binary : (n m : ℕ) → number_from_digits 2 (binary n m) ≡ m % 2 ^ n
unfolding binary
number-binary zero m = omega arith
number-binary (suc n) m =
    ap (number_from_digits 2) (binary-snoc n m)
    ∙ number_push 2 (binary n (m / 2)) (m % 2)
    ∙ ap (λ (q : ℕ). q * 2 + m % 2) (number-binary n (m / 2))
    ∙ sym (mod-pow-add m n 1)
    ∙ ap (λ (k : ℕ). m % 2 ^ k) (add-one n)

-- digits above the lowest n do not matter
pub binary-low : (n a b : ℕ) → binary n (a * 2 ^ n + b) ≡ binary n b
unfolding binary
binary-low zero a b = refl
binary-low (suc n) a b =
    let doubled : a * 2 ^ suc n + b ≡ (a * 2) * 2 ^ n + b = ap (λ (w : ℕ). a * w + b) (pow-suc 2 n ∙ mul_comm (2 ^ n) 2) ∙ ap (λ (w : ℕ). w + b) (sym (mul_assoc a 2 (2 ^ n))) in
    ap (λ (d : ℕ). d ∷ binary n (a * 2 ^ suc n + b)) (bit_at_cat_low a (suc n) b n (omega arith))
    ∙ ap {B = List ℕ} (λ r. (b / 2 ^ n % 2) ∷ r) (ap (binary n) doubled ∙ binary-low n (a * 2) b)

pub binary-cat : (j k a b : ℕ) → b < 2 ^ k → binary (j + k) (a * 2 ^ k + b) ≡ binary j a ++ binary k b
unfolding binary
binary-cat zero k a b h = ap (λ (n : ℕ). binary n (a * 2 ^ k + b)) (zero-add k) ∙ binary-low k a b
binary-cat (suc j) k a b h =
    let place : j + k - k ≡ j = omega arith in
    ap (λ (n : ℕ). binary n (a * 2 ^ k + b)) (suc-add j k)
    ∙ ap (λ (d : ℕ). d ∷ binary (j + k) (a * 2 ^ k + b)) (bit_at_cat_high a k b (j + k) h (omega arith) ∙ ap (bit_at a) place)
    ∙ ap {B = List ℕ} (λ r. (a / 2 ^ j % 2) ∷ r) (binary-cat j k a b h)

-- a pattern whose top digit is 0 stands for itself
pub number_from_pattern-plus : (n p : ℕ) → p < 2 ^ n → number_from_pattern (suc n) p ≡ record { minus = false; magnitude = p }
number_from_pattern-plus n p h = grind (arith, nat_tests, common_steps)

-- a pattern whose top digit is 1 stands for the other digits flipped, with a minus
pub number_from_pattern-minus : (n m r : ℕ) → m + r + 1 ≡ 2 ^ n → number_from_pattern (suc n) (1 * 2 ^ n + r) ≡ record { minus = true; magnitude = m }
number_from_pattern-minus n m r h = grind (arith, nat_tests, common_steps)

-- the digits of the number that a pattern stands for are the pattern's
digits-plus : (n p : ℕ) → p < 2 ^ n → digits (suc n) (number_from_pattern (suc n) p) ≡ binary (suc n) p
unfolding binary digits
digits-plus n p h =
    ap (digits (suc n)) (number_from_pattern-plus n p h)
    ∙ ap (λ (k : ℕ). 0 ∷ binary k p) (sub-one (suc n))
    ∙ ap (λ (d : ℕ). d ∷ binary n p) (sym (bit_at_above p n n h (le_refl n)))

binary-minus : (n r : ℕ) → r < 2 ^ n → binary (suc n) (1 * 2 ^ n + r) ≡ 1 ∷ binary n r
unfolding binary
binary-minus n r h = ap (λ (k : ℕ). binary k (1 * 2 ^ n + r)) (sym (one-add n)) ∙ binary-cat 1 n 1 r h

digits-minus : (n m r : ℕ) → m + r + 1 ≡ 2 ^ n → digits (suc n) (number_from_pattern (suc n) (1 * 2 ^ n + r)) ≡ binary (suc n) (1 * 2 ^ n + r)
unfolding digits
digits-minus n m r h =
    ap (digits (suc n)) (number_from_pattern-minus n m r h)
    ∙ ap (λ (k : ℕ). 1 ∷ map flipped (binary k m)) (sub-one (suc n))
    ∙ ap {B = List ℕ} (λ ds. 1 ∷ ds) (binary-flipped n m r h)
    ∙ sym (binary-minus n r (omega arith))

pub digits-number_from_pattern : (n p : ℕ) → p < 2 ^ suc n → digits (suc n) (number_from_pattern (suc n) p) ≡ binary (suc n) p
digits-number_from_pattern n p h =
    elim (cases_lt p (2 ^ n)) [
      | inl low ↦ digits-plus n p low
      | inr high ↦
          let r : ℕ = p - 2 ^ n in
          let whole : 1 * 2 ^ n + r ≡ p = omega arith in
          ap (λ (q : ℕ). digits (suc n) (number_from_pattern (suc n) q)) (sym whole)
          ∙ digits-minus n (2 ^ n - 1 - r) r (omega (arith, pow-suc 2 n))
          ∙ ap (binary (suc n)) whole
    ]

-- the number that binary digits write is the one that their pattern stands for
number_of_digits-plus : (n p : ℕ) → p < 2 ^ n → number_of_digits (binary (suc n) p) ≡ number_from_pattern (suc n) p
unfolding binary number_of_digits
number_of_digits-plus n p h =
    ap (λ (d : ℕ). number_of_digits (d ∷ binary n p)) (bit_at_above p n n h (le_refl n))
    ∙ ap (λ (m : ℕ). record { minus = false; magnitude = m }) (number-binary n p ∙ mod-eq_of_lt h)
    ∙ sym (number_from_pattern-plus n p h)

number_of_digits-minus : (n m r : ℕ) → m + r + 1 ≡ 2 ^ n → number_of_digits (binary (suc n) (1 * 2 ^ n + r)) ≡ number_from_pattern (suc n) (1 * 2 ^ n + r)
unfolding number_of_digits
number_of_digits-minus n m r h =
    let small : m < 2 ^ n = omega arith in
    ap number_of_digits (binary-minus n r (omega arith))
    ∙ ap (λ (ds : List ℕ). record { minus = true; magnitude = number_from_digits 2 ds }) (binary-flipped n r m (omega arith))
    ∙ ap (λ (k : ℕ). record { minus = true; magnitude = k }) (number-binary n m ∙ mod-eq_of_lt small)
    ∙ sym (number_from_pattern-minus n m r h)

pub number_of_digits-binary : (n p : ℕ) → p < 2 ^ suc n → number_of_digits (binary (suc n) p) ≡ number_from_pattern (suc n) p
number_of_digits-binary n p h =
    elim (cases_lt p (2 ^ n)) [
      | inl low ↦ number_of_digits-plus n p low
      | inr high ↦
          let r : ℕ = p - 2 ^ n in
          let whole : 1 * 2 ^ n + r ≡ p = omega arith in
          ap (λ (q : ℕ). number_of_digits (binary (suc n) q)) (sym whole)
          ∙ number_of_digits-minus n (2 ^ n - 1 - r) r (omega (arith, pow-suc 2 n))
          ∙ ap (number_from_pattern (suc n)) whole
    ]

-- the first j of j + k digits, and the last k
pub take-binary : (j k p : ℕ) → take j (binary (j + k) p) ≡ binary j (p / 2 ^ k)
take-binary j k p =
    let front : List ℕ = binary j (p / 2 ^ k) in
    let back : List ℕ = binary k (p % 2 ^ k) in
    ap (λ (q : ℕ). take j (binary (j + k) q)) (sym (shr_split p k))
    ∙ ap (take j) (binary-cat j k (p / 2 ^ k) (p % 2 ^ k) (mod_below p (2 ^ k) (pow_pos k)))
    ∙ ap (λ (i : ℕ). take i (front ++ back)) (sym (length-binary j (p / 2 ^ k)))
    ∙ take-append_seam front back

pub drop-binary : (j k p : ℕ) → drop j (binary (j + k) p) ≡ binary k (p % 2 ^ k)
drop-binary j k p =
    let front : List ℕ = binary j (p / 2 ^ k) in
    let back : List ℕ = binary k (p % 2 ^ k) in
    ap (λ (q : ℕ). drop j (binary (j + k) q)) (sym (shr_split p k))
    ∙ ap (drop j) (binary-cat j k (p / 2 ^ k) (p % 2 ^ k) (mod_below p (2 ^ k) (pow_pos k)))
    ∙ ap (λ (i : ℕ). drop i (front ++ back)) (sym (length-binary j (p / 2 ^ k)))
    ∙ drop-append_seam front back

-- the digit at a place is the bit at the same distance from the right
pub get_or-binary : (n i j p : ℕ) → i + j + 1 ≡ n → get_or (binary n p) j 0 ≡ p / 2 ^ i % 2
unfolding binary
get_or-binary zero i j p e = absurd (omega arith)
get_or-binary (suc n) i zero p e = ap (bit_at p) (omega arith)
get_or-binary (suc n) i (suc j) p e = get_or-binary n i j p (omega arith)

-- a narrow number is the one that its pattern stands for
number_back : (sign : Bool) (m : ℕ) → m < 2 ^ 14 → number_from_pattern 15 (pattern_of 15 (record { minus = sign; magnitude = m })) ≡ record { minus = sign; magnitude = m }
number_back true m h = grind (arith, nat_tests)
number_back false m h = grind (arith, nat_tests)

pub number_from_pattern-pattern_of : (x : Number) → x.magnitude < 2 ^ 14 → number_from_pattern 15 (pattern_of 15 x) ≡ x
number_from_pattern-pattern_of x h = number_back x.minus x.magnitude h

pub digits-pattern_of : (x : Number) → x.magnitude < 2 ^ 14 → digits 15 x ≡ binary 15 (pattern_of 15 x)
digits-pattern_of x h = ap (digits 15) (sym (number_from_pattern-pattern_of x h)) ∙ digits-number_from_pattern 14 (pattern_of 15 x) (grind (arith, nat_tests))
