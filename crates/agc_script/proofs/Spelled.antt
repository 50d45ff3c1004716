-- A number that is written without leading zeros reads back as the number.
use Rattle.std.specs.Prelude.{◌≡◌, ℕ, zero, suc, ◌+◌, ◌-◌, ◌*◌, ◌/◌, ◌%◌, ◌^◌, ◌<◌, ◌≤◌, ◌==◌, true, false, List, [], ◌∷◌, length, fold, Some}
use Rattle.std.specs.Fmt.{digits, digits_onto}
use Rattle.std.specs.List.{list_all}
use Rattle.std.proofs.Common.{refl, arith, ap, ◌∙◌, inl, inr}
use Rattle.std.proofs.Math.Nat.{pow-le-pow_right}
use Rattle.std.proofs.lemmas.Bool.{and_from, eq-eqb}
use Rattle.std.proofs.lemmas.Bool.Decides.{eqb_tells, nat_tests}
use Rattle.agc_word.specs.Numeral.{digits_value, is_digit, number_of}

-- what the proofs need of a base
pub record IsBase (base : ℕ) : Type 0 where
  pub some : 0 < base
  pub few : base ≤ 10
  pub whole : (n : ℕ) → n / base * base + n % base ≡ n
  pub below : (n : ℕ) → n % base < base
  pub less : (n k : ℕ) → n < base ^ suc k → n / base < base ^ k
  pub last : (n : ℕ) → n < base ^ 1 → n / base ≡ 0

pub octal : IsBase 8
octal = record { some = omega arith; few = omega arith; whole = λ n. omega arith; below = λ n. omega arith; less = λ n k h. omega arith; last = λ n h. omega arith }

pub decimals : IsBase 10
decimals = record { some = omega arith; few = omega arith; whole = λ n. omega arith; below = λ n. omega arith; less = λ n k h. omega arith; last = λ n h. omega arith }

-- a byte that writes a digit is one
digit_is : (base : ℕ) → IsBase base → (n : ℕ) → is_digit base (48 + n % base) ≡ true
digit_is base b n =
    let low : n % base < base = b.below n in
    grind (arith, nat_tests)

-- a text is the digits of a number before what was written, with no more digits than the number has
record Spelt (base w n : ℕ) (acc text : List ℕ) : Type 0 where
  value : digits_value base text ≡ fold (λ v b. v * base + (b - 48)) n acc
  all : list_all (is_digit base) acc ≡ true → list_all (is_digit base) text ≡ true
  some : 1 ≤ length text
  short : length text ≤ w + length acc

-- the last digit, and one that follows others
step_last : (base k n : ℕ) (acc : List ℕ) → n % base < 10 → (n / base == 0) ≡ true → digits_onto (suc k) base false n acc ≡ (48 + n % base) ∷ acc
step_last base k n acc low e = rw e (grind (arith, nat_tests))

step_more : (base k n : ℕ) (acc : List ℕ) → n % base < 10 → (n / base == 0) ≡ false → digits_onto (suc k) base false n acc ≡ digits_onto k base false (n / base) ((48 + n % base) ∷ acc)
step_more base k n acc low e = rw e (grind (arith, nat_tests))

low_digit : (base : ℕ) → IsBase base → (n : ℕ) → n % base < 10
low_digit base b n = omega (arith, b.below n, b.few)

digit_value : (base n v : ℕ) (acc : List ℕ) → v * base + n % base ≡ n → fold (λ v b. v * base + (b - 48)) v ((48 + n % base) ∷ acc) ≡ fold (λ v b. v * base + (b - 48)) n acc
digit_value base n v acc e =
    let digit : v * base + (48 + n % base - 48) ≡ n = ap (λ (d : ℕ). v * base + d) (omega arith) ∙ e in
    ap (λ (m : ℕ). fold (λ v b. v * base + (b - 48)) m acc) digit

spelt_last : (base : ℕ) → IsBase base → (w n : ℕ) (acc : List ℕ) → n / base ≡ 0 → Spelt base (suc w) n acc ((48 + n % base) ∷ acc)
spelt_last base b w n acc last = record {
  value = digit_value base n 0 acc (rw last at (b.whole n));
  all = λ h. and_from _ _ (digit_is base b n) h;
  some = omega arith;
  short = omega arith;
}

spelt_more : (base : ℕ) → IsBase base → (w n : ℕ) (acc text : List ℕ) → Spelt base w (n / base) ((48 + n % base) ∷ acc) text → Spelt base (suc w) n acc text
spelt_more base b w n acc text s = record {
  value = s.value ∙ digit_value base n (n / base) acc (b.whole n);
  all = λ h. s.all (and_from _ _ (digit_is base b n) h);
  some = s.some;
  short = omega (arith, s.short);
}

spelt_end : (base : ℕ) → IsBase base → (k w n : ℕ) (acc : List ℕ) → n / base ≡ 0 → Spelt base (suc w) n acc (digits_onto (suc k) base false n acc)
spelt_end base b k w n acc e = rw (step_last base k n acc (low_digit base b n) (eq-eqb _ _ e)) (spelt_last base b w n acc e)

spelt : (base : ℕ) → IsBase base → (k w n : ℕ) (acc : List ℕ) → n < base ^ suc k → n < base ^ suc w → Spelt base (suc w) n acc (digits_onto (suc k) base false n acc)
spelt base b zero w n acc h room = spelt_end base b 0 w n acc (b.last n h)
spelt base b (suc k) zero n acc h room = spelt_end base b (suc k) 0 n acc (b.last n room)
spelt base b (suc k) (suc w) n acc h room =
    elim (eqb_tells (n / base) 0) as (λ _. Spelt base (suc (suc w)) n acc (digits_onto (suc (suc k)) base false n acc)) [
      | inl t ↦ spelt_end base b (suc k) (suc w) n acc t.1
      | inr t ↦
          rw (step_more base (suc k) n acc (low_digit base b n) t.0)
          (spelt_more base b (suc w) n acc _ (spelt base b k w (n / base) ((48 + n % base) ∷ acc) (b.less n (suc k) h) (b.less n (suc w) room)))
    ]

-- the digits of a number that a text has room for
spelt_all : (base : ℕ) → IsBase base → (w n : ℕ) → w ≤ 63 → n < base ^ suc w → Spelt base (suc w) n [] (digits base false n)
unfolding digits
spelt_all base b w n few h =
    let more : base ^ suc w ≤ base ^ 64 = pow-le-pow_right b.some (omega arith) in
    spelt base b 63 w n [] (omega (arith, h, more)) h

pub number_back : (base : ℕ) → IsBase base → (w n : ℕ) → w ≤ 63 → n < base ^ suc w → number_of base (suc w) (digits base false n) ≡ Some n
unfolding number_of
number_back base b w n few h =
    let s = spelt_all base b w n few h in
    let some : 1 ≤ length (digits base false n) = s.some in
    let short : length (digits base false n) ≤ suc w = omega (arith, s.short) in
    rw (s.all refl, s.value) (grind (arith, nat_tests))

pub length_spelled : (base : ℕ) → IsBase base → (w n : ℕ) → w ≤ 63 → n < base ^ suc w → length (digits base false n) ≤ suc w
length_spelled base b w n few h = omega (arith, (spelt_all base b w n few h).short)

pub digits_are : (base : ℕ) → IsBase base → (w n : ℕ) → w ≤ 63 → n < base ^ suc w → list_all (is_digit base) (digits base false n) ≡ true
digits_are base b w n few h = (spelt_all base b w n few h).all refl

pub digits_some : (base : ℕ) → IsBase base → (w n : ℕ) → w ≤ 63 → n < base ^ suc w → 1 ≤ length (digits base false n)
digits_some base b w n few h = (spelt_all base b w n few h).some
