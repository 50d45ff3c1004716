-- Numbers grow by one digit after the other.
use Rattle.std.specs.Prelude.{◌≡◌, ℕ, ◌+◌, ◌-◌, ◌*◌, ◌^◌, ◌≤◌, ◌<◌, Bool, true, false, List, take, length, Option, Some, None, IfSome, if◌then◌else◌}
use Rattle.std.specs.List.{list_all}
use Rattle.std.proofs.Common.{refl, arith, get_or, lit<}
use Rattle.std.proofs.Math.Nat.{mul-le-mul_right, pow-le-pow_left, pow-le-pow_right}
use Rattle.std.proofs.lemmas.Bool.Decides.{nat_tests}
use Rattle.std.proofs.lemmas.Grind.{common_steps, pow_more}
use Rattle.std.proofs.lemmas.List.Folds.{list_all_more}
use Rattle.agc_word.specs.Numeral.{is_digit, digits_value}

-- with a digit more the number is below the next power of the base
pub next_below : (value base digit i : ℕ) → digit < base → value < base ^ i → value * base + digit < base ^ (i + 1)
next_below value base digit i d v =
    omega (arith, mul-le-mul_right base v, pow_more base i)

-- nineteen digits fit
digits_fit : (base i : ℕ) → base ≤ 10 → i < 19 → base ^ (i + 1) ≤ 10 ^ 19
digits_fit base i b h = let l : i + 1 ≤ 19 = omega arith in omega (arith, pow-le-pow_left b (i + 1), pow-le-pow_right {n = 10} (lit< tt) l)

-- the number with its next digit fits, and so does the number before that digit is added
pub sum_fits : (value base digit i : ℕ) → base ≤ 10 → digit < base → value < base ^ i → i < 19 → value * base + digit < 2 ^ 64
sum_fits value base digit i b d v h = omega (arith, next_below value base digit i d v, digits_fit base i b h)

pub product_fits : (value base i : ℕ) → base ≤ 10 → value < base ^ i → i < 19 → value * base < 2 ^ 64
product_fits value base i b v h =
    omega (arith, mul-le-mul_right base v, pow_more base i, digits_fit base i b h)

read_by : (base b digit : ℕ) (t : Bool) → is_digit base b ≡ t → Some digit ≡ (if t then Some (b - 48) else None) → (is_digit base b ≡ true) × (digit ≡ b - 48) × (digit < base)
read_by base b digit true h e = let same : digit ≡ b - 48 = cc in (h, same, grind (arith, nat_tests))
read_by base b digit false h e = cc

pub digit_read : (base b digit : ℕ) → Some digit ≡ (if is_digit base b then Some (b - 48) else None) → (is_digit base b ≡ true) × (digit ≡ b - 48) × (digit < base)
digit_read base b digit e = read_by base b digit (is_digit base b) refl e

-- a digit more, after digits alone
pub all_digits-more : (base : ℕ) (digits : List ℕ) (i : ℕ) → i < length digits → list_all (is_digit base) (take i digits) ≡ true
    → is_digit base (get_or digits i 0) ≡ true → list_all (is_digit base) (take (i + 1) digits) ≡ true
all_digits-more base digits i h all here = rw (list_all_more (is_digit base) digits i 0 h, all, here)

-- the next digit counts at the end
pub digits_value-more : (base : ℕ) (digits : List ℕ) (i : ℕ) → i < length digits
    → digits_value base (take (i + 1) digits) ≡ digits_value base (take i digits) * base + (get_or digits i 0 - 48)
digits_value-more base digits i h = grind (arith, common_steps)

-- a number of fewer digits is below the greater power too
pub below_longer : (base fewer most : ℕ) (r : Option ℕ) → 0 < base → fewer ≤ most → IfSome r (λ number. number < base ^ fewer) → IfSome r (λ number. number < base ^ most)
below_longer base fewer most None some h below = tt
below_longer base fewer most (Some number) some h below = omega (arith, pow-le-pow_right {n = base} some h)
