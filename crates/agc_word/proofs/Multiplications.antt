-- The two words of a product stand for the product of the values.
use Rattle.std.proofs.Common.{◌≡◌, ℕ, zero, suc, ◌*◌, ◌/◌, ◌%◌, ◌==◌, Bool, true, false, not, ◌&&◌, ◌*ℤ◌, refl, sym, ◌∙◌, arith}
use Rattle.std.proofs.Math.IntN.{pos-*ℤ-pos, negsuc-*ℤ-pos, pos-*ℤ-negsuc, negsuc-*ℤ-negsuc}
use Rattle.std.proofs.lemmas.Bool.Decides.{nat_tests}
use Rattle.std.proofs.lemmas.Int.{ints}
use Rattle.agc_word.specs.Number.{Number, value}
use Rattle.agc_word.specs.Products.{signs_differ, product_of, dividend_of}

abbrev signed : Bool → ℕ → Number
signed sign size = record { minus = sign; magnitude = size }

-- a magnitude in two words
two_words : (sign : Bool) (size : ℕ) → dividend_of (signed sign (size / 16384)) (signed sign (size % 16384)) ≡ value (signed sign size)
two_words true size = omega (arith, ints)
two_words false size = omega (arith, ints)

-- the sign of a product of zero does not matter
sign_of_zero : (sign : Bool) (m n : ℕ) → value (signed (sign && not (n == 0)) (m * n)) ≡ value (signed sign (m * n))
sign_of_zero false m n = refl
sign_of_zero true m zero = let none : m * 0 ≡ 0 = omega arith in rw none refl
sign_of_zero true m (suc n) = let some : (suc n == 0) ≡ false = grind (arith, nat_tests) in rw some refl

-- the product of two numbers by their signs
by_signs : (b : Bool) (m : ℕ) (c : Bool) (n : ℕ) → value (signed b m) *ℤ value (signed c n) ≡ value (signed (signs_differ b c) (m * n))
by_signs false m false n = pos-*ℤ-pos m n
by_signs false m true zero = let none : m * 0 ≡ 0 = omega arith in pos-*ℤ-pos m 0 ∙ rw none refl
by_signs false m true (suc n) = pos-*ℤ-negsuc m n
by_signs true zero false n = omega (arith, ints, pos-*ℤ-pos 0 n)
by_signs true (suc m) false n = negsuc-*ℤ-pos m n
by_signs true zero true zero = refl
by_signs true zero true (suc n) = omega (arith, ints, pos-*ℤ-negsuc 0 n)
by_signs true (suc m) true zero = let none : suc m * 0 ≡ 0 = omega arith in negsuc-*ℤ-pos m 0 ∙ rw none refl
by_signs true (suc m) true (suc n) = negsuc-*ℤ-negsuc m n

pub product_of-law : (a k : Number) → dividend_of (product_of a k).0 (product_of a k).1 ≡ value a *ℤ value k
unfolding product_of
product_of-law a k =
    two_words _ (a.magnitude * k.magnitude)
    ∙ sign_of_zero (signs_differ a.minus k.minus) a.magnitude k.magnitude
    ∙ sym (by_signs a.minus a.magnitude k.minus k.magnitude)
