-- Sums of a bank's words, one word more; and the word that is missing in a sum.
use Rattle.std.specs.Prelude.{◌≡◌, ℕ, zero, suc, ◌+◌, ◌^◌, ◌<◌, Bool, true, false, List, Some, None, if◌then◌else◌}
use Rattle.std.specs.Prelude.{ℤ, pos, negsuc, neg_ℤ, ◌+ℤ◌, ◌<ℤ◌}
use Rattle.std.proofs.Common.{refl, ap, ◌∙◌, arith, add-one}
use Rattle.std.proofs.lemmas.Int.{ints}
use Rattle.agc_word.specs.Number.{Number, value}
use Rattle.agc_word.specs.Arithmetic.{complement_of, is_plus_zero, signed_number}
use Rattle.agc_store.specs.Memory.{nothing}
use Rattle.agc_mend.specs.BankSum.{bank_word, carried_around, last_used, sum_of_first, word_missing, word_sum}

pub sum_none : (words : List Number) (bank : ℕ) → sum_of_first 0 words bank ≡ nothing
unfolding sum_of_first
sum_none words bank = refl

pub sum_more : (count : ℕ) (words : List Number) (bank : ℕ) → sum_of_first (count + 1) words bank ≡ word_sum (sum_of_first count words bank) (bank_word words bank count)
unfolding sum_of_first
sum_more count words bank = rw add-one refl

pub used_none : (words : List Number) (bank : ℕ) → last_used 0 words bank ≡ None
unfolding last_used
used_none words bank = refl

pub used_more : (count : ℕ) (words : List Number) (bank : ℕ) → last_used (count + 1) words bank ≡ (if is_plus_zero (bank_word words bank count) then last_used count words bank else Some count)
unfolding last_used
used_more count words bank = rw add-one refl

-- a sum stands for the sum of what its words stand for, carried around
value_of : (sign : Bool) (z : ℤ) → value (signed_number sign z) ≡ z
value_of true (pos zero) = refl
value_of false (pos zero) = refl
value_of sign (pos (suc n)) = refl
value_of sign (negsuc n) = refl

pub sum_value : (x y : Number) → value (word_sum x y) ≡ carried_around (value x +ℤ value y)
unfolding word_sum
sum_value x y = value_of _ (carried_around (value x +ℤ value y))

minus_value : (minus : Bool) (magnitude : ℕ) → value (complement_of (record { minus = minus; magnitude = magnitude })) ≡ neg_ℤ (value (record { minus = minus; magnitude = magnitude }))
unfolding complement_of
minus_value true zero = refl
minus_value true (suc n) = refl
minus_value false n = refl

pub low_value : (minus : Bool) (magnitude : ℕ) → magnitude < 2 ^ 14 → negsuc 16383 <ℤ value (record { minus = minus; magnitude = magnitude })
low_value true magnitude h = omega (arith, ints)
low_value false magnitude h = omega (arith, ints)

pub high_value : (minus : Bool) (magnitude : ℕ) → magnitude < 2 ^ 14 → value (record { minus = minus; magnitude = magnitude }) <ℤ pos 16384
high_value true magnitude h = omega (arith, ints)
high_value false magnitude h = omega (arith, ints)

around : (s w : ℤ) → negsuc 16383 <ℤ s → s <ℤ pos 16384 → negsuc 16383 <ℤ w → w <ℤ pos 16384 → carried_around (s +ℤ carried_around (w +ℤ neg_ℤ s)) ≡ w
around s w a b c d = grind (arith, ints)

pub missing : (sum wanted : Number) → sum.magnitude < 2 ^ 14 → wanted.magnitude < 2 ^ 14 → value (word_sum sum (word_missing sum wanted)) ≡ value wanted
unfolding word_missing
missing sum wanted s w =
    sum_value sum (word_sum wanted (complement_of sum))
    ∙ ap (λ (z : ℤ). carried_around (value sum +ℤ z)) (sum_value wanted (complement_of sum))
    ∙ ap (λ (z : ℤ). carried_around (value sum +ℤ carried_around (value wanted +ℤ z))) (minus_value sum.minus sum.magnitude)
    ∙ around (value sum) (value wanted) (low_value sum.minus sum.magnitude s) (high_value sum.minus sum.magnitude s) (low_value wanted.minus wanted.magnitude w) (high_value wanted.minus wanted.magnitude w)
