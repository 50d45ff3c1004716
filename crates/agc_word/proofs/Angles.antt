-- The shorter way round the circle is the one that the law of modular differences fixes.
use Rattle.std.proofs.Common.{◌≡◌, ℕ, zero, suc, ◌^◌, ◌<◌, ℤ, pos, negsuc, ◌+ℤ◌, ◌-ℤ◌, ◌*ℤ◌, ◌<ℤ◌, ◌≤ℤ◌, Bool, true, false, true≢false, refl, sym, ap, subst, ◌∙◌, arith}
use Rattle.std.proofs.lemmas.Int.{ints, by_lt_z}
use Rattle.agc_word.specs.Number.{Number, value, pattern_of}
use Rattle.agc_word.specs.Arithmetic.{signed_number}
use Rattle.agc_word.specs.Angles.{modular_difference_of, pattern_difference, shorter_way, IsModularDifference}

value-signed_number : (sign : Bool) (z : ℤ) → value (signed_number sign z) ≡ z
value-signed_number true (pos zero) = refl
value-signed_number false (pos zero) = refl
value-signed_number sign (pos (suc n)) = refl
value-signed_number sign (negsuc n) = refl

over_half : (d : ℤ) → pos 16383 <ℤ d → shorter_way d ≡ d -ℤ pos 32768
over_half d h = grind (arith, ints)

under_half : (d : ℤ) → d <ℤ negsuc 16383 → shorter_way d ≡ d +ℤ pos 32768
under_half d h = grind (arith, ints)

within_half : (d : ℤ) → d ≤ℤ pos 16383 → negsuc 16383 ≤ℤ d → shorter_way d ≡ d
within_half d h g = grind (arith, ints)

-- the sign of a zero
no_minus_zero : (z : ℤ) → z ≡ pos 0 → (signed_number false z).minus ≡ false
no_minus_zero z e = ap (λ (y : ℤ). (signed_number false y).minus) e

record IsShorterWay (d w : ℤ) : Type 0 where
  least : negsuc 16383 ≤ℤ w
  most : w ≤ℤ pos 16383
  turns : (n : ℤ) × (d ≡ w +ℤ n *ℤ pos 32768)

shorter_way_is : (d : ℤ) → negsuc 32766 ≤ℤ d → d ≤ℤ pos 32767 → IsShorterWay d (shorter_way d)
shorter_way_is d low high =
    by_lt_z (pos 16383) d
    (λ above. let e = over_half d above in record { least = omega (arith, ints); most = omega (arith, ints); turns = (pos 1, omega (arith, ints)) })
    (λ upto. by_lt_z d (negsuc 16383)
    (λ below. let e = under_half d below in record { least = omega (arith, ints); most = omega (arith, ints); turns = (negsuc 0, omega (arith, ints)) })
    (λ from. let e = within_half d upto from in record { least = omega (arith, ints); most = omega (arith, ints); turns = (pos 0, omega (arith, ints)) }))

difference_low : (m n : ℕ) → n < 2 ^ 15 → negsuc 32766 ≤ℤ (pos m -ℤ pos n)
difference_low m n h = omega (arith, ints)

difference_high : (m n : ℕ) → m < 2 ^ 15 → (pos m -ℤ pos n) ≤ℤ pos 32767
difference_high m n h = omega (arith, ints)

pub modular_difference_of-law : (a k : Number) → pattern_of 15 a < 2 ^ 15 → pattern_of 15 k < 2 ^ 15 → IsModularDifference a k (modular_difference_of a k)
unfolding modular_difference_of
modular_difference_of-law a k p q =
    let w : ℤ = shorter_way (pattern_difference a k) in
    let s = shorter_way_is (pattern_difference a k) (difference_low _ _ q) (difference_high _ _ p) in
    let e = value-signed_number false w in
    record {
      least = subst (λ (z : ℤ). negsuc 16383 ≤ℤ z) (sym e) s.least;
      most = subst (λ (z : ℤ). z ≤ℤ pos 16383) (sym e) s.most;
      turns = (s.turns.0, s.turns.1 ∙ ap (λ (z : ℤ). z +ℤ s.turns.0 *ℤ pos 32768) (sym e));
      no_minus_zero = λ none. no_minus_zero w (sym e ∙ none);
    }

abbrev signed : Bool → ℕ → Number
signed sign size = record { minus = sign; magnitude = size }

-- a number that is not -0 is determined by its integer
same_value : (b : Bool) (m : ℕ) (c : Bool) (n : ℕ) → (value (signed b m) ≡ pos 0 → b ≡ false) → (value (signed c n) ≡ pos 0 → c ≡ false) → value (signed b m) ≡ value (signed c n) → signed b m ≡ signed c n
same_value false m false n p q e = cc
same_value false m true zero p q e = absurd (true≢false (q refl))
same_value false m true (suc n) p q e = absurd cc
same_value true zero c n p q e = absurd (true≢false (p refl))
same_value true (suc m) false n p q e = absurd cc
same_value true (suc m) true zero p q e = absurd (true≢false (q refl))
same_value true (suc m) true (suc n) p q e = cc

one_in_a_turn : (d v w n m : ℤ) → negsuc 16383 ≤ℤ v → v ≤ℤ pos 16383 → negsuc 16383 ≤ℤ w → w ≤ℤ pos 16383 → d ≡ v +ℤ n *ℤ pos 32768 → d ≡ w +ℤ m *ℤ pos 32768 → v ≡ w
one_in_a_turn d v w n m a b x y e f = omega (arith, ints)

-- no other number meets the law
pub IsModularDifference-only : (a k d e : Number) → IsModularDifference a k d → IsModularDifference a k e → d ≡ e
IsModularDifference-only a k d e p q =
    let values = one_in_a_turn (pattern_difference a k) (value d) (value e) p.turns.0 q.turns.0 p.least p.most q.least q.most p.turns.1 q.turns.1 in
    same_value d.minus d.magnitude e.minus e.magnitude p.no_minus_zero q.no_minus_zero values
