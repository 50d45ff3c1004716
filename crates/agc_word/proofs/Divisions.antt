-- A division has one quotient and one remainder.
use Rattle.std.proofs.Common.{◌≡◌, ℕ, ◌+◌, ◌*◌, ◌<◌, ◌≤◌, ◌⊎◌, Bool, ap, ap₂, inl, inr, sym, ◌∙◌, arith, mul-le-mul_right}
use Rattle.std.proofs.lemmas.Nat.{same_from_place}
use Rattle.agc_word.specs.Number.{Number}
use Rattle.agc_word.specs.Products.{IsDivision}

-- no remainder is larger than the divisor
remainder_within : (k r : ℕ) {A : Type 0} → (r < k) ⊎ (A × (r ≡ k)) → r ≤ k
remainder_within k r rest = elim rest [ inl below ↦ omega arith | inr (_, even) ↦ omega arith ]

-- a dividend too large for the divisor has no quotient
pub too_large : (d k q r : ℕ) → q ≤ 16383 → r ≤ k → d ≡ q * k + r → d ≤ 16384 * k
too_large d k q r fits rest whole = omega (arith, mul-le-mul_right k fits)

same_parts : (k q r p s : ℕ) → q ≤ 16383 → p ≤ 16383 → q * k + r ≡ p * k + s → (r < k) ⊎ ((q ≡ 16383) × (r ≡ k)) → (s < k) ⊎ ((p ≡ 16383) × (s ≡ k)) → (q ≡ p) × (r ≡ s)
same_parts k q r p s qf pf e (inl x) (inl y) = same_from_place q r p s k x y e
same_parts k q r p s qf pf e (inl x) (inr y) = absurd (omega (arith, mul-le-mul_right k qf, ap (λ (n : ℕ). n * k) y.0))
same_parts k q r p s qf pf e (inr x) (inl y) = absurd (omega (arith, mul-le-mul_right k pf, ap (λ (n : ℕ). n * k) x.0))
same_parts k q r p s qf pf e (inr x) (inr y) = (x.0 ∙ sym y.0, x.1 ∙ sym y.1)

same_number : (x y : Number) → x.minus ≡ y.minus → x.magnitude ≡ y.magnitude → x ≡ y
same_number x y sign size = ap₂ {C = Number} (λ (b : Bool) (n : ℕ). record { minus = b; magnitude = n }) sign size

-- no other pair meets the law
pub IsDivision-only : (a l k q r p s : Number) → IsDivision a l k q r → IsDivision a l k p s → (p ≡ q) × (s ≡ r)
IsDivision-only a l k q r p s this other =
    let parts = same_parts k.magnitude p.magnitude s.magnitude q.magnitude r.magnitude other.fits this.fits (sym other.whole ∙ this.whole) other.rest this.rest in (
      same_number p q (other.quotient_sign ∙ sym this.quotient_sign) parts.0,
      same_number s r (other.remainder_sign ∙ sym this.remainder_sign) parts.1,
    )
