-- When two words are the same.
use Rattle.std.proofs.Common.{◌≡◌, ℕ, Bool, true, false, refl, ap, ◌∙◌}
use Rattle.std.specs.Prelude.{◌==◌, ◌&&◌, IsTrue}
use Rattle.std.proofs.lemmas.Bool.{eq-eqb, eqb-true}
use Rattle.agc_word.specs.Number.{Number}
use Rattle.agc_listing.specs.Cell.{same_sign, same_word}

same_sign-refl : (b : Bool) → same_sign b b ≡ true
same_sign-refl true = refl
same_sign-refl false = refl

same_sign-same : (a b : Bool) → same_sign a b ≡ true → a ≡ b
same_sign-same true true h = refl
same_sign-same true false h = cc
same_sign-same false true h = cc
same_sign-same false false h = refl

both_hold : (a b : Bool) → (a && b) ≡ true → (a ≡ true) × (b ≡ true)
both_hold true true h = (refl, refl)
both_hold true false h = cc
both_hold false b h = cc

pub same_word-refl : (x : Number) → same_word x x ≡ true
same_word-refl x = rw (same_sign-refl x.minus) (eq-eqb x.magnitude x.magnitude refl)

pub same_word-same : (x y : Number) → same_word x y ≡ true → x ≡ y
same_word-same x y h =
    let both = both_hold (same_sign x.minus y.minus) (x.magnitude == y.magnitude) h in
    ap (λ (b : Bool). record { minus = b; magnitude = x.magnitude }) (same_sign-same x.minus y.minus both.0)
    ∙ ap (λ (n : ℕ). record { minus = y.minus; magnitude = n }) (eqb-true x.magnitude y.magnitude both.1)

test_by : (b s : Bool) (x y : Number) → (IsTrue b → x ≡ y) → (x ≡ y → IsTrue b) → same_word x y ≡ s → b ≡ s
test_by true true x y f g e = refl
test_by false false x y f g e = refl
test_by true false x y f g e = let k = f refl in let h : same_word x x ≡ false = ap (same_word x) k ∙ e in let j = same_word-refl x in cc
test_by false true x y f g e = let k = g (same_word-same x y e) in cc

-- in whichever way two words are compared
pub same_by : (b : Bool) (x y : Number) → (IsTrue b → x ≡ y) → (x ≡ y → IsTrue b) → b ≡ same_word x y
same_by b x y f g = test_by b (same_word x y) x y f g refl
