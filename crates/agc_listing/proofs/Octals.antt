-- The digits in which a number is printed read back as the number.
use Rattle.std.specs.Prelude.{◌≡◌, ℕ, zero, suc, ◌+◌, ◌-◌, ◌*◌, ◌/◌, ◌%◌, ◌^◌, ◌<◌, Bool, true, List, [], ◌∷◌, length, Some}
use Rattle.std.specs.List.{list_all}
use Rattle.std.proofs.Common.{refl, ap, ◌∙◌, arith, add-one}
use Rattle.std.proofs.lemmas.Bool.{and_from}
use Rattle.std.proofs.lemmas.Bool.Decides.{nat_tests}
use Rattle.std.proofs.lemmas.List.{length_push}
use Rattle.std.proofs.lemmas.List.Folds.{list_all-append}
use Rattle.std.proofs.lemmas.List.Sums.{fold_push}
use Rattle.agc_word.specs.Octal.{octal_digits}
use Rattle.agc_word.specs.Numeral.{digits_value, is_digit, number_of}
use Rattle.agc_listing.specs.Line.{octal_exactly}

-- as many digits as requested
pub length_octal : (width n : ℕ) → length (octal_digits width n) ≡ width
unfolding octal_digits
length_octal zero n = refl
length_octal (suc width) n =
    length_push (octal_digits width (n / 8)) (48 + n % 8) ∙ ap (λ (k : ℕ). k + 1) (length_octal width (n / 8)) ∙ add-one width

-- if each digit passes a test, all pass
pub all_octal : (test : ℕ → Bool) → ((digit : ℕ) → digit < 8 → test (48 + digit) ≡ true) → (width n : ℕ) → list_all test (octal_digits width n) ≡ true
unfolding octal_digits
all_octal test each zero n = refl
all_octal test each (suc width) n =
    list_all-append test (octal_digits width (n / 8)) ((48 + n % 8) ∷ [])
    ∙ and_from _ _ (all_octal test each width (n / 8)) (and_from _ _ (each (n % 8) (omega arith)) refl)

is_octal_digit : (digit : ℕ) → digit < 8 → is_digit 8 (48 + digit) ≡ true
is_octal_digit digit h = grind (arith, nat_tests)

value_octal : (width n : ℕ) → n < 8 ^ width → digits_value 8 (octal_digits width n) ≡ n
unfolding octal_digits
value_octal zero n h = omega arith
value_octal (suc width) n h =
    let less : n / 8 < 8 ^ width = omega arith in
    let last : n / 8 * 8 + (48 + n % 8 - 48) ≡ n = omega arith in
    fold_push (λ v b. v * 8 + (b - 48)) 0 (octal_digits width (n / 8)) (48 + n % 8)
    ∙ ap (λ (v : ℕ). v * 8 + (48 + n % 8 - 48)) (value_octal width (n / 8) less) ∙ last

exactly : (width n : ℕ) (text : List ℕ) → 0 < width → length text ≡ width → list_all (is_digit 8) text ≡ true → digits_value 8 text ≡ n → octal_exactly width text ≡ Some n
unfolding octal_exactly number_of
exactly width n text some long digits value = rw (long, digits, value) (grind (arith, nat_tests))

-- the digits read back as the number
pub octal_back : (width n : ℕ) → 0 < width → n < 8 ^ width → octal_exactly width (octal_digits width n) ≡ Some n
octal_back width n some small =
    exactly width n (octal_digits width n) some (length_octal width n) (all_octal (is_digit 8) is_octal_digit width n) (value_octal width n small)
