-- The bytes of a listed line: all are printable, and its first two words contain no space.
use Rattle.std.specs.Prelude.{◌≡◌, ℕ, ◌+◌, ◌/◌, ◌<◌, nat_lt, nat_le, Bool, true, false, not, ◌&&◌, List, ◌++◌, codes}
use Rattle.std.specs.List.{list_all, list_any, All}
use Rattle.std.proofs.Common.{◌∙◌, arith}
use Rattle.std.proofs.lemmas.Bool.{and_from}
use Rattle.std.proofs.lemmas.Bool.Decides.{nat_tests}
use Rattle.std.proofs.lemmas.List.Elements.{All-weaker}
use Rattle.std.proofs.lemmas.List.Folds.{list_all-append, list_any_none}
use Rattle.std.proofs.lemmas.List.Sums.{AllPass-from_list_all}
use Rattle.agc_word.specs.Octal.{octal_digits}
use Rattle.agc_word.specs.Text.{is_blank, is_line_feed}
use Rattle.agc_listing.specs.Line.{is_no_text}
use Rattle.agc_listing.specs.List.{listed_address, listed_place}
use Rattle.agc_listing.specs.Place.{place_text}
use Rattle.agc_listing.proofs.Octals.{all_octal}

-- a printable ASCII byte
abbrev pub prints : ℕ → Bool
prints b = nat_le 0x20 b && nat_lt b 0x7F

abbrev pub is_solid : ℕ → Bool
is_solid b = not (is_blank b)

digit_prints : (digit : ℕ) → digit < 8 → prints (48 + digit) ≡ true
digit_prints digit h = grind (arith, nat_tests)

digit_is_solid : (digit : ℕ) → digit < 8 → is_solid (48 + digit) ≡ true
digit_is_solid digit h = grind (arith, nat_tests)

-- if two parts pass a test, they pass as one
pub both : (test : ℕ → Bool) (front back : List ℕ) → list_all test front ≡ true → list_all test back ≡ true → list_all test (front ++ back) ≡ true
both test front back f b = list_all-append test front back ∙ and_from _ _ f b

pub digits_print : (width n : ℕ) → list_all prints (octal_digits width n) ≡ true
digits_print width n = all_octal prints digit_prints width n

pub digits_are_solid : (width n : ℕ) → list_all is_solid (octal_digits width n) ≡ true
digits_are_solid width n = all_octal is_solid digit_is_solid width n

-- a place's text passes a test that digits and a comma pass
pub place_passes : (test : ℕ → Bool) → ((width n : ℕ) → list_all test (octal_digits width n) ≡ true) → list_all test (codes ",") ≡ true → (place : ℕ) → list_all test (place_text (listed_place place)) ≡ true
place_passes test digits comma place =
    let bank = octal_digits 2 (place / 0o2000) in
    both test (bank ++ codes ",") (octal_digits 4 (listed_address place)) (both test bank (codes ",") (digits 2 (place / 0o2000)) comma) (digits 4 (listed_address place))

-- a printable byte is text, and not a line feed
print_is_text : (b : ℕ) → prints b ≡ true → is_no_text b ≡ false
print_is_text b h = grind (arith, nat_tests)

print_is_in_line : (b : ℕ) → prints b ≡ true → is_line_feed b ≡ false
print_is_in_line b h = grind (arith, nat_tests)

not_blank : (b : ℕ) → is_solid b ≡ true → is_blank b ≡ false
not_blank b h = grind (arith, nat_tests)

pub all_text : (line : List ℕ) → list_all prints line ≡ true → list_any is_no_text line ≡ false
all_text line h = list_any_none is_no_text line (All-weaker (λ b. prints b ≡ true) (λ b. is_no_text b ≡ false) print_is_text line (AllPass-from_list_all prints line h))

pub in_line : (line : List ℕ) → list_all prints line ≡ true → All (λ b. is_line_feed b ≡ false) line
in_line line h = All-weaker (λ b. prints b ≡ true) (λ b. is_line_feed b ≡ false) print_is_in_line line (AllPass-from_list_all prints line h)

pub no_blank : (word : List ℕ) → list_all is_solid word ≡ true → All (λ b. is_blank b ≡ false) word
no_blank word h = All-weaker (λ b. is_solid b ≡ true) (λ b. is_blank b ≡ false) not_blank word (AllPass-from_list_all is_solid word h)
