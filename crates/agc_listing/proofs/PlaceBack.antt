-- A printed place reads back as the place.
use Rattle.std.specs.Prelude.{◌≡◌, ℕ, ◌+◌, ◌*◌, ◌/◌, ◌%◌, ◌^◌, ◌<◌, ◌==◌, false, List, ◌∷◌, take, drop, position, Some}
use Rattle.std.proofs.Common.{refl, arith}
use Rattle.std.proofs.lemmas.Bool.Decides.{nat_tests}
use Rattle.agc_word.specs.Octal.{octal_digits}
use Rattle.agc_word.specs.Text.{is_empty_part}
use Rattle.agc_listing.specs.Line.{is_comma, is_hash, place_checked, place_named}
use Rattle.agc_listing.specs.List.{listed_address, listed_place}
use Rattle.agc_listing.specs.Place.{place_text}
use Rattle.agc_listing.proofs.Octals.{octal_back}

-- the place's text is not a comment, and the comma comes after two digits
first_digit : (n : ℕ) → (48 + n % 8 == 0x23) ≡ false
first_digit n = grind (arith, nat_tests)

no_comma : (n : ℕ) → is_comma (48 + n % 8) ≡ false
no_comma n = grind (arith, nat_tests)

pub place_is_no_comment : (place : ℕ) → is_hash (place_text (listed_place place)) ≡ false
unfolding octal_digits
place_is_no_comment place = first_digit (place / 0o2000 / 8)

pub place_is_some : (place : ℕ) → is_empty_part (place_text (listed_place place)) ≡ false
unfolding octal_digits
place_is_some place = refl

comma_at : (a b : ℕ) (rest : List ℕ) → is_comma a ≡ false → is_comma b ≡ false → position is_comma (a ∷ b ∷ 0x2C ∷ rest) ≡ Some 2
comma_at a b rest ha hb = grind (arith, nat_tests)

comma_of : (place : ℕ) → position is_comma (place_text (listed_place place)) ≡ Some 2
unfolding octal_digits
comma_of place =
    comma_at (48 + place / 0o2000 / 8 % 8) (48 + place / 0o2000 % 8) (octal_digits 4 (listed_address place)) (no_comma (place / 0o2000 / 8)) (no_comma (place / 0o2000))

before_comma : (place : ℕ) → take 2 (place_text (listed_place place)) ≡ octal_digits 2 (place / 0o2000)
unfolding octal_digits
before_comma place = refl

after_comma : (place : ℕ) → drop 3 (place_text (listed_place place)) ≡ octal_digits 4 (listed_address place)
unfolding octal_digits
after_comma place = refl

-- the bank and the address are the place's
address_fits : (place : ℕ) → place < 0o110000 → listed_address place < 8 ^ 4
unfolding listed_address
address_fits place h = grind (arith, nat_tests)

place_again : (place : ℕ) → 0o2000 * (place / 0o2000) + listed_address place % 0o2000 ≡ place
unfolding listed_address
place_again place = grind (arith, nat_tests)

checked : (place again address : ℕ) → place < 0o110000 → again ≡ place → address ≡ listed_address place → place_checked again address ≡ Some place
checked place again address h same listed = rw (same, listed) (grind (arith, nat_tests))

pub place_back : (place : ℕ) → place < 0o110000 → place_named (place_text (listed_place place)) ≡ Some place
unfolding place_named
place_back place h =
    let bank = octal_back 2 (place / 0o2000) (omega arith) (omega arith) in
    let address = octal_back 4 (listed_address place) (omega arith) (address_fits place h) in
    rw (comma_of place, before_comma place, after_comma place, bank, address)
    (checked place (0o2000 * (place / 0o2000) + listed_address place % 0o2000) (listed_address place) h (place_again place) refl)
