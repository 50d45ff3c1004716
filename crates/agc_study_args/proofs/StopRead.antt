-- The text of a location in the form of --until reads as the stop address of that location.
use Rattle.std.specs.Prelude.{◌≡◌, ℕ, ◌+◌, ◌/◌, ◌%◌, ◌^◌, ◌<◌, ◌≤◌, nat_le, true, false, List, [], ◌∷◌, Some}
use Rattle.std.specs.List.{position_or_len}
use Rattle.std.proofs.Common.{refl, arith}
use Rattle.std.proofs.lemmas.Bool.Decides.{nat_tests}
use Rattle.agc_word.specs.Numeral.{number_of, octal_number}
use Rattle.agc_word.specs.Octal.{octal_digits}
use Rattle.agc_machine.specs.StopAddress.{is_bank_comma, place_in_range, stop_address_of}
use Rattle.agc_listing.specs.Line.{octal_exactly}
use Rattle.agc_listing.specs.List.{listed_address}
use Rattle.agc_listing.specs.Place.{place_text}
use Rattle.agc_listing.specs.declared.place.Place.TheVariants as printed
use Rattle.agc_listing.proofs.Octals.{length_octal, octal_back}
use Rattle.agc_listing.specs.Location.{IsWithin, cell_address, location_at}
use Rattle.agc_listing.specs.declared.location.Location.{Location}
use Rattle.agc_listing.specs.declared.location.Location.TheVariants as location
use Rattle.agc_study_args.specs.Until.{StopsAt, stop_place}

-- two digits before the comma
no_comma : (n : ℕ) → is_bank_comma (48 + n % 8) ≡ false
no_comma n = grind (arith, nat_tests)

comma_third : (x y : ℕ) (rest : List ℕ) → is_bank_comma x ≡ false → is_bank_comma y ≡ false → position_or_len is_bank_comma (x ∷ y ∷ 44 ∷ rest) ≡ 2
comma_third x y rest hx hy = rw (hx, hy) refl

-- numbers read back
longer : (width most n : ℕ) (text : List ℕ) → width ≤ most → number_of 8 width text ≡ Some n → number_of 8 most text ≡ Some n
unfolding number_of
longer width most n text h is = grind (arith, nat_tests)

exactly : (width n : ℕ) (text : List ℕ) → octal_exactly width text ≡ Some n → number_of 8 width text ≡ Some n
unfolding octal_exactly
exactly width n text is = grind (arith, nat_tests)

digits_back : (width n : ℕ) → 0 < width → width ≤ 6 → n < 8 ^ width → octal_number 6 (octal_digits width n) ≡ Some n
digits_back width n some room small =
    longer width 6 n (octal_digits width n) room (exactly width n (octal_digits width n) (octal_back width n some small))

two_digits : (n : ℕ) → octal_digits 2 n ≡ (48 + n / 8 % 8) ∷ (48 + n % 8) ∷ []
unfolding octal_digits
two_digits n = refl

-- the text of a bank and an address
in_range : (bank address : ℕ) → bank ≤ 0o47 → address ≤ 0o7777
    → place_in_range (Some bank) (Some address) ≡ Some (record { bank = bank; address = address })
in_range bank address small low =
    let b : nat_le bank 0o47 ≡ true = grind (arith, nat_tests) in
    let a : nat_le address 0o7777 ≡ true = grind (arith, nat_tests) in
    rw (b, a) refl

stop_back : (bank address : ℕ) → bank ≤ 0o47 → address ≤ 0o7777
    → stop_address_of (place_text (printed.Fixed bank address)) ≡ Some (record { bank = bank; address = address })
unfolding stop_address_of
stop_back bank address small low =
    let x = no_comma (bank / 8) in
    let y = no_comma bank in
    let back = digits_back 2 bank (omega arith) (omega arith) (omega arith) in
    let first = rw (two_digits bank) at back in
    let second = digits_back 4 address (omega arith) (omega arith) (omega arith) in
    rw (two_digits bank, comma_third _ _ (octal_digits 4 address) x y, length_octal 4 address, first, second) (in_range bank address small low)

-- the order at a location runs there
fixed_low : (place : ℕ) → listed_address place ≤ 0o7777
unfolding listed_address
fixed_low place = grind (arith, nat_tests)

fixed_there : (place : ℕ) → place < 0o110000 → location_at (place / 0o2000) (listed_address place) ≡ location.Fixed place
unfolding listed_address location_at
fixed_there place h = grind (arith, nat_tests)

cell_low : (cell : ℕ) → cell_address cell ≤ 0o7777
cell_low cell = grind (arith, nat_tests)

cell_there : (cell : ℕ) → location_at (cell / 0o400) (cell_address cell) ≡ location.Erasable cell
unfolding location_at
cell_there cell = grind (arith, nat_tests)

pub stop_read : (at : Location) → IsWithin at → StopsAt at (stop_address_of (place_text (stop_place at)))
stop_read (location.Fixed place) h = rw (stop_back (place / 0o2000) (listed_address place) (omega arith) (fixed_low place)) (fixed_there place h)
stop_read (location.Erasable cell) h = rw (stop_back (cell / 0o400) (cell_address cell) (omega arith) (cell_low cell)) (cell_there cell)
