-- A printed place reads back as the place, and is one word of printable bytes.
use Rattle.std.specs.Prelude.{◌≡◌, ℕ, ◌+◌, ◌/◌, ◌%◌, ◌^◌, ◌<◌, ◌==◌, nat_lt, Bool, true, false, List, [], ◌∷◌, ◌++◌, codes, length, take, drop, position, Option, Some, None, if◌then◌else◌}
use Rattle.std.specs.List.{list_all}
use Rattle.std.proofs.Common.{refl, sym, arith, append_assoc}
use Rattle.std.proofs.lemmas.Bool.Decides.{nat_tests}
use Rattle.agc_word.specs.Numeral.{number_of, octal_number}
use Rattle.agc_word.specs.Octal.{octal_digits}
use Rattle.agc_listing.specs.Line.{is_comma, is_hash, octal_exactly}
use Rattle.agc_listing.specs.List.{listed_place}
use Rattle.agc_listing.specs.Place.{place_text}
use Rattle.agc_listing.specs.declared.place.Place.TheVariants as printed
use Rattle.agc_listing.proofs.Octals.{length_octal, octal_back}
use Rattle.agc_listing.proofs.PlaceBack.{place_back, place_is_no_comment}
use Rattle.agc_listing.proofs.Prints.{both, digits_are_solid, digits_print, is_solid, place_passes, prints}
use Rattle.agc_word.specs.Text.{is_empty_part}
use Rattle.agc_listing.specs.Location.{IsWithin, begins_with_e, cell_address, cell_in_bank, cell_named, location_named}
use Rattle.agc_listing.specs.declared.location.Location.{Location}
use Rattle.agc_listing.specs.declared.location.Location.TheVariants as location
use Rattle.agc_symbols.specs.Writing.{name_line, place_of}

-- a printed cell
abbrev pub cell_text : ℕ → List ℕ
cell_text cell = place_text (printed.Erasable (cell / 0o400) (cell_address cell))

-- a printed place or cell
abbrev pub location_text : Location → List ℕ
location_text (location.Fixed place) = place_text (listed_place place)
location_text (location.Erasable cell) = cell_text cell

-- each has one

fixed_printed : (place : ℕ) → place < 0o110000 → place_of (location.Fixed place) ≡ Some (listed_place place)
fixed_printed place h = let t : nat_lt place 0o110000 ≡ true = grind (arith, nat_tests) in rw t refl

cell_printed : (cell : ℕ) → cell < 0o4000 → place_of (location.Erasable cell) ≡ Some (printed.Erasable (cell / 0o400) (cell_address cell))
cell_printed cell h = let t : nat_lt cell 0o4000 ≡ true = grind (arith, nat_tests) in rw t refl

-- numbers in digits

where_so : (b : Bool) (x : Option ℕ) (n : ℕ) → b ≡ true → (if b then x else None) ≡ Some n → x ≡ Some n
where_so true x n e h = h
where_so false x n e h = absurd cc

exact : (width n : ℕ) (text : List ℕ) → length text ≡ width → octal_exactly width text ≡ Some n → octal_number width text ≡ Some n
unfolding octal_exactly
exact width n text long back = where_so (length text == width) (octal_number width text) n (grind (arith, nat_tests)) back

octal_again : (width n : ℕ) → 0 < width → n < 8 ^ width → octal_number width (octal_digits width n) ≡ Some n
octal_again width n some small = exact width n (octal_digits width n) (length_octal width n) (octal_back width n some small)

-- a place

no_e : (n : ℕ) → (48 + n % 8 == 0x45) ≡ false
no_e n = grind (arith, nat_tests)

fixed_begins : (place : ℕ) → begins_with_e (place_text (listed_place place)) ≡ false
unfolding octal_digits
fixed_begins place = no_e (place / 0o2000 / 8)

too_long : (place : ℕ) → octal_number 4 (place_text (listed_place place)) ≡ None
unfolding octal_digits number_of
too_long place = refl

fixed_read : (place : ℕ) → place < 0o110000 → location_named (place_text (listed_place place)) ≡ Some (location.Fixed place)
unfolding location_named
fixed_read place h = rw (fixed_begins place, too_long place, place_back place h) refl

-- a cell

comma_second : (a : ℕ) (rest : List ℕ) → is_comma a ≡ false → position is_comma (a ∷ 0x2C ∷ rest) ≡ Some 1
comma_second a rest h = grind (arith, nat_tests)

no_comma : (n : ℕ) → is_comma (48 + n % 8) ≡ false
no_comma n = grind (arith, nat_tests)

comma_at : (cell : ℕ) → position is_comma (drop 1 (cell_text cell)) ≡ Some 1
unfolding octal_digits
comma_at cell = comma_second (48 + cell / 0o400 % 8) (octal_digits 4 (cell_address cell)) (no_comma (cell / 0o400))

before_comma : (cell : ℕ) → take 1 (drop 1 (cell_text cell)) ≡ octal_digits 1 (cell / 0o400)
unfolding octal_digits
before_comma cell = refl

after_comma : (cell : ℕ) → drop 2 (drop 1 (cell_text cell)) ≡ octal_digits 4 (cell_address cell)
unfolding octal_digits
after_comma cell = refl

address_fits : (cell : ℕ) → cell_address cell < 8 ^ 4
address_fits cell = grind (arith, nat_tests)

cell_by : (low : Bool) (cell : ℕ) → nat_lt cell 0o1400 ≡ low → cell_in_bank (Some (cell / 0o400)) (Some (if low then cell else 0o1400 + cell % 0o400)) ≡ Some cell
cell_by true cell h = grind (arith, nat_tests)
cell_by false cell h = grind (arith, nat_tests)

cell_again : (cell : ℕ) → cell_in_bank (Some (cell / 0o400)) (Some (cell_address cell)) ≡ Some cell
cell_again cell = cell_by (nat_lt cell 0o1400) cell refl

cell_back : (cell : ℕ) → cell < 0o4000 → cell_named (drop 1 (cell_text cell)) ≡ Some cell
unfolding cell_named
cell_back cell h =
    let bank = octal_again 1 (cell / 0o400) (omega arith) (omega arith) in
    let address = octal_again 4 (cell_address cell) (omega arith) (address_fits cell) in
    rw (comma_at cell, before_comma cell, after_comma cell, bank, address) (cell_again cell)

cell_read : (cell : ℕ) → cell < 0o4000 → location_named (cell_text cell) ≡ Some (location.Erasable cell)
unfolding location_named
cell_read cell h = rw (cell_back cell h) refl

pub location_read : (at : Location) → IsWithin at → location_named (location_text at) ≡ Some at
location_read (location.Fixed place) h = fixed_read place h
location_read (location.Erasable cell) h = cell_read cell h

-- its bytes

cell_passes : (test : ℕ → Bool) → ((width n : ℕ) → list_all test (octal_digits width n) ≡ true) → list_all test (codes ",") ≡ true → list_all test (codes "E") ≡ true → (cell : ℕ)
    → list_all test (cell_text cell) ≡ true
cell_passes test digits comma e cell =
    let bank = octal_digits 1 (cell / 0o400) in
    both test (codes "E" ++ bank ++ codes ",") (octal_digits 4 (cell_address cell))
    (both test (codes "E" ++ bank) (codes ",") (both test (codes "E") bank e (digits 1 (cell / 0o400))) comma) (digits 4 (cell_address cell))

pub location_solid : (at : Location) → list_all is_solid (location_text at) ≡ true
location_solid (location.Fixed place) = place_passes is_solid digits_are_solid refl place
location_solid (location.Erasable cell) = cell_passes is_solid digits_are_solid refl refl cell

pub location_prints : (at : Location) → list_all prints (location_text at) ≡ true
location_prints (location.Fixed place) = place_passes prints digits_print refl place
location_prints (location.Erasable cell) = cell_passes prints digits_print refl refl cell

pub location_some : (at : Location) → is_empty_part (location_text at) ≡ false
unfolding octal_digits
location_some (location.Fixed place) = refl
location_some (location.Erasable cell) = refl

pub location_no_comment : (at : Location) → is_hash (location_text at) ≡ false
location_no_comment (location.Fixed place) = place_is_no_comment place
location_no_comment (location.Erasable cell) = refl

-- the line of a name without its line feed
abbrev pub line_body : Location → List ℕ → List ℕ
line_body at name = location_text at ++ 0x20 ∷ name

pub line_is : (at : Location) (name : List ℕ) → IsWithin at → name_line at name ≡ line_body at name ++ 0x0A ∷ []
unfolding name_line octal_digits
line_is (location.Fixed place) name h = rw (fixed_printed place h) (sym (append_assoc (place_text (listed_place place)) (0x20 ∷ name) (0x0A ∷ [])))
line_is (location.Erasable cell) name h = rw (cell_printed cell h) (sym (append_assoc (cell_text cell) (0x20 ∷ name) (0x0A ∷ [])))
