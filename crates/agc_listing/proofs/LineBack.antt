-- A listed line names its place and its word.
use Rattle.std.specs.Prelude.{◌≡◌, ℕ, ◌^◌, ◌<◌, Bool, true, false, List, [], ◌∷◌, ◌++◌, codes, Some, Ok}
use Rattle.std.specs.List.{list_all}
use Rattle.std.proofs.Common.{refl, ap, ◌∙◌, arith, append_assoc}
use Rattle.std.proofs.lemmas.Bool.Decides.{nat_tests}
use Rattle.std.proofs.lemmas.List.Splits.{slice_split_at}
use Rattle.agc_word.specs.Number.{Number, pattern_of}
use Rattle.agc_word.specs.Octal.{octal_digits}
use Rattle.agc_store.specs.Cells.{narrow_number}
use Rattle.agc_word.specs.Text.{is_blank, is_empty_part, words_of}
use Rattle.agc_listing.specs.Line.{line_named, word_named, words_named}
use Rattle.agc_listing.specs.List.{line_text, listed_place}
use Rattle.agc_listing.specs.Order.{order_text}
use Rattle.agc_listing.specs.Place.{place_text}
use Rattle.agc_listing.proofs.Octals.{octal_back}
use Rattle.agc_listing.proofs.OrderPrints.{order_prints}
use Rattle.agc_listing.proofs.PlaceBack.{place_back, place_is_no_comment, place_is_some}
use Rattle.agc_listing.proofs.Prints.{all_text, both, digits_are_solid, digits_print, is_solid, no_blank, place_passes, prints}

-- a line without its line feed
abbrev pub line_body : ℕ → Bool → Number → List ℕ
line_body place extracode word =
    place_text (listed_place place) ++ codes " " ++ octal_digits 5 (pattern_of 15 word) ++ codes " " ++ order_text extracode word

pub line_ends : (place : ℕ) (extracode : Bool) (word : Number) → line_text place extracode word ≡ line_body place extracode word ++ 0x0A ∷ []
unfolding line_text
line_ends place extracode word = refl

pub line_prints : (place : ℕ) (extracode : Bool) (word : Number) → list_all prints (line_body place extracode word) ≡ true
line_prints place extracode word =
    let p = place_text (listed_place place) in
    let w = octal_digits 5 (pattern_of 15 word) in
    let place_prints = place_passes prints digits_print refl place in
    both prints (p ++ codes " " ++ w ++ codes " ") (order_text extracode word)
    (both prints (p ++ codes " " ++ w) (codes " ") (both prints (p ++ codes " ") w (both prints p (codes " ") place_prints refl) (digits_print 5 (pattern_of 15 word))) refl)
    (order_prints extracode word)

-- a narrow number comes back from its pattern
narrow_back-signed : (minus : Bool) (magnitude : ℕ) → magnitude < 2 ^ 14
    → narrow_number (pattern_of 15 (record { minus = minus; magnitude = magnitude })) ≡ record { minus = minus; magnitude = magnitude }
narrow_back-signed true magnitude h = grind (arith, nat_tests)
narrow_back-signed false magnitude h = grind (arith, nat_tests)

pub narrow_back : (word : Number) → word.magnitude < 2 ^ 14 → narrow_number (pattern_of 15 word) ≡ word
narrow_back word h = narrow_back-signed word.minus word.magnitude h

pattern-signed : (minus : Bool) (magnitude : ℕ) → magnitude < 2 ^ 14 → pattern_of 15 (record { minus = minus; magnitude = magnitude }) < 2 ^ 15
pattern-signed true magnitude h = omega arith
pattern-signed false magnitude h = omega arith

pub pattern_fits : (word : Number) → word.magnitude < 2 ^ 14 → pattern_of 15 word < 2 ^ 15
pattern_fits word h = pattern-signed word.minus word.magnitude h

-- two parts followed by spaces are the first two words
word_at : (part rest : List ℕ) → list_all is_solid part ≡ true → is_empty_part part ≡ false → words_of (part ++ 0x20 ∷ rest) ≡ part ∷ words_of rest
unfolding words_of
word_at part rest solid some = rw (slice_split_at is_blank part 0x20 rest (no_blank part solid) refl, some) refl

first_words : (place digits rest : List ℕ) → list_all is_solid place ≡ true → is_empty_part place ≡ false → list_all is_solid digits ≡ true → is_empty_part digits ≡ false
    → words_of (place ++ codes " " ++ digits ++ codes " " ++ rest) ≡ place ∷ digits ∷ words_of rest
first_words place digits rest solid some solid_digits some_digits =
    simp append_assoc (word_at place (digits ++ 0x20 ∷ rest) solid some ∙ ap (λ (ws : List (List ℕ)). place ∷ ws) (word_at digits rest solid_digits some_digits))

-- a word in print is not empty
digits_are_some : (n : ℕ) → is_empty_part (octal_digits 5 n) ≡ false
unfolding octal_digits
digits_are_some n = refl

-- the word in print reads back as the word
word_back : (place : ℕ) (word : Number) (comment : List (List ℕ)) → word.magnitude < 2 ^ 14
    → word_named place (octal_digits 5 (pattern_of 15 word) ∷ comment) ≡ Ok (Some (record { place = place; word = word }))
unfolding word_named
word_back place word comment narrow =
    rw (octal_back 5 (pattern_of 15 word) (omega arith) (pattern_fits word narrow), narrow_back word narrow) refl

words_back : (place : ℕ) (word : Number) (comment : List (List ℕ)) → place < 0o110000 → word.magnitude < 2 ^ 14
    → words_named (place_text (listed_place place) ∷ octal_digits 5 (pattern_of 15 word) ∷ comment) ≡ Ok (Some (record { place = place; word = word }))
unfolding words_named
words_back place word comment inside narrow =
    rw (place_is_no_comment place, place_back place inside) (word_back place word comment narrow)

-- what a listed line means
pub line_back : (place : ℕ) (extracode : Bool) (word : Number) → place < 0o110000 → word.magnitude < 2 ^ 14
    → line_named (line_body place extracode word) ≡ Ok (Some (record { place = place; word = word }))
unfolding line_named
line_back place extracode word inside narrow =
    let p = place_text (listed_place place) in
    let w = octal_digits 5 (pattern_of 15 word) in
    let solid = place_passes is_solid digits_are_solid refl place in
    let cut = first_words p w (order_text extracode word) solid (place_is_some place) (digits_are_solid 5 (pattern_of 15 word)) (digits_are_some (pattern_of 15 word)) in
    rw (all_text (line_body place extracode word) (line_prints place extracode word), cut)
    (words_back place word (words_of (order_text extracode word)) inside narrow)
