-- A text of table places is ASCII: it has only digits and commas.
use Rattle.std.specs.Prelude.{◌≡◌, ℕ, nat_lt, nat_le, Bool, true, false, ◌&&◌, List, [], ◌∷◌, length, Option, Some, None, option_and_then, if◌then◌else◌}
use Rattle.std.specs.List.{list_all, slice_split, onto_first}
use Rattle.std.specs.Str.{IsUtf8}
use Rattle.std.proofs.Common.{refl, arith}
use Rattle.std.proofs.lemmas.Bool.Decides.{nat_tests}
use Rattle.std.proofs.lemmas.List.Splits.{slice_split-cons_yes, slice_split-cons_no}
use Rattle.std.proofs.lemmas.List.Sums.{AllPass-from_list_all}
use Rattle.std.proofs.lemmas.Str.{IsUtf8-from_ascii}
use Rattle.std.proofs.lemmas.Str.Ascii.{IsAscii-from_all}
use Rattle.agc_word.specs.Numeral.{number_of, octal_number, is_digit}
use Rattle.agc_panel.specs.WatchSpec.{is_separator, numbers_in, numbers_in_pieces, spec_from, spec_of, with_number}

abbrev is_low : ℕ → Bool
is_low b = nat_lt b 128

abbrev are_low : List ℕ → Bool
are_low text = list_all is_low text

both : (a b : Bool) → (a && b) ≡ true → (a ≡ true) × (b ≡ true)
both true true h = (refl, refl)
both true false h = (refl, h)
both false b h = (h, cc)

-- digits are low
digits_low : (text : List ℕ) → list_all (is_digit 8) text ≡ true → are_low text ≡ true
digits_low [] h = refl
digits_low (b ∷ text) h =
    let two = both (is_digit 8 b) (list_all (is_digit 8) text) h in
    let low : is_low b ≡ true = grind (arith, nat_tests, two.0) in
    rw (low, digits_low text two.1) refl

-- a number is low
third : (a b c : Bool) (v n : ℕ) → (if a && b && c then Some v else None) ≡ Some n → c ≡ true
third a b true v n h = refl
third true true false v n h = cc
third true false false v n h = cc
third false b false v n h = cc

number_low : (text : List ℕ) (n : ℕ) → octal_number 6 text ≡ Some n → are_low text ≡ true
unfolding number_of
number_low text n h =
    digits_low text (third (nat_le 1 (length text)) (nat_le (length text) 6) (list_all (is_digit 8) text) _ n h)

-- so are all pieces, if each is one
pieces_low : (pieces : List (List ℕ)) (numbers : List ℕ) → numbers_in_pieces pieces ≡ Some numbers → list_all are_low pieces ≡ true
pieces_low [] numbers h = refl
pieces_low (piece ∷ pieces) numbers h = one_more (octal_number 6 piece) (numbers_in_pieces pieces) refl refl h (pieces_low pieces)
  where
    one_more : (first : Option ℕ) (rest : Option (List ℕ)) → octal_number 6 piece ≡ first → numbers_in_pieces pieces ≡ rest
        → option_and_then (λ number. with_number number rest) first ≡ Some numbers
        → ((others : List ℕ) → numbers_in_pieces pieces ≡ Some others → list_all are_low pieces ≡ true)
        → list_all are_low (piece ∷ pieces) ≡ true
    one_more None rest e f h all = cc
    one_more (Some n) None e f h all = cc
    one_more (Some n) (Some others) e f h all = rw (number_low piece n e, all others f) refl

-- a text is low if its pieces are
onto_low : (b : ℕ) (parts : List (List ℕ)) → list_all are_low (onto_first b parts) ≡ true → (is_low b ≡ true) × (list_all are_low parts ≡ true)
onto_low b [] h = let outer = both (is_low b && true) true h in let inner = both (is_low b) true outer.0 in (inner.0, refl)
onto_low b (part ∷ parts) h =
    let outer = both (is_low b && are_low part) (list_all are_low parts) h in
    let inner = both (is_low b) (are_low part) outer.0 in
    (inner.0, rw (inner.1, outer.1) refl)

text_low : (text : List ℕ) → list_all are_low (slice_split is_separator text) ≡ true → are_low text ≡ true
text_low [] h = refl
text_low (b ∷ text) h = one_more (is_separator b) refl (text_low text)
  where
    one_more : (s : Bool) → is_separator b ≡ s → (list_all are_low (slice_split is_separator text) ≡ true → are_low text ≡ true)
        → are_low (b ∷ text) ≡ true
    one_more true e rest =
        let low : is_low b ≡ true = grind (arith, nat_tests, e) in
        rw (low, rest (rw (slice_split-cons_yes is_separator b text e) at h)) refl
    one_more false e rest =
        let two = onto_low b (slice_split is_separator text) (rw (slice_split-cons_no is_separator b text e) at h) in
        rw (two.0, rest two.1) refl

low_utf8 : (text : List ℕ) → are_low text ≡ true → IsUtf8 text
low_utf8 text h =
    IsUtf8-from_ascii text (IsAscii-from_all text (λ k d l. let low = AllPass-from_list_all is_low text h k d l in grind (arith, nat_tests, low)))

pub no_spec : (text : List ℕ) → ¬ IsUtf8 text → spec_of text ≡ None
unfolding spec_of numbers_in
no_spec text h = by_numbers (numbers_in_pieces (slice_split is_separator text)) refl
  where
    by_numbers : (numbers : Option (List ℕ)) → numbers_in_pieces (slice_split is_separator text) ≡ numbers → option_and_then spec_from (numbers_in_pieces (slice_split is_separator text)) ≡ None
    by_numbers None e = rw e refl
    by_numbers (Some numbers) e = absurd (h (low_utf8 text (text_low text (pieces_low _ numbers e))))
