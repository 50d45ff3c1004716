-- The name in the first column of a line of text is one word of text.
use Rattle.std.specs.Prelude.{◌≡◌, ℕ, Bool, true, false, not, ◌&&◌, ◌||◌, List, [], ◌∷◌, cond, filter, Option, Some, None, is_some, if◌then◌else◌}
use Rattle.std.specs.List.{list_all, list_any, onto_first, slice_split}
use Rattle.std.proofs.Common.{refl, ap, arith}
use Rattle.std.proofs.lemmas.Bool.Decides.{nat_tests}
use Rattle.std.proofs.lemmas.List.Splits.{slice_split-cons_no, slice_split-cons_yes}
use Rattle.agc_listing.specs.Line.{is_hash, is_no_text}
use Rattle.agc_listing.proofs.Prints.{is_solid}
use Rattle.agc_word.specs.Text.{is_blank, is_empty_part, words_of}
use Rattle.agc_symbols.specs.Symbols.{is_place_name}
use Rattle.agc_listing.specs.Text.{before_comment, first_of, is_indented, is_name, label_of, parsed_by}
use Rattle.agc_listing.specs.Number.{offset_parsed}
use Rattle.agc_vocabulary.specs.Body.{line_label, unless_offset}
use Rattle.agc_vocabulary.proofs.Cut.{IsWord, one_word}

-- a byte of a word of text
abbrev is_in_word : ℕ → Bool
is_in_word b = not (is_blank b) && not (is_no_text b)

abbrev is_part : List ℕ → Bool
is_part part = list_all is_in_word part

split_any : (b c : Bool) → (b || c) ≡ false → (b ≡ false) × (c ≡ false)
split_any b c e = grind (arith, nat_tests)

split_all : (b c : Bool) → (b && c) ≡ true → (b ≡ true) × (c ≡ true)
split_all b c e = grind (arith, nat_tests)

both_not : (b c : Bool) → b ≡ false → c ≡ false → (not b && not c) ≡ true
both_not b c f g = rw (f, g) refl

-- the parts of a line of text between its spaces

onto_passes : (b : ℕ) (parts : List (List ℕ)) → is_in_word b ≡ true → list_all is_part parts ≡ true → list_all is_part (onto_first b parts) ≡ true
onto_passes b [] h k = rw h refl
onto_passes b (part ∷ parts) h k = rw h k

by_blank : (blank : Bool) (b : ℕ) (bs : List ℕ) → is_blank b ≡ blank → is_no_text b ≡ false → list_all is_part (slice_split is_blank bs) ≡ true → list_all is_part (slice_split is_blank (b ∷ bs)) ≡ true
by_blank true b bs e text rest = rw (slice_split-cons_yes is_blank b bs e) rest
by_blank false b bs e text rest =
    rw (slice_split-cons_no is_blank b bs e) (onto_passes b (slice_split is_blank bs) (both_not (is_blank b) (is_no_text b) e text) rest)

parts_pass : (line : List ℕ) → list_any is_no_text line ≡ false → list_all is_part (slice_split is_blank line) ≡ true
parts_pass [] h = refl
parts_pass (b ∷ bs) h =
    let text = split_any (is_no_text b) (list_any is_no_text bs) h in
    by_blank (is_blank b) b bs refl text.0 (parts_pass bs text.1)

-- its first word

abbrev is_some_part : List ℕ → Bool
is_some_part part = not (is_empty_part part)

kept_by : (empty : Bool) (part word : List ℕ) (rest words : List (List ℕ)) → is_empty_part part ≡ empty → is_part part ≡ true
    → cond (not empty) (part ∷ rest) rest ≡ word ∷ words → (rest ≡ word ∷ words → (is_part word ≡ true) × (is_empty_part word ≡ false))
    → (is_part word ≡ true) × (is_empty_part word ≡ false)
kept_by true part word rest words e h is later = later is
kept_by false part word rest words e h is later =
    let same : part ≡ word = cc in
    (rw same at h, rw same at e)

first_kept : (parts : List (List ℕ)) (word : List ℕ) (words : List (List ℕ)) → list_all is_part parts ≡ true → filter is_some_part parts ≡ word ∷ words
    → (is_part word ≡ true) × (is_empty_part word ≡ false)
first_kept [] word words h is = absurd cc
first_kept (part ∷ parts) word words h is =
    let two = split_all (is_part part) (list_all is_part parts) h in
    kept_by (is_empty_part part) part word (filter is_some_part parts) words refl two.0 is (first_kept parts word words two.1)

first_word : (line word : List ℕ) (words : List (List ℕ)) → list_any is_no_text line ≡ false → words_of line ≡ word ∷ words → (is_part word ≡ true) × (is_empty_part word ≡ false)
unfolding words_of
first_word line word words h is = first_kept (slice_split is_blank line) word words (parts_pass line h) is

-- its name

parsed_first : (hash : Bool) (word label : List ℕ) (words : List (List ℕ)) → is_hash word ≡ hash → first_of (if hash then [] else word ∷ words) ≡ Some label → (word ≡ label) × (hash ≡ false)
parsed_first true word label words e is = absurd cc
parsed_first false word label words e is = (cc, refl)

label_first : (indented : Bool) (words : List (List ℕ)) (label : List ℕ) → (if indented then None else first_of (before_comment words)) ≡ Some label
    → (rest : List (List ℕ)) × (words ≡ label ∷ rest) × (is_hash label ≡ false)
label_first true words label is = absurd cc
label_first false [] label is = absurd cc
label_first false (word ∷ words) label is =
    let parsed = parsed_first (is_hash word) word label (before_comment words) refl is in
    (words, rw parsed.0 refl, rw parsed.0 at parsed.1)

no_offset_by : (offset : Bool) (word label : List ℕ) → (if offset then None else Some word) ≡ Some label → word ≡ label
no_offset_by true word label is = absurd cc
no_offset_by false word label is = cc

no_offset : (first : Option (List ℕ)) (label : List ℕ) → unless_offset first ≡ Some label → first ≡ Some label
no_offset None label is = absurd cc
no_offset (Some word) label is = ap Some (no_offset_by (is_some (offset_parsed word)) word label is)

label_is_first : (line label : List ℕ) → line_label line ≡ Some label → (rest : List (List ℕ)) × (words_of line ≡ label ∷ rest) × (is_hash label ≡ false)
unfolding line_label label_of parsed_by
label_is_first line label is =
    label_first (is_indented line) (words_of line) label (no_offset (label_of line) label is)

part_is_solid : (part : List ℕ) → is_part part ≡ true → list_all is_solid part ≡ true
part_is_solid [] h = refl
part_is_solid (b ∷ bs) h =
    let two = split_all (is_in_word b) (is_part bs) h in
    let here = split_all (not (is_blank b)) (not (is_no_text b)) two.0 in
    rw (here.0, part_is_solid bs two.1) refl

not_so : (b : Bool) → not b ≡ true → b ≡ false
not_so true h = cc
not_so false h = refl

part_is_text : (part : List ℕ) → is_part part ≡ true → list_any is_no_text part ≡ false
part_is_text [] h = refl
part_is_text (b ∷ bs) h =
    let two = split_all (is_in_word b) (is_part bs) h in
    let here = not_so (is_no_text b) (split_all (not (is_blank b)) (not (is_no_text b)) two.0).1 in
    rw (here, part_is_text bs two.1) refl

order_or_digits : (part : List ℕ) → IsWord part → parsed_by part ≡ part ∷ []
unfolding parsed_by
order_or_digits part h = rw (one_word part h, h.parsed) refl

-- a name that a symbol file can hold
pub label_is_word : (line label : List ℕ) → list_any is_no_text line ≡ false → line_label line ≡ Some label → is_name label ≡ true
    → (is_place_name label ≡ true) × (parsed_by label ≡ label ∷ [])
label_is_word line label text is name =
    let first = label_is_first line label is in
    let part = first_word line label first.0 text first.1 in
    let other = part_is_text label part.0 in
    (rw (name, other) refl, order_or_digits label (record { solid = part_is_solid label part.0; some = part.1; parsed = first.2 }))
