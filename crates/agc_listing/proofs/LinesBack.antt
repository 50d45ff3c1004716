-- The lines of a rope's text are split as they were listed, and name the words that they list.
use Rattle.std.specs.Prelude.{◌≡◌, ℕ, zero, suc, ◌+◌, ◌-◌, ◌^◌, ◌<◌, ◌≤◌, ◌==◌, Bool, true, false, List, [], ◌∷◌, ◌++◌, length, map, filter, Some, None, Ok}
use Rattle.std.specs.List.{flat_map, list_all, range_with_len, slice_split}
use Rattle.std.specs.Str.Lines.{strip_carriage_return}
use Rattle.std.proofs.Common.{refl, ap, sym, ◌∙◌, arith, get_or, append_assoc, append-nil, ne_eqb}
use Rattle.std.proofs.lemmas.Bool.Decides.{nat_tests}
use Rattle.std.proofs.lemmas.List.Folds.{list_any-append}
use Rattle.std.proofs.lemmas.List.Splits.{length-slice_split, slice_split_at}
use Rattle.std.proofs.lemmas.List.Sums.{AllPass-from_list_all}
use Rattle.agc_word.specs.Number.{Number}
use Rattle.agc_store.specs.Memory.{fixed_at}
use Rattle.agc_word.specs.Text.{is_line_feed, lines_of, without_empty_end}
use Rattle.agc_listing.specs.Laws.{has_line, named_word}
use Rattle.agc_listing.specs.Line.{line_named}
use Rattle.agc_listing.specs.List.{is_extracode_at, listed_line}
use Rattle.agc_listing.specs.Weave.{is_named, parsed_from, parsed_next}
use Rattle.agc_listing.specs.declared.line.PlacedWord.{PlacedWord}
use Rattle.agc_listing.proofs.LineBack.{line_back, line_body, line_ends, line_prints}
use Rattle.agc_listing.proofs.Prints.{in_line, prints}
use Rattle.agc_listing.proofs.Woven.{next_parsed}

-- a line of printable bytes does not end in a carriage return
no_return : (b : ℕ) → prints b ≡ true → (b == 13) ≡ false
no_return b h = grind (arith, nat_tests)

no_return_at : (line : List ℕ) → list_all prints line ≡ true → (get_or line (length line - 1) 0 == 13) ≡ false
no_return_at [] h = refl
no_return_at (b ∷ bs) h = no_return _ (AllPass-from_list_all prints (b ∷ bs) h (length (b ∷ bs) - 1) 0 (omega arith))

whole_line : (line : List ℕ) → list_all prints line ≡ true → strip_carriage_return line ≡ line
whole_line line h = rw (no_return_at line h) refl

-- a part before others is a line
part_before : (part : List ℕ) (parts : List (List ℕ)) → 0 < length parts → without_empty_end (part ∷ parts) ≡ part ∷ without_empty_end parts
unfolding without_empty_end
part_before part [] h = absurd (omega arith)
part_before part (next ∷ parts) h = refl

-- a line before others
lines_more : (line rest : List ℕ) → list_all prints line ≡ true → lines_of (line ++ 0x0A ∷ rest) ≡ line ∷ lines_of rest
unfolding lines_of
lines_more line rest h =
    let some : 0 < length (slice_split is_line_feed rest) = omega (arith, length-slice_split is_line_feed rest) in
    rw (slice_split_at is_line_feed line 0x0A rest (in_line line h) refl, part_before line (slice_split is_line_feed rest) some, whole_line line h) refl

pub no_lines_of : lines_of [] ≡ []
unfolding lines_of without_empty_end
no_lines_of = refl

-- the line of a place, if it has one
no_text : (words : List Number) (place : ℕ) → has_line words place ≡ false → listed_line None words place ≡ []
unfolding listed_line
no_text words place h = rw h refl

some_text : (words : List Number) (place : ℕ) → has_line words place ≡ true
    → listed_line None words place ≡ line_body place (is_extracode_at words place) (fixed_at place words) ++ 0x0A ∷ []
unfolding listed_line
some_text words place h = rw h (line_ends place (is_extracode_at words place) (fixed_at place words))

-- a line that names a place which no earlier line names
unnamed : (parsed : List PlacedWord) (line : List ℕ) (word : PlacedWord) → line_named line ≡ Ok (Some word) → is_named word.place parsed ≡ false → parsed_next parsed line ≡ Ok (Some word)
unfolding parsed_next
unnamed parsed line word says none = rw (says, none) refl

word_added : (words : List Number) (place n : ℕ) (parsed : List PlacedWord) (rest : List ℕ) → place < 0o110000 → (fixed_at place words).magnitude < 2 ^ 14
    → has_line words place ≡ true → is_named place parsed ≡ false
    → parsed_from n parsed (lines_of (listed_line None words place ++ rest)) ≡ parsed_from (n + 1) (parsed ++ named_word words place ∷ []) (lines_of rest)
word_added words place n parsed rest inside narrow has none =
    let extracode = is_extracode_at words place in
    let word = fixed_at place words in
    let line = line_body place extracode word in
    let cut : lines_of (listed_line None words place ++ rest) ≡ line ∷ lines_of rest =
    rw (some_text words place has) (ap lines_of (append_assoc line (0x0A ∷ []) rest) ∙ lines_more line rest (line_prints place extracode word)) in
    rw cut (next_parsed n parsed line (lines_of rest) (Some (named_word words place)) (unnamed parsed line (named_word words place) (line_back place extracode word inside narrow) none))

-- no place from one on is named
pub record NoneFrom (first : ℕ) (parsed : List PlacedWord) : Type 0 where
  pub none : (place : ℕ) → first ≤ place → is_named place parsed ≡ false

later : (first : ℕ) (parsed : List PlacedWord) → NoneFrom first parsed → NoneFrom (first + 1) parsed
later first parsed h = record { none = λ place from. h.none place (omega arith) }

named_more : (words : List Number) (first : ℕ) (parsed : List PlacedWord) → NoneFrom first parsed → NoneFrom (first + 1) (parsed ++ named_word words first ∷ [])
named_more words first parsed h =
    record {
      none = λ place from.
          let other : (first == place) ≡ false = ne_eqb first place (omega arith) in
          list_any-append (λ (word : PlacedWord). word.place == place) parsed (named_word words first ∷ []) ∙ rw (h.none place (omega arith), other) refl;
    }

abbrev texts : List Number → ℕ → ℕ → List ℕ
texts words first count = flat_map (listed_line None words) (range_with_len first count)

abbrev named : List Number → ℕ → ℕ → List PlacedWord
named words first count = map (named_word words) (filter (has_line words) (range_with_len first count))

parsed_by : (words : List Number) → ((place : ℕ) → (fixed_at place words).magnitude < 2 ^ 14) → (count first n : ℕ) (parsed : List PlacedWord) (has : Bool) → first + suc count ≤ 0o110000
    → NoneFrom first parsed → has_line words first ≡ has
    → ((m : ℕ) (before : List PlacedWord) → NoneFrom (first + 1) before → parsed_from m before (lines_of (texts words (first + 1) count)) ≡ Ok (before ++ named words (first + 1) count))
    → parsed_from n parsed (lines_of (texts words first (suc count))) ≡ Ok (parsed ++ named words first (suc count))
parsed_by words narrow count first n parsed true room none has rest =
    let line = word_added words first n parsed (texts words (first + 1) count) (omega arith) (narrow first) has (none.none first (omega arith)) in
    line ∙ rest (n + 1) (parsed ++ named_word words first ∷ []) (named_more words first parsed none)
    ∙ rw has (ap (λ (all : List PlacedWord). Ok all) (append_assoc parsed (named_word words first ∷ []) (named words (first + 1) count)))
parsed_by words narrow count first n parsed false room none has rest =
    rw (no_text words first has, has) (rest n parsed (later first parsed none))

-- the lines of the first `count` places name their words
pub parsed_range : (words : List Number) → ((place : ℕ) → (fixed_at place words).magnitude < 2 ^ 14) → (count first n : ℕ) (parsed : List PlacedWord) → first + count ≤ 0o110000 → NoneFrom first parsed
    → parsed_from n parsed (lines_of (texts words first count)) ≡ Ok (parsed ++ named words first count)
unfolding parsed_from
parsed_range words narrow zero first n parsed room none = rw no_lines_of (ap (λ (all : List PlacedWord). Ok all) (sym (append-nil parsed)))
parsed_range words narrow (suc count) first n parsed room none =
    parsed_by words narrow count first n parsed (has_line words first) room none refl (λ m before h. parsed_range words narrow count (first + 1) m before (omega arith) h)
