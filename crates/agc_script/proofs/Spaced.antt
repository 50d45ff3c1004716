-- Words written with a space between them are cut as they were put together.
use Rattle.std.specs.Prelude.{◌≡◌, ℕ, ◌+◌, ◌*◌, ◌≤◌, nat_le, nat_lt, Bool, true, false, ◌&&◌, List, [], ◌∷◌, ◌++◌, length, All}
use Rattle.std.specs.List.{list_all, list_any}
use Rattle.std.proofs.Common.{refl, arith, ap, ◌∙◌}
use Rattle.std.proofs.lemmas.Bool.{and_from}
use Rattle.std.proofs.lemmas.Bool.Decides.{nat_tests}
use Rattle.std.proofs.lemmas.List.{length-append}
use Rattle.std.proofs.lemmas.List.Elements.{All-tail, All-weaker}
use Rattle.std.proofs.lemmas.List.Folds.{list_all-append, list_any_none}
use Rattle.std.proofs.lemmas.List.Splits.{slice_split_at, slice_split_none}
use Rattle.std.proofs.lemmas.List.Sums.{AllPass-from_list_all, list_all-from_AllPass}
use Rattle.agc_script.specs.Line.{is_beyond_ascii}
use Rattle.agc_word.specs.Text.{is_blank, is_empty_part, is_line_feed, words_of}

-- a byte that prints in ASCII, and one that is no space beside
abbrev pub prints : ℕ → Bool
prints b = nat_le 0x20 b && nat_lt b 0x7F

abbrev pub is_solid : ℕ → Bool
is_solid b = nat_lt 0x20 b && nat_lt b 0x7F

-- a printed word, with at most this many bytes
pub record IsWord (most : ℕ) (word : List ℕ) : Type 0 where
  pub solid : list_all is_solid word ≡ true
  pub some : is_empty_part word ≡ false
  pub short : length word ≤ most

-- words with a space between them
abbrev pub spaced : List ℕ → List (List ℕ) → List ℕ
spaced word [] = word
spaced word (next ∷ words) = word ++ 0x20 ∷ spaced next words

-- two parts that pass, pass as one
pub both : (test : ℕ → Bool) (front back : List ℕ) → list_all test front ≡ true → list_all test back ≡ true → list_all test (front ++ back) ≡ true
both test front back f b = list_all-append test front back ∙ and_from _ _ f b

-- what a stronger test lets through
pub passes : (strong weak : ℕ → Bool) → ((b : ℕ) → strong b ≡ true → weak b ≡ true) → (text : List ℕ) → list_all strong text ≡ true → list_all weak text ≡ true
passes strong weak each text h =
    list_all-from_AllPass weak text (All-weaker (λ b. strong b ≡ true) (λ b. weak b ≡ true) each text (AllPass-from_list_all strong text h))

solid_prints : (b : ℕ) → is_solid b ≡ true → prints b ≡ true
solid_prints b h = grind (arith, nat_tests)

solid_is_no_blank : (b : ℕ) → is_solid b ≡ true → is_blank b ≡ false
solid_is_no_blank b h = grind (arith, nat_tests)

print_is_ascii : (b : ℕ) → prints b ≡ true → is_beyond_ascii b ≡ false
print_is_ascii b h = grind (arith, nat_tests)

print_is_in_line : (b : ℕ) → prints b ≡ true → is_line_feed b ≡ false
print_is_in_line b h = grind (arith, nat_tests)

no_blank : (word : List ℕ) → list_all is_solid word ≡ true → All (λ b. is_blank b ≡ false) word
no_blank word h = All-weaker (λ b. is_solid b ≡ true) (λ b. is_blank b ≡ false) solid_is_no_blank word (AllPass-from_list_all is_solid word h)

pub all_ascii : (line : List ℕ) → list_all prints line ≡ true → list_any is_beyond_ascii line ≡ false
all_ascii line h = list_any_none is_beyond_ascii line (All-weaker (λ b. prints b ≡ true) (λ b. is_beyond_ascii b ≡ false) print_is_ascii line (AllPass-from_list_all prints line h))

pub in_line : (line : List ℕ) → list_all prints line ≡ true → All (λ b. is_line_feed b ≡ false) line
in_line line h = All-weaker (λ b. prints b ≡ true) (λ b. is_line_feed b ≡ false) print_is_in_line line (AllPass-from_list_all prints line h)

-- a word before a space is the first, and a word alone is the only one
first_word : (word rest : List ℕ) → list_all is_solid word ≡ true → is_empty_part word ≡ false → words_of (word ++ 0x20 ∷ rest) ≡ word ∷ words_of rest
unfolding words_of
first_word word rest solid some = rw (slice_split_at is_blank word 0x20 rest (no_blank word solid) refl, some) refl

only_word : (word : List ℕ) → list_all is_solid word ≡ true → is_empty_part word ≡ false → words_of word ≡ word ∷ []
unfolding words_of
only_word word solid some = rw (slice_split_none is_blank word (no_blank word solid), some) refl

pub words_spaced : (most : ℕ) (word : List ℕ) (words : List (List ℕ)) → IsWord most word → All (IsWord most) words → words_of (spaced word words) ≡ word ∷ words
words_spaced most word [] w h = only_word word w.solid w.some
words_spaced most word (next ∷ words) w h =
    first_word word (spaced next words) w.solid w.some
    ∙ ap (λ (ws : List (List ℕ)). word ∷ ws) (words_spaced most next words (h 0 next (omega arith)) (All-tail (IsWord most) next words h))

pub spaced_prints : (most : ℕ) (word : List ℕ) (words : List (List ℕ)) → IsWord most word → All (IsWord most) words → list_all prints (spaced word words) ≡ true
spaced_prints most word [] w h = passes is_solid prints solid_prints word w.solid
spaced_prints most word (next ∷ words) w h =
    both prints word (0x20 ∷ spaced next words) (passes is_solid prints solid_prints word w.solid)
    (spaced_prints most next words (h 0 next (omega arith)) (All-tail (IsWord most) next words h))

pub spaced_short : (most : ℕ) (word : List ℕ) (words : List (List ℕ)) → IsWord most word → All (IsWord most) words → length (spaced word words) ≤ most + length words * (most + 1)
spaced_short most word [] w h = omega (arith, w.short)
spaced_short most word (next ∷ words) w h =
    let rest : length (spaced next words) ≤ most + length words * (most + 1) = spaced_short most next words (h 0 next (omega arith)) (All-tail (IsWord most) next words h) in
    omega (arith, length-append word (0x20 ∷ spaced next words), w.short, rest)
