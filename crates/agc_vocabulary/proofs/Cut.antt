-- The lines of a rope's source are split as they were put together, and so are their words.
use Rattle.std.specs.Prelude.{◌≡◌, ℕ, ◌-◌, ◌<◌, ◌==◌, true, false, List, [], ◌∷◌, ◌++◌, codes, length}
use Rattle.std.specs.List.{list_all, slice_split}
use Rattle.std.specs.Str.Lines.{strip_carriage_return}
use Rattle.std.proofs.Common.{refl, arith, get_or}
use Rattle.std.proofs.lemmas.Bool.Decides.{nat_tests}
use Rattle.std.proofs.lemmas.List.Splits.{length-slice_split, slice_split_at, slice_split_none}
use Rattle.std.proofs.lemmas.List.Sums.{AllPass-from_list_all}
use Rattle.agc_word.specs.Text.{is_blank, is_empty_part, is_line_feed, lines_of, without_empty_end, words_of}
use Rattle.agc_listing.specs.Line.{is_hash}
use Rattle.agc_listing.proofs.Prints.{in_line, is_solid, no_blank, prints}
use Rattle.agc_listing.specs.Text.{parsed_by}

-- a line of printable bytes does not end in a carriage return
no_return : (b : ℕ) → prints b ≡ true → (b == 13) ≡ false
no_return b h = grind (arith, nat_tests)

no_return_at : (line : List ℕ) → list_all prints line ≡ true → (get_or line (length line - 1) 0 == 13) ≡ false
no_return_at [] h = refl
no_return_at (b ∷ bs) h = no_return _ (AllPass-from_list_all prints (b ∷ bs) h (length (b ∷ bs) - 1) 0 (omega arith))

whole_line : (line : List ℕ) → list_all prints line ≡ true → strip_carriage_return line ≡ line
whole_line line h = rw (no_return_at line h) refl

-- a part before others is a line
part_before : (part : List ℕ) (parts : List (List ℕ)) → 0 < length parts → without_empty_end (part ∷ parts) ≡ part ∷ without_empty_end parts
unfolding without_empty_end
part_before part [] h = absurd (omega arith)
part_before part (next ∷ parts) h = refl

-- a line before others
pub lines_more : (line rest : List ℕ) → list_all prints line ≡ true → lines_of (line ++ 0x0A ∷ rest) ≡ line ∷ lines_of rest
unfolding lines_of
lines_more line rest h =
    let some : 0 < length (slice_split is_line_feed rest) = omega (arith, length-slice_split is_line_feed rest) in
    rw (slice_split_at is_line_feed line 0x0A rest (in_line line h) refl, part_before line (slice_split is_line_feed rest) some, whole_line line h) refl

pub no_lines : lines_of [] ≡ []
unfolding lines_of without_empty_end
no_lines = refl

-- a part of a line that is one word
pub record IsWord (part : List ℕ) : Type 0 where
  pub solid : list_all is_solid part ≡ true
  pub some : is_empty_part part ≡ false
  pub parsed : is_hash part ≡ false

-- leading spaces separate nothing
pub indented : (rest : List ℕ) → words_of (codes "        " ++ rest) ≡ words_of rest
unfolding words_of
indented rest = refl

pub one_word : (part : List ℕ) → IsWord part → words_of part ≡ part ∷ []
unfolding words_of
one_word part h = rw (slice_split_none is_blank part (no_blank part h.solid), h.some) refl

pub word_before : (part rest : List ℕ) → IsWord part → words_of (part ++ 0x20 ∷ rest) ≡ part ∷ words_of rest
unfolding words_of
word_before part rest h = rw (slice_split_at is_blank part 0x20 rest (no_blank part h.solid) refl, h.some) refl

-- a line of one word, and one of two
pub says_one : (part : List ℕ) → IsWord part → parsed_by (codes "        " ++ part) ≡ part ∷ []
unfolding parsed_by
says_one part h = rw (indented part, one_word part h, h.parsed) refl

pub says_two : (part next : List ℕ) → IsWord part → IsWord next → parsed_by (codes "        " ++ (part ++ 0x20 ∷ next)) ≡ part ∷ next ∷ []
unfolding parsed_by
says_two part next h k = rw (indented (part ++ 0x20 ∷ next), word_before part next h, one_word next k, h.parsed, k.parsed) refl
