-- Lines in print are cut at their line feeds as they were put together.
use Rattle.std.specs.Prelude.{◌≡◌, ℕ, ◌-◌, ◌<◌, ◌==◌, true, false, List, [], ◌∷◌, ◌++◌, length}
use Rattle.std.specs.List.{list_all, slice_split}
use Rattle.std.specs.Str.Lines.{strip_carriage_return}
use Rattle.std.proofs.Common.{refl, arith, get_or}
use Rattle.std.proofs.lemmas.Bool.Decides.{nat_tests}
use Rattle.std.proofs.lemmas.List.Splits.{length-slice_split, slice_split_at}
use Rattle.std.proofs.lemmas.List.Sums.{AllPass-from_list_all}
use Rattle.agc_word.specs.Text.{is_line_feed, lines_of, without_empty_end}
use Rattle.agc_script.proofs.Spaced.{in_line, prints}

-- a line whose bytes print ends in no carriage return
no_return : (b : ℕ) → prints b ≡ true → (b == 13) ≡ false
no_return b h = grind (arith, nat_tests)

no_return_at : (line : List ℕ) → list_all prints line ≡ true → (get_or line (length line - 1) 0 == 13) ≡ false
no_return_at [] h = refl
no_return_at (b ∷ bs) h = no_return _ (AllPass-from_list_all prints (b ∷ bs) h (length (b ∷ bs) - 1) 0 (omega arith))

whole_line : (line : List ℕ) → list_all prints line ≡ true → strip_carriage_return line ≡ line
whole_line line h = rw (no_return_at line h) refl

-- a part before others is a line
part_before : (part : List ℕ) (parts : List (List ℕ)) → 0 < length parts → without_empty_end (part ∷ parts) ≡ part ∷ without_empty_end parts
unfolding without_empty_end
part_before part [] h = absurd (omega arith)
part_before part (next ∷ parts) h = refl

-- a line before others
pub lines_more : (line rest : List ℕ) → list_all prints line ≡ true → lines_of (line ++ 0x0A ∷ rest) ≡ line ∷ lines_of rest
unfolding lines_of
lines_more line rest h =
    let some : 0 < length (slice_split is_line_feed rest) = omega (arith, length-slice_split is_line_feed rest) in
    rw (slice_split_at is_line_feed line 0x0A rest (in_line line h) refl, part_before line (slice_split is_line_feed rest) some, whole_line line h) refl

pub no_lines_of : lines_of [] ≡ []
unfolding lines_of without_empty_end
no_lines_of = refl
