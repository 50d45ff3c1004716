-- The lines of a file by number.
use Rattle.std.proofs.Common.{◌≡◌, ℕ, zero, suc, ◌<◌, List, [], ◌∷◌, length, refl, ap, sym, ◌∙◌, arith}
use Rattle.std.specs.Prelude.{Some, None, slice_get, option_map}
use Rattle.std.specs.List.{slice_split}
use Rattle.std.specs.Str.Lines.{strip_carriage_return}
use Rattle.std.proofs.lemmas.List.{length-map}
use Rattle.std.proofs.lemmas.Option.{slice_get-map, slice_get-get_or}
use Rattle.agc_word.specs.Text.{is_line_feed, lines_of, without_empty_end}

-- if nothing follows the last line feed, there is no line there; all lines before stay
kept : (parts : List (List ℕ)) (k : ℕ) → k < length (without_empty_end parts) → slice_get (without_empty_end parts) k ≡ slice_get parts k
unfolding without_empty_end
kept [] k within = refl
kept ([] ∷ []) k within = absurd (omega (arith, within))
kept ((b ∷ bs) ∷ []) k within = refl
kept (part ∷ next ∷ parts) zero within = refl
kept (part ∷ next ∷ parts) (suc k) within = kept (next ∷ parts) k (omega (arith, within))

-- the line with a number is the part with that number, without a carriage return
pub line_of_part : (file part : List ℕ) (k : ℕ) → k < length (lines_of file) → slice_get (slice_split is_line_feed file) k ≡ Some part
    → slice_get (lines_of file) k ≡ Some (strip_carriage_return part)
unfolding lines_of
line_of_part file part k within is =
    let parts = slice_split is_line_feed file in
    let fewer = rw (length-map (without_empty_end parts) strip_carriage_return) at within in
    slice_get-map strip_carriage_return (without_empty_end parts) k ∙ ap (option_map strip_carriage_return) (kept parts k fewer ∙ is)

-- each line is a part
pub some_part : (file : List ℕ) (k : ℕ) → k < length (lines_of file) → slice_get (slice_split is_line_feed file) k ≡ None → ⊥
unfolding lines_of
some_part file k within is =
    let parts = slice_split is_line_feed file in
    let fewer = rw (length-map (without_empty_end parts) strip_carriage_return) at within in
    let there = sym (slice_get-get_or (without_empty_end parts) k [] fewer) ∙ kept parts k fewer ∙ is in
    grind (arith, there)
