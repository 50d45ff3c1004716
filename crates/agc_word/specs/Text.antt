-- How text is cut into lines and words.
use Rattle.std.specs.Prelude.{ℕ, ◌==◌, Bool, true, false, not, ◌||◌, List, [], ◌∷◌, map, filter}
use Rattle.std.specs.Prelude.{if◌then◌else◌}
use Rattle.std.specs.List.{slice_split}
use Rattle.std.specs.Str.Lines.{strip_carriage_return}

-- the byte that separates lines
abbrev pub is_line_feed : ℕ → Bool
is_line_feed b = b == 0x0A

-- the bytes that separate words: a space and a tab
abbrev pub is_blank : ℕ → Bool
is_blank b = (b == 0x20) || (b == 0x09)

abbrev pub is_empty_part : List ℕ → Bool
is_empty_part [] = true
is_empty_part (b ∷ bs) = false

-- If the file ends in a line feed, nothing after that is a line.
unfoldable pub without_empty_end : List (List ℕ) → List (List ℕ)
without_empty_end [] = []
without_empty_end (part ∷ []) = if is_empty_part part then [] else part ∷ []
without_empty_end (part ∷ next ∷ parts) = part ∷ without_empty_end (next ∷ parts)

-- The lines of a file: the parts between its line feeds, each without one carriage return at its
-- end.
unfoldable pub lines_of : List ℕ → List (List ℕ)
lines_of file = map strip_carriage_return (without_empty_end (slice_split is_line_feed file))

-- the words of a line: the parts between its blanks
unfoldable pub words_of : List ℕ → List (List ℕ)
words_of line = filter (λ part. not (is_empty_part part)) (slice_split is_blank line)
