-- How a pattern is printed: in octal, three digits of a word to one of the text.
use Rattle.std.specs.Prelude.{ℕ, zero, suc, ◌+◌, ◌/◌, ◌%◌, List, [], ◌∷◌, ◌++◌}
use Rattle.agc_word.specs.Number.{Number, pattern_of}

-- the last digits of a number in octal, a given count, the highest first
unfoldable pub octal_digits : ℕ → ℕ → List ℕ
octal_digits zero n = []
octal_digits (suc width) n = octal_digits width (n / 8) ++ (48 + n % 8) ∷ []

-- a word in print: the five octal digits of its pattern
abbrev pub word_digits : Number → List ℕ
word_digits word = octal_digits 5 (pattern_of 15 word)
