-- How a line of a source is split: its words before the comment, and the name in its first column.
use Rattle.std.specs.Prelude.{ℕ, ◌==◌, nat_le, Bool, true, false, not, ◌&&◌, ◌||◌, List, [], ◌∷◌, length}
use Rattle.std.specs.Prelude.{Option, Some, None, if◌then◌else◌}
use Rattle.std.specs.List.{list_all, list_any}
use Rattle.agc_word.specs.Numeral.{is_digit}
use Rattle.agc_word.specs.Text.{is_blank, words_of}
use Rattle.agc_listing.specs.Line.{is_comma, is_hash}

-- the words before the first one that begins with `#`
abbrev pub before_comment : List (List ℕ) → List (List ℕ)
before_comment [] = []
before_comment (word ∷ words) = if is_hash word then [] else word ∷ before_comment words

-- the words of a line, without its comment
unfoldable pub parsed_by : List ℕ → List (List ℕ)
parsed_by text = before_comment (words_of text)

-- a text of digits and commas alone, as places are written
unfoldable pub is_place_text : List ℕ → Bool
is_place_text word = list_all (λ b. is_digit 10 b || is_comma b) word

-- whether words are those of a listing line: no words, or a place first
abbrev pub are_listed : List (List ℕ) → Bool
are_listed [] = true
are_listed (first ∷ words) = is_place_text first

-- whether a line begins with a space or a tab, so that it has no name
abbrev pub is_indented : List ℕ → Bool
is_indented [] = false
is_indented (b ∷ bs) = is_blank b

abbrev pub first_of : List (List ℕ) → Option (List ℕ)
first_of [] = None
first_of (first ∷ words) = Some first

abbrev pub after_first : List (List ℕ) → List (List ℕ)
after_first [] = []
after_first (first ∷ words) = words

-- the name of a line: the word in its first column
unfoldable pub label_of : List ℕ → Option (List ℕ)
label_of line = if is_indented line then None else first_of (parsed_by line)

-- the order or directive of a line, with its operand
unfoldable pub body_of : List ℕ → List (List ℕ)
body_of line = if is_indented line then parsed_by line else after_first (parsed_by line)

-- the only word of a list
abbrev pub only_of : List (List ℕ) → Option (List ℕ)
only_of (word ∷ []) = Some word
only_of _ = None

-- a byte that is neither a digit nor a sign
abbrev pub is_no_number : ℕ → Bool
is_no_number b = not (is_digit 10 b || ((b == 0x2B) || (b == 0x2D)))

-- A name has at most 8 characters, no comma, and not only digits and signs.
unfoldable pub is_name : List ℕ → Bool
is_name word =
    nat_le (length word) 8 && list_any is_no_number word && not (list_any is_comma word)
