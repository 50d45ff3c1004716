-- How bytes of a file are printed.
use Rattle.std.specs.Prelude.{ℕ, nat_lt, List, [], ◌∷◌, ◌++◌, length, take, codes, if◌then◌else◌, Option, Some, None}
use Rattle.std.specs.List.{flat_map}
use Rattle.agc_word.specs.Octal.{octal_digits}
use Rattle.agc_listing.specs.Line.{is_no_text}

-- a printable byte or a tab as it is, every other byte by its three octal digits
unfoldable pub shown_byte : ℕ → List ℕ
shown_byte b = if is_no_text b then codes "\\" ++ octal_digits 3 b else b ∷ []

unfoldable pub printable : List ℕ → List ℕ
printable bytes = flat_map shown_byte bytes

-- a line of a file: its first 120 bytes
unfoldable pub shown_line : List ℕ → List ℕ
shown_line line =
    if nat_lt 120 (length line) then printable (take 120 line) ++ codes " .." else printable line

-- a word in quotes
abbrev pub quoted : List ℕ → List ℕ
quoted word = codes "`" ++ printable word ++ codes "`"

-- the subject of a sentence: a word in quotes, or other words if there is none
abbrev pub subject : Option (List ℕ) → List ℕ → List ℕ
subject (Some word) otherwise = quoted word
subject None otherwise = otherwise
