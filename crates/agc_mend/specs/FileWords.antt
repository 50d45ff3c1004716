-- The words of a rope file, sixteen bits each, and the file of such words.
use Rattle.std.specs.Prelude.{ℕ, ◌/◌, ◌%◌, List, [], ◌∷◌, map, length}
use Rattle.std.specs.List.{flat_map, range_with_len}
use Rattle.agc_store.specs.RopeFile.{file_word}

-- the words of a file, in their order
unfoldable pub file_words : List ℕ → List ℕ
file_words file = map (file_word file) (range_with_len 0 (length file / 2))

-- the two bytes of a word, the higher one first
abbrev pub word_bytes : ℕ → List ℕ
word_bytes word = word / 256 ∷ word % 256 ∷ []

-- the file of these words
unfoldable pub file_of_words : List ℕ → List ℕ
file_of_words words = flat_map word_bytes words
