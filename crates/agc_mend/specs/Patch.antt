-- What a patch makes of a rope file: its words are at their places, and every other word stays.
use Rattle.std.specs.Prelude.{◌≡◌, ℕ, ◌+◌, ◌-◌, ◌==◌, false, max, List, ◌++◌, fold, get_or, length, replicate, set, Ok, if◌then◌else◌}
use Rattle.agc_word.specs.Number.{pattern_of}
use Rattle.agc_store.specs.RopeFile.{file_index}
use Rattle.agc_store.specs.declared.rope_file.RopeForm.{RopeForm}
use Rattle.agc_listing.specs.Weave.{is_named, parsed_in, woven_bits}
use Rattle.agc_listing.specs.declared.line.PlacedWord.{PlacedWord}

-- the words of a file, with zeros after them up to a length
abbrev pub padded_to : ℕ → List ℕ → List ℕ
padded_to len words = words ++ replicate (len - length words) 0

-- the words of a file with one more word at its place
unfoldable pub with_word : RopeForm → List ℕ → PlacedWord → List ℕ
with_word form words named =
    let index = file_index form named.place in
    set (padded_to (index + 1) words) index (woven_bits form (pattern_of 15 named.word))

-- the words of a file with these words at their places
unfoldable pub with_words : RopeForm → List ℕ → List PlacedWord → List ℕ
with_words form words parsed = fold (with_word form) words parsed

-- the sixteen bits at a place after a line that may name it
abbrev pub bits_after : RopeForm → ℕ → ℕ → PlacedWord → ℕ
bits_after form place bits named =
    if named.place == place then woven_bits form (pattern_of 15 named.word) else bits

abbrev pub length_after : RopeForm → ℕ → PlacedWord → ℕ
length_after form len named = max len (file_index form named.place + 1)

-- A patched file. A place has the bits that the last line about it names, and a place that no line names has the bits
-- that it had. The file grows as far as its words need.
pub record IsPatched (form : RopeForm) (parsed : List PlacedWord) (words patched : List ℕ) : Type 0 where
  pub named : (place : ℕ) → get_or patched (file_index form place) 0 ≡ fold (bits_after form place) (get_or words (file_index form place) 0) parsed
  pub others : (place : ℕ) → is_named place parsed ≡ false → get_or patched (file_index form place) 0 ≡ get_or words (file_index form place) 0
  pub long : length patched ≡ fold (length_after form) (length words) parsed

-- the file that a patch in text makes
abbrev pub IsPatchedBy : RopeForm → List ℕ → List ℕ → List ℕ → Type 0
IsPatchedBy form text words patched =
    (parsed : List PlacedWord) × (parsed_in text ≡ Ok parsed) × IsPatched form parsed words patched
