-- The rope file that is built from the text of a rope.
use Rattle.std.specs.Prelude.{◌≡◌, ◌<◌, ℕ, ◌+◌, ◌-◌, ◌*◌, ◌/◌, ◌%◌, ◌==◌, Bool, false, All, get_or, List, []}
use Rattle.std.specs.Prelude.{◌∷◌, ◌++◌, length, replicate, set, fold, count_ones, Option, Some, None, Result}
use Rattle.std.specs.Prelude.{Ok, Err, if◌then◌else◌}
use Rattle.std.specs.List.{list_any}
use Rattle.agc_word.specs.Number.{pattern_of}
use Rattle.agc_store.specs.Places.{fixed_words}
use Rattle.agc_store.specs.RopeFile.{file_index}
use Rattle.agc_store.specs.declared.rope_file.RopeForm.{RopeForm}
use Rattle.agc_store.specs.declared.rope_file.RopeForm.TheVariants as form
use Rattle.agc_word.specs.Text.{lines_of}
use Rattle.agc_listing.specs.Line.{line_named}
use Rattle.agc_listing.specs.declared.fault.LineFault.{LineFault}
use Rattle.agc_listing.specs.declared.fault.LineFault.TheVariants as fault
use Rattle.agc_listing.specs.declared.fault.WeaveFault.{WeaveFault}
use Rattle.agc_listing.specs.declared.fault.WeaveFault.TheVariants as weave
use Rattle.agc_listing.specs.declared.line.PlacedWord.{PlacedWord}

-- whether one of these words has this place
abbrev pub is_named : ℕ → List PlacedWord → Bool
is_named place parsed = list_any (λ word. word.place == place) parsed

-- what a line adds after these words: no place is named twice
abbrev pub unless_named : List PlacedWord → Result (Option PlacedWord) LineFault →
    Result (Option PlacedWord) LineFault
unless_named parsed (Ok None) = Ok None
unless_named parsed (Ok (Some word)) =
    if is_named word.place parsed then Err fault.NamedTwice else Ok (Some word)
unless_named parsed (Err why) = Err why

unfoldable pub parsed_next : List PlacedWord → List ℕ → Result (Option PlacedWord) LineFault
parsed_next parsed line = unless_named parsed (line_named line)

-- these words, and the word of a line if it has one
abbrev pub with_placed_word : List PlacedWord → Option PlacedWord → List PlacedWord
with_placed_word parsed None = parsed
with_placed_word parsed (Some word) = parsed ++ word ∷ []

-- The words that lines name, in the order of the lines, or the fault of the first faulty line; n is
-- the number of the first of the lines.
unfoldable pub parsed_from : ℕ → List PlacedWord → List (List ℕ) → Result (List PlacedWord) WeaveFault
parsed_from n parsed [] = Ok parsed
parsed_from n parsed (line ∷ lines) =
    elim (parsed_next parsed line) [
      | Ok more ↦ parsed_from (n + 1) (with_placed_word parsed more) lines
      | Err why ↦ Err (weave.Line n why)
    ]

-- the words that a text names, or its first fault
unfoldable pub parsed_in : List ℕ → Result (List PlacedWord) WeaveFault
parsed_in text = parsed_from 1 [] (lines_of text)

-- The sixteen bits of a file's word: the left fifteen are the word's. In the form with parity the
-- last one makes the count of one bits odd.
unfoldable pub woven_bits : RopeForm → ℕ → ℕ
woven_bits form.Classic word = 2 * word
woven_bits form.Parity word =
    if count_ones (2 * word) % 2 == 0 then 2 * word + 1 else 2 * word

-- a file padded with zeros to a length
unfoldable pub woven_on : ℕ → List ℕ → List ℕ
woven_on len bytes = bytes ++ replicate (len - length bytes) 0

-- a file with one more word: sixteen bits, the higher byte first
unfoldable pub woven_with : RopeForm → List ℕ → PlacedWord → List ℕ
woven_with form bytes word =
    let at = 2 * file_index form word.place in
    let bits = woven_bits form (pattern_of 15 word.word) in
    set (set (woven_on (at + 2) bytes) at (bits / 256)) (at + 1) (bits % 256)

-- The file of the words that a text names, one after the other: as long as they need, and at least
-- one word long.
unfoldable pub woven_file : RopeForm → List PlacedWord → List ℕ
woven_file form parsed = fold (woven_with form) (0 ∷ 0 ∷ []) parsed

-- the file that is built from a text
abbrev pub IsWovenOf : RopeForm → List ℕ → List ℕ → Type 0
IsWovenOf form text file =
    (parsed : List PlacedWord) × (parsed_in text ≡ Ok parsed) × (file ≡ woven_file form parsed)

-- words whose places are in the rope
abbrev pub ArePlaces : List PlacedWord → Type 0
ArePlaces parsed = All (λ word. word.place < fixed_words) parsed

-- for each place of the rope, whether a word was named
unfoldable pub no_flags : ℕ → List Bool
no_flags count = replicate count false

pub record AreFlags (places : ℕ) (flags : List Bool) (parsed : List PlacedWord) : Type 0 where
  pub count : length flags ≡ places
  pub named : (place : ℕ) → place < places → get_or flags place false ≡ is_named place parsed
