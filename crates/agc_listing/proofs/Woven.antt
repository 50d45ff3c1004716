-- A text's lines, one after the other, and the words of a file.
use Rattle.std.proofs.Common.{◌≡◌, ℕ, ◌+◌, ◌<◌, false, List, [], ◌∷◌, length, take, get_or, refl, sym, add-one}
use Rattle.std.specs.Prelude.{Option, Ok, Err}
use Rattle.std.proofs.Math.Seq.{take-suc}
use Rattle.std.proofs.lemmas.List.{length-replicate, get_or-replicate}
use Rattle.std.proofs.lemmas.List.Sums.{fold-append}
use Rattle.agc_store.specs.declared.rope_file.RopeForm.{RopeForm}
use Rattle.agc_word.specs.Text.{lines_of}
use Rattle.agc_listing.specs.Weave.{AreFlags, no_flags, parsed_from, parsed_in, parsed_next, with_placed_word, woven_file, woven_with}
use Rattle.agc_listing.specs.declared.fault.LineFault.{LineFault}
use Rattle.agc_listing.specs.declared.fault.WeaveFault.TheVariants as weave
use Rattle.agc_listing.specs.declared.line.PlacedWord.{PlacedWord}

-- no place is named yet
pub no_flags_are : (count : ℕ) → AreFlags count (no_flags count) []
unfolding no_flags
no_flags_are count = record {
  count = length-replicate count false;
  named = λ place below. get_or-replicate count place false false below;
}

-- a line without a fault
pub next_parsed : (n : ℕ) (parsed : List PlacedWord) (line : List ℕ) (lines : List (List ℕ)) (more : Option PlacedWord) → parsed_next parsed line ≡ Ok more
    → parsed_from n parsed (line ∷ lines) ≡ parsed_from (n + 1) (with_placed_word parsed more) lines
unfolding parsed_from
next_parsed n parsed line lines more e = rw (e, parsed_from)

-- a faulty line
pub faulty_parsed : (text : List ℕ) (n : ℕ) (parsed : List PlacedWord) (line : List ℕ) (lines : List (List ℕ)) (why : LineFault)
    → parsed_from n parsed (line ∷ lines) ≡ parsed_from 1 [] (lines_of text) → parsed_next parsed line ≡ Err why → parsed_in text ≡ Err (weave.Line n why)
unfolding parsed_from parsed_in
faulty_parsed text n parsed line lines why same e = rw (← same, e, parsed_from)

-- no line is left
pub all_parsed : (text : List ℕ) (n : ℕ) (parsed : List PlacedWord) → parsed_from n parsed [] ≡ parsed_from 1 [] (lines_of text) → parsed_in text ≡ Ok parsed
unfolding parsed_from parsed_in
all_parsed text n parsed same = sym same

-- a file without words
pub woven_none : (form : RopeForm) → 0 ∷ 0 ∷ [] ≡ woven_file form []
unfolding woven_file
woven_none form = refl

-- one more word
pub woven_more : (form : RopeForm) (parsed : List PlacedWord) (i : ℕ) (d : PlacedWord) → i < length parsed
    → woven_file form (take (i + 1) parsed) ≡ woven_with form (woven_file form (take i parsed)) (get_or parsed i d)
unfolding woven_file
woven_more form parsed i d h =
    rw (add-one, take-suc parsed i d h, fold-append (woven_with form) (0 ∷ 0 ∷ []) (take i parsed) (get_or parsed i d ∷ [])) refl
