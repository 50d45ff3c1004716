-- A text whose words make the rope of a store is a source of it.
use Rattle.std.specs.Prelude.{◌≡◌, ℕ, ◌<◌, List, length, Bool, false, true, not, Ok, None}
use Rattle.std.proofs.Common.{ap, refl, sym, ◌∙◌}
use Rattle.std.proofs.lemmas.List.{ext_get_or}
use Rattle.agc_word.specs.Number.{Number}
use Rattle.agc_store.specs.Cells.{start_memory}
use Rattle.agc_store.specs.Memory.{Memory, fixed_at, nothing}
use Rattle.agc_store.specs.Places.{fixed_words}
use Rattle.agc_store.specs.RopeFile.{rope_fault_of, rope_words}
use Rattle.agc_store.specs.declared.rope_file.RopeForm.{RopeForm}
use Rattle.agc_store.specs.declared.rope_file.RopeForm.TheVariants as form
use Rattle.agc_listing.proofs.Listings.{are_rope_words}
use Rattle.agc_listing.specs.Laws.{AreRopeWords, IsRopeOf}
use Rattle.agc_listing.specs.Weave.{woven_file}
use Rattle.agc_listing.specs.declared.line.PlacedWord.{PlacedWord}
use Rattle.agc_word.specs.Text.{lines_of}
use Rattle.agc_asm.specs.Laws.{WeavesTo}
use Rattle.agc_asm.specs.Source.{is_listing, names_in, source_in, words_after_names}

pub is_true : (b : Bool) → not b ≡ false → b ≡ true
is_true true h = refl
is_true false h = absurd cc

-- in both forms
by_form : (words : List Number) (text : List ℕ) (parsed : List PlacedWord) → source_in text ≡ Ok parsed → IsRopeOf form.Classic words (woven_file form.Classic parsed)
    → IsRopeOf form.Parity words (woven_file form.Parity parsed) → WeavesTo words text
by_form words text parsed is classic parity form.Classic = (woven_file form.Classic parsed, (parsed, is, refl), classic)
by_form words text parsed is classic parity form.Parity = (woven_file form.Parity parsed, (parsed, is, refl), parity)

pub weaves_parsed : (words : List Number) (text : List ℕ) (parsed : List PlacedWord) → is_listing text ≡ false → words_after_names (lines_of text) (names_in (lines_of text)) ≡ Ok parsed
    → IsRopeOf form.Classic words (woven_file form.Classic parsed) → IsRopeOf form.Parity words (woven_file form.Parity parsed) → WeavesTo words text
unfolding source_in
weaves_parsed words text parsed listing says classic parity = by_form words text parsed (rw listing says) classic parity

-- a file holds a rope if it is accepted and its words are those
pub same_rope : (form : RopeForm) (words rope : List Number) (bytes : List ℕ) → rope ≡ rope_words form bytes → rope_fault_of form bytes ≡ None → AreRopeWords words
    → ((place : ℕ) → place < fixed_words → fixed_at place rope ≡ fixed_at place words) → IsRopeOf form words bytes
unfolding fixed_at
same_rope form words rope bytes is accepted h same =
    let r = are_rope_words form bytes in
    let long : length rope ≡ length words = ap length is ∙ r.count ∙ sym h.count in
    let equal : rope ≡ words = ext_get_or nothing rope words long (λ i inside. same i (rw (ap length is ∙ r.count) at inside)) in
    record { accepted = accepted; same = sym is ∙ equal }

-- so the file that such words build does
pub read_back : (form : RopeForm) (words rope : List Number) (bytes built : List ℕ) (memory : Memory) → memory ≡ start_memory rope → bytes ≡ built → rope ≡ rope_words form bytes
    → rope_fault_of form bytes ≡ None → AreRopeWords words → ((place : ℕ) → place < fixed_words → fixed_at place memory.fixed ≡ fixed_at place words) → IsRopeOf form words built
unfolding start_memory
read_back form words rope bytes built memory start b is accepted h same =
    let own : memory.fixed ≡ rope = ap (λ (m : Memory). m.fixed) start in
    let found = same_rope form words rope bytes is accepted h (rw own at same) in
    rw b at found
