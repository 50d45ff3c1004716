-- The file that a source assembles to has each word of the source at its place.
use Rattle.std.specs.Prelude.{◌≡◌, ◌≢◌, ℕ, ◌+◌, ◌*◌, ◌/◌, ◌%◌, ◌^◌, ◌<◌, ◌==◌, false, All, List, [], ◌∷◌, ◌++◌, Option, Some, None, Ok}
use Rattle.std.proofs.Common.{ap, ◌∙◌, arith}
use Rattle.std.proofs.lemmas.Bool.{or_parts}
use Rattle.std.proofs.lemmas.Bool.Decides.{nat_tests}
use Rattle.std.proofs.lemmas.List.Elements.{All-cons, All-head, All-nil, All-push, All-tail}
use Rattle.std.proofs.lemmas.List.FromFn.{get_or-map-range_with_len}
use Rattle.std.proofs.lemmas.List.Sums.{fold-append}
use Rattle.agc_word.specs.Number.{Number, pattern_of}
use Rattle.agc_store.specs.Cells.{narrow_number}
use Rattle.agc_store.specs.Memory.{fixed_at, nothing}
use Rattle.agc_store.specs.RopeFile.{file_index, file_word, first_words, rope_word_at, rope_words}
use Rattle.agc_store.specs.declared.rope_file.RopeForm.{RopeForm}
use Rattle.agc_store.specs.declared.rope_file.RopeForm.TheVariants as form
use Rattle.agc_listing.specs.Weave.{is_named, woven_bits, woven_file, woven_on, woven_with}
use Rattle.agc_listing.specs.declared.line.PlacedWord.{PlacedWord}
use Rattle.agc_listing.proofs.FileWords.{index_apart, length_on, on_word, put_at, put_beside}
use Rattle.agc_asm.specs.Source.{word_added, words_from}
use Rattle.agc_asm.specs.declared.pass2.State.{State}
use Rattle.agc_vocabulary.specs.Name.{Naming}
use Rattle.agc_asm.proofs.Stepped.{added, both, none_added, none_left, stepped}

-- a word is at its place in a file
abbrev pub StandsIn : RopeForm → List ℕ → PlacedWord → Type 0
StandsIn form bytes word = file_word bytes (file_index form word.place) / 2 ≡ pattern_of 15 word.word

half_of : (form : RopeForm) (word : ℕ) → woven_bits form word / 2 ≡ word
unfolding woven_bits
half_of form.Classic word = omega arith
half_of form.Parity word = grind (arith, nat_tests)

-- writing a word
put_there : (form : RopeForm) (bytes : List ℕ) (word : PlacedWord) → file_word (woven_with form bytes word) (file_index form word.place) ≡ woven_bits form (pattern_of 15 word.word)
unfolding woven_with
put_there form bytes word =
    let index = file_index form word.place in
    put_at (woven_on (2 * index + 2) bytes) index (woven_bits form (pattern_of 15 word.word)) (omega (arith, length_on (2 * index + 2) bytes))

stands : (form : RopeForm) (bytes : List ℕ) (word : PlacedWord) → StandsIn form (woven_with form bytes word) word
stands form bytes word = ap (λ (bits : ℕ). bits / 2) (put_there form bytes word) ∙ half_of form (pattern_of 15 word.word)

-- leaves the others unchanged
elsewhere : (form : RopeForm) (bytes : List ℕ) (word : PlacedWord) (place : ℕ) → place ≢ word.place
    → file_word (woven_with form bytes word) (file_index form place) ≡ file_word bytes (file_index form place)
unfolding woven_with
elsewhere form bytes word place other =
    let index = file_index form word.place in
    let bits = woven_bits form (pattern_of 15 word.word) in
    put_beside (woven_on (2 * index + 2) bytes) index (file_index form place) (bits / 256) (bits % 256) (index_apart form place word.place other)
    ∙ on_word (2 * index + 2) (file_index form place) bytes

apart : (a b : ℕ) → (a == b) ≡ false → a ≢ b
apart a b h = grind (arith, nat_tests)

still : (form : RopeForm) (bytes : List ℕ) (word : PlacedWord) (parsed : List PlacedWord) → is_named word.place parsed ≡ false → All (StandsIn form bytes) parsed
    → All (StandsIn form (woven_with form bytes word)) parsed
still form bytes word [] free h = All-nil (StandsIn form (woven_with form bytes word))
still form bytes word (w ∷ parsed) free h =
    let parts = or_parts (w.place == word.place) (is_named word.place parsed) free in
    let same = elsewhere form bytes word w.place (apart w.place word.place parts.0) in
    let here : StandsIn form bytes w = All-head (StandsIn form bytes) w parsed h in
    All-cons (StandsIn form (woven_with form bytes word)) w parsed (ap (λ (bits : ℕ). bits / 2) same ∙ here)
    (still form bytes word parsed parts.1 (All-tail (StandsIn form bytes) w parsed h))

-- the file of words holds them
abbrev pub Kept : RopeForm → List PlacedWord → Type 0
Kept form parsed = All (StandsIn form (woven_file form parsed)) parsed

woven_more : (form : RopeForm) (parsed : List PlacedWord) (word : PlacedWord) → woven_file form (parsed ++ word ∷ []) ≡ woven_with form (woven_file form parsed) word
unfolding woven_file
woven_more form parsed word = fold-append (woven_with form) (0 ∷ 0 ∷ []) parsed (word ∷ [])

kept_push : (form : RopeForm) (parsed : List PlacedWord) (word : PlacedWord) → is_named word.place parsed ≡ false → Kept form parsed → Kept form (parsed ++ word ∷ [])
kept_push form parsed word free h =
    let bytes = woven_file form parsed in
    let all = All-push (StandsIn form (woven_with form bytes word)) parsed word (still form bytes word parsed free h) (stands form bytes word) in
    rw (woven_more form parsed word) all

kept_more : (form : RopeForm) (parsed more : List PlacedWord) (word : Option PlacedWord) → word_added parsed word ≡ Ok more → Kept form parsed → Kept form more
kept_more form parsed more None is h =
    let same : parsed ≡ more = none_added parsed more is in
    rw same at h
kept_more form parsed more (Some word) is h =
    let a = added parsed more word is in
    rw a.same at (kept_push form parsed word a.free h)

pub kept_from : (form : RopeForm) (lines : List (List ℕ)) (n : ℕ) (naming : Naming) (state : State) (parsed final : List PlacedWord)
    → words_from n naming state parsed lines ≡ Ok final → Kept form parsed → Kept form final
kept_from form [] n naming state parsed final is h =
    let same : parsed ≡ final = none_left n naming state parsed final is in
    rw same at h
kept_from form (line ∷ lines) n naming state parsed final is h =
    let s = stepped n naming state parsed final line lines is in
    let b = both parsed s.more s.step.first s.step.second s.both in
    let one = kept_more form parsed b.between s.step.first b.one h in
    kept_from form lines (n + 1) naming s.step.state s.more final s.rest (kept_more form b.between s.more s.step.second b.other one)

-- a rope has a word at its place
abbrev pub HasWord : List Number → PlacedWord → Type 0
HasWord words word = word.place < 0o110000 → pattern_of 15 word.word < 2 ^ 15 → pattern_of 15 (fixed_at word.place words) ≡ pattern_of 15 word.word

pattern_back : (p : ℕ) → p < 2 ^ 15 → pattern_of 15 (narrow_number p) ≡ p
pattern_back p h = grind (arith, nat_tests)

rope_word : (form : RopeForm) (file : List ℕ) (place : ℕ) → place < 0o110000 → fixed_at place (rope_words form file) ≡ narrow_number (file_word file (file_index form place) / 2)
unfolding fixed_at rope_words first_words rope_word_at
rope_word form file place h = get_or-map-range_with_len (rope_word_at form file) 0 0o110000 place place nothing h (omega arith)

pub has_word : (form : RopeForm) (file : List ℕ) (word : PlacedWord) → StandsIn form file word → HasWord (rope_words form file) word
has_word form file word h inside fits =
    rw (rope_word form file word.place inside, h) (pattern_back (pattern_of 15 word.word) fits)
