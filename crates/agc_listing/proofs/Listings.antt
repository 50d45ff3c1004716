-- What `list` prints of a whole rope builds a rope with the same words.
use Rattle.std.specs.Prelude.{◌≡◌, ◌≢◌, ℕ, ◌^◌, ◌<◌, ◌≤◌, All, List, [], get_or, length, None, Ok, Err}
use Rattle.std.proofs.Common.{refl, arith, inl, inr}
use Rattle.std.proofs.lemmas.Bool.{cases_lt}
use Rattle.std.proofs.lemmas.Bool.Decides.{nat_tests}
use Rattle.std.proofs.lemmas.List.{get_or_past}
use Rattle.std.proofs.lemmas.List.Elements.{All-get_or, All-map}
use Rattle.std.proofs.lemmas.List.FromFn.{length-map-range_with_len}
use Rattle.std.specs.List.{range_with_len}
use Rattle.agc_word.specs.Number.{Number}
use Rattle.agc_store.specs.Memory.{nothing, fixed_at}
use Rattle.agc_store.specs.RopeFile.{first_words, rope_word_at, rope_words}
use Rattle.agc_store.specs.declared.rope_file.RopeForm.{RopeForm}
use Rattle.agc_listing.specs.Laws.{AreRopeWords, IsRopeOf, words_below, words_listed}
use Rattle.agc_listing.specs.List.{listed_lines, rope_text}
use Rattle.agc_listing.specs.Weave.{IsWovenOf, parsed_in, woven_file}
use Rattle.agc_listing.specs.declared.fault.WeaveFault.{WeaveFault}
use Rattle.agc_listing.specs.declared.fault.WeaveFault.TheVariants as weave
use Rattle.agc_listing.proofs.LinesBack.{parsed_range}
use Rattle.agc_listing.proofs.RopeBack.{accepted, first_words_back, holds_all}

-- a rope's words are narrow, also past its end
narrow_at : (words : List Number) → AreRopeWords words → (place : ℕ) → (fixed_at place words).magnitude < 2 ^ 14
unfolding fixed_at
narrow_at words h place =
    elim (cases_lt place (length words)) [
      | inl inside ↦ All-get_or (λ (word : Number). word.magnitude < 2 ^ 14) words place nothing inside h.narrow
      | inr past ↦ rw (get_or_past words place nothing past) (omega arith)
    ]

-- the words that a file holds are a rope's
narrow_word : (form : RopeForm) (bytes : List ℕ) (place : ℕ) → (rope_word_at form bytes place).magnitude < 2 ^ 14
unfolding rope_word_at
narrow_word form bytes place = grind (arith, nat_tests)

narrow_words : (count : ℕ) (form : RopeForm) (bytes : List ℕ) → All (λ word. word.magnitude < 2 ^ 14) (first_words count form bytes)
unfolding first_words
narrow_words count form bytes =
    All-map (λ (word : Number). word.magnitude < 2 ^ 14) (rope_word_at form bytes) (range_with_len 0 count) (λ k place inside. narrow_word form bytes (get_or (range_with_len 0 count) k place))

length_words : (count : ℕ) (form : RopeForm) (bytes : List ℕ) → length (first_words count form bytes) ≡ count
unfolding first_words
length_words count form bytes = length-map-range_with_len (rope_word_at form bytes) 0 count

pub are_rope_words : (form : RopeForm) (file : List ℕ) → AreRopeWords (rope_words form file)
unfolding rope_words
are_rope_words form file = record { count = length_words 0o110000 form file; narrow = narrow_words 0o110000 form file }

-- a listing names the words that it lists
placed_word_lines : (words : List Number) → ((place : ℕ) → (fixed_at place words).magnitude < 2 ^ 14) → (count : ℕ) → count ≤ 0o110000
    → parsed_in (listed_lines count None words) ≡ Ok (words_below count words)
unfolding parsed_in listed_lines words_below
placed_word_lines words narrow count room = parsed_range words narrow count 0 1 [] (omega arith) (record { none = λ place from. refl })

pub listing_says : (words : List Number) → AreRopeWords words → parsed_in (rope_text None words) ≡ Ok (words_listed words)
unfolding rope_text words_listed
listing_says words h = placed_word_lines words (narrow_at words h) 0o110000 (omega arith)

-- the file of these words is the rope's
pub rope_of_words : (form : RopeForm) (words : List Number) → AreRopeWords words → IsRopeOf form words (woven_file form (words_listed words))
unfolding words_listed rope_words
rope_of_words form words h =
    let file = woven_file form (words_below 0o110000 words) in
    let holds = holds_all form words 0o110000 (omega arith) in
    record {
      accepted = accepted form words file holds;
      same = first_words_back form words 0o110000 file holds h.count (narrow_at words h);
    }

-- what is built from a text that lists a rope
pub rope_of_listing : (form : RopeForm) (text file : List ℕ) (words : List Number) → IsWovenOf form text file → AreRopeWords words → text ≡ rope_text None words → IsRopeOf form words file
rope_of_listing form text file words woven h listed =
    let says = listing_says words h in
    let parsed : woven.0 ≡ words_listed words = cc (woven.1, listed, says) in
    rw (woven.2, parsed) (rope_of_words form words h)

pub no_fault : (text : List ℕ) (words : List Number) (fault : WeaveFault) → (fault ≢ weave.Memory → parsed_in text ≡ Err fault) → AreRopeWords words → text ≡ rope_text None words
    → fault ≡ weave.Memory
no_fault text words weave.Memory faulty h listed = refl
no_fault text words (weave.Line n why) faulty h listed =
    let says = listing_says words h in
    let err = faulty (λ same. cc) in
    cc
