-- The lines of a rope, one after the other.
use Rattle.std.proofs.Common.{◌≡◌, ◌∙◌, ℕ, zero, suc, ◌+◌, Bool, false, not, ◌&&◌, List, [], ◌∷◌, ◌++◌, refl, ap, add-one, zero-add, append-nil, append_assoc, arith}
use Rattle.std.specs.Prelude.{Option}
use Rattle.std.specs.List.{flat_map, range_with_len}
use Rattle.std.proofs.lemmas.Grind.{flat_map-append}
use Rattle.agc_word.specs.Number.{Number}
use Rattle.agc_store.specs.Memory.{fixed_at}
use Rattle.agc_listing.specs.Order.{next_is_extracode}
use Rattle.agc_listing.specs.List.{starts_run, is_extracode_at, listed_line, listed_lines, text_listed}

-- one more number
pub range_more : (a n : ℕ) → range_with_len a (suc n) ≡ range_with_len a n ++ (a + n) ∷ []
range_more a zero = ap (λ (k : ℕ). k ∷ []) (omega arith)
range_more a (suc n) =
    let shift : a + 1 + n ≡ a + suc n = omega arith in
    ap (λ (ks : List ℕ). a ∷ ks) (range_more (a + 1) n ∙ ap (λ (k : ℕ). range_with_len (a + 1) n ++ k ∷ []) shift)

-- no lines yet
pub no_lines : (bank : Option ℕ) (words : List Number) (text : List ℕ) → text ++ listed_lines 0 bank words ≡ text
unfolding listed_lines
no_lines bank words text = append-nil text

-- one more place
lines_more : (bank : Option ℕ) (words : List Number) (count : ℕ) → listed_lines (count + 1) bank words ≡ listed_lines count bank words ++ listed_line bank words count
unfolding listed_lines
lines_more bank words count =
    let line = listed_line bank words in
    let before = range_with_len 0 count in
    rw add-one
    (ap (flat_map line) (range_more 0 count)
    ∙ flat_map-append line before ((0 + count) ∷ [])
    ∙ ap (λ (here : List ℕ). flat_map line before ++ here) (append-nil (line (0 + count)))
    ∙ ap (λ (k : ℕ). flat_map line before ++ line k) (zero-add count))

-- the text with the line of one more place
pub text_more : (bank : Option ℕ) (words : List Number) (count : ℕ) (extracode : Bool) (word : Number) (old text new : List ℕ)
    → extracode ≡ is_extracode_at words count → word ≡ fixed_at count words → text ≡ old ++ listed_lines count bank words
    → new ≡ text ++ text_listed bank count extracode word → new ≡ old ++ listed_lines (count + 1) bank words
unfolding listed_line
text_more bank words count extracode word old text new is_extracode is_word so_far is =
    rw (is, so_far, lines_more bank words count, is_extracode, is_word) (append_assoc old (listed_lines count bank words) (listed_line bank words count))

-- the first word is not an extracode
pub extracode_first : (words : List Number) → false ≡ is_extracode_at words 0
unfolding is_extracode_at
extracode_first words = refl

-- the word at the next place
pub extracode_next : (words : List Number) (place : ℕ) (extracode leads : Bool) (word : Number) → extracode ≡ is_extracode_at words place → word ≡ fixed_at place words
    → leads ≡ next_is_extracode extracode word → leads && not (starts_run (place + 1)) ≡ is_extracode_at words (place + 1)
unfolding is_extracode_at
extracode_next words place extracode leads word is is_word leads_is = rw (add-one, leads_is, is, is_word) refl
