-- The lines of a rope, one place after the other.
use Rattle.std.proofs.Common.{◌≡◌, ◌∙◌, ℕ, ◌+◌, ◌-◌, ◌%◌, ◌==◌, Bool, false, not, ◌&&◌, List, [], ◌∷◌, ◌++◌, refl, ap, add-one, zero-add, append-nil, append_assoc, arith}
use Rattle.std.specs.Prelude.{Option}
use Rattle.std.specs.List.{flat_map, range_with_len}
use Rattle.std.proofs.lemmas.Grind.{flat_map-append}
use Rattle.agc_word.specs.Number.{Number, pattern_of}
use Rattle.agc_store.specs.Memory.{fixed_at}
use Rattle.agc_listing.specs.Order.{next_is_extracode}
use Rattle.agc_listing.proofs.RopeLines.{range_more}
use Rattle.agc_encode.specs.Disassemble.{is_wanted_at, resolve, resolve_range, shows_order, text_at_place, follows_word}
use Rattle.agc_listing.specs.List.{starts_run, is_extracode_at}

-- no lines yet
pub no_places : (bank : Option ℕ) (words : List Number) (text : List ℕ) → text ++ resolve_range 0 bank words ≡ text
unfolding resolve_range
no_places bank words text = append-nil text

-- one more place
places_more : (bank : Option ℕ) (words : List Number) (count : ℕ) → resolve_range (count + 1) bank words ≡ resolve_range count bank words ++ resolve bank words count
unfolding resolve_range
places_more bank words count =
    let line = resolve bank words in
    let before = range_with_len 0 count in
    rw add-one
    (ap (flat_map line) (range_more 0 count)
    ∙ flat_map-append line before ((0 + count) ∷ [])
    ∙ ap (λ (here : List ℕ). flat_map line before ++ here) (append-nil (line (0 + count)))
    ∙ ap (λ (k : ℕ). flat_map line before ++ line k) (zero-add count))

-- the text with the lines of one more place
pub text_more : (bank : Option ℕ) (words : List Number) (count : ℕ) (follows wanted extracode : Bool) (word : Number) (old text new : List ℕ)
    → follows ≡ follows_word words count → wanted ≡ is_wanted_at words count → extracode ≡ is_extracode_at words count → word ≡ fixed_at count words
    → text ≡ old ++ resolve_range count bank words
    → new ≡ text ++ text_at_place bank count follows wanted extracode word → new ≡ old ++ resolve_range (count + 1) bank words
unfolding resolve
text_more bank words count follows wanted extracode word old text new does_follow is_wanted is_extracode is_word so_far is =
    rw (is, so_far, places_more bank words count, does_follow, is_wanted, is_extracode, is_word) (append_assoc old (resolve_range count bank words) (resolve bank words count))

-- no word leads to the first place
pub wanted_first : (words : List Number) → false ≡ is_wanted_at words 0
unfolding is_wanted_at
wanted_first words = refl

-- the line of the next place
pub wanted_next : (words : List Number) (place : ℕ) (wanted extracode next : Bool) (word : Number) → wanted ≡ is_wanted_at words place → extracode ≡ is_extracode_at words place → word ≡ fixed_at place words
    → next ≡ (shows_order wanted extracode && next_is_extracode wanted word && not ((place + 1) % 0o2000 == 0)) → next ≡ is_wanted_at words (place + 1)
unfolding is_wanted_at
wanted_next words place wanted extracode next word is read is_word next_is = rw (next_is, add-one, is, read, is_word) refl

pub extracode_next : (words : List Number) (place : ℕ) (extracode next : Bool) (word : Number) → extracode ≡ is_extracode_at words place → word ≡ fixed_at place words
    → next ≡ (next_is_extracode extracode word && not (starts_run (place + 1))) → next ≡ is_extracode_at words (place + 1)
unfolding is_extracode_at
extracode_next words place extracode next word is is_word next_is = rw (next_is, add-one, is, is_word) refl

-- no word precedes the first place
pub follows_first : (words : List Number) → false ≡ follows_word words 0
follows_first words = refl

pub follows_next : (words : List Number) (place : ℕ) (next : Bool) (word : Number) → word ≡ fixed_at place words
    → next ≡ (not ((place + 1) % 0o2000 == 0) && not (pattern_of 15 word == 0)) → next ≡ follows_word words (place + 1)
follows_next words place next word is_word next_is =
    let before : place + 1 - 1 ≡ place = omega arith in
    rw (next_is, before, is_word) refl
