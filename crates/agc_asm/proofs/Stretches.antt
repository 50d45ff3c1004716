-- The lines of a rope's source, read place by place.
use Rattle.std.specs.Prelude.{◌≡◌, ℕ, zero, suc, ◌+◌, ◌-◌, ◌%◌, ◌^◌, ◌<◌, ◌≤◌, ◌==◌, Bool, true, false, not, ◌&&◌, List, [], ◌∷◌, ◌++◌, map, filter, None, Ok}
use Rattle.std.specs.List.{flat_map, range_with_len}
use Rattle.std.proofs.Common.{refl, ap, sym, ◌∙◌, arith, append_assoc, append-nil, add-one, ne_eqb, length}
use Rattle.std.proofs.lemmas.Bool.{and_parts, both_ways}
use Rattle.std.proofs.lemmas.Bool.Decides.{nat_tests}
use Rattle.std.proofs.lemmas.List.Folds.{list_any-append}
use Rattle.agc_word.specs.Number.{Number, pattern_of}
use Rattle.agc_store.specs.Memory.{fixed_at}
use Rattle.agc_word.specs.Text.{lines_of}
use Rattle.agc_order.specs.Order.{basic_of, basic_orders, extracode_of, extracodes}
use Rattle.agc_listing.specs.Laws.{has_line, named_word}
use Rattle.agc_listing.specs.List.{is_extracode_at}
use Rattle.agc_listing.specs.Order.{next_is_extracode}
use Rattle.agc_listing.specs.declared.line.PlacedWord.{PlacedWord}
use Rattle.agc_listing.proofs.LinesBack.{NoneFrom}
use Rattle.agc_interpretive.specs.Pending.{nothing_due}
use Rattle.agc_asm.specs.Source.{due_from, names_from, words_from}
use Rattle.agc_encode.specs.LocationCounter.{after_words, moved_to}
use Rattle.agc_encode.specs.Disassemble.{follows_word, is_wanted_at, line_of, line_to, placed_word_lines, resolve, shows_order}
use Rattle.agc_listing.specs.Text.{parsed_by}
use Rattle.agc_encode.specs.declared.location_counter.LocationCounter.{LocationCounter}
use Rattle.agc_asm.specs.declared.pass2.State.{State}
use Rattle.agc_vocabulary.specs.Name.{Naming}
use Rattle.agc_listing.specs.declared.location.Location.TheVariants as location
use Rattle.agc_vocabulary.proofs.Cut.{lines_more, no_lines}
use Rattle.agc_asm.proofs.Lines.{IsHere, IsLine, Stands, after_word, due_move, due_word, is_line, moved_banks, moved_here, names_move, names_word, skips, state_after, state_moved, words_move, words_word}
use Rattle.agc_asm.proofs.Orders.{place_line, place_line_moves, place_line_plain, place_line_prints, place_line_unlisted, word_line, word_line_prints, word_line_says, word_line_unlisted}

-- both lines of a word are lines of the source
place_is_line : (place : ℕ) → IsLine (place_line place)
place_is_line place = is_line _ (place_line_prints place) (place_line_unlisted place) (place_line_plain place)

word_is_line : (wanted extracode : Bool) (word : Number) → word.magnitude < 2 ^ 14 → IsLine (word_line wanted extracode word)
word_is_line wanted extracode word narrow =
    is_line _ (word_line_prints wanted extracode word) (word_line_unlisted wanted extracode word) (word_line_says wanted extracode word narrow).plain

-- and they are separate from what follows
cut_word : (wanted extracode : Bool) (word : Number) (rest : List ℕ) → lines_of (line_of wanted extracode word ++ rest) ≡ word_line wanted extracode word ∷ lines_of rest
cut_word wanted extracode word rest =
    let line = word_line wanted extracode word in
    ap lines_of (append_assoc line (0x0A ∷ []) rest) ∙ lines_more line rest (word_line_prints wanted extracode word)

cut_place : (place : ℕ) (rest : List ℕ) → lines_of (line_to place ++ rest) ≡ place_line place ∷ lines_of rest
cut_place place rest =
    let line = place_line place in
    ap lines_of (append_assoc line (0x0A ∷ []) rest) ∙ lines_more line rest (place_line_prints place)

-- the lines of a word
abbrev line_at : List Number → ℕ → List ℕ
line_at words place = word_line (is_wanted_at words place) (is_extracode_at words place) (fixed_at place words)

no_text : (words : List Number) (place : ℕ) → has_line words place ≡ false → resolve None words place ≡ []
unfolding resolve
no_text words place h = rw h refl

some_text : (words : List Number) (place : ℕ) (follows : Bool) → has_line words place ≡ true → follows_word words place ≡ follows
    → resolve None words place ≡ placed_word_lines place follows (is_wanted_at words place) (is_extracode_at words place) (fixed_at place words)
unfolding resolve
some_text words place follows h is = rw (h, is) refl

cut_follows : (words : List Number) (place : ℕ) (rest : List ℕ) → has_line words place ≡ true → follows_word words place ≡ true
    → lines_of (resolve None words place ++ rest) ≡ line_at words place ∷ lines_of rest
unfolding placed_word_lines
cut_follows words place rest has follows =
    rw (some_text words place true has follows) (cut_word (is_wanted_at words place) (is_extracode_at words place) (fixed_at place words) rest)

cut_begins : (words : List Number) (place : ℕ) (rest : List ℕ) → has_line words place ≡ true → follows_word words place ≡ false
    → lines_of (resolve None words place ++ rest) ≡ place_line place ∷ line_at words place ∷ lines_of rest
unfolding placed_word_lines
cut_begins words place rest has begins =
    let wanted = is_wanted_at words place in
    let extracode = is_extracode_at words place in
    let word = fixed_at place words in
    rw (some_text words place false has begins)
    (ap lines_of (append_assoc (line_to place) (line_of wanted extracode word) rest)
    ∙ cut_place place (line_of wanted extracode word ++ rest)
    ∙ ap (λ (lines : List (List ℕ)). place_line place ∷ lines) (cut_word wanted extracode word rest))

abbrev pub texts : List Number → ℕ → ℕ → List ℕ
texts words first count = flat_map (resolve None words) (range_with_len first count)

abbrev pub named : List Number → ℕ → ℕ → List PlacedWord
named words first count = map (named_word words) (filter (has_line words) (range_with_len first count))

-- the first pass finds no names
abbrev FindsNone : List Number → ℕ → ℕ → Type 0
FindsNone words first count = (n : ℕ) (naming : Naming) (counter : LocationCounter) → Stands words first counter → names_from n naming counter (lines_of (texts words first count)) ≡ Ok naming

none_by : (words : List Number) → ((place : ℕ) → (fixed_at place words).magnitude < 2 ^ 14) → (count first n : ℕ) (naming : Naming) (counter : LocationCounter) (has follows : Bool) → first + suc count ≤ 0o110000
    → Stands words first counter → has_line words first ≡ has → follows_word words first ≡ follows → FindsNone words (first + 1) count
    → names_from n naming counter (lines_of (texts words first (suc count))) ≡ Ok naming
none_by words narrow count first n naming counter false follows room stands has is rest =
    rw (no_text words first has) (rest n naming counter (skips words first counter stands has))
none_by words narrow count first n naming counter true true room stands has is rest =
    let here = stands.here is in
    let says = word_line_says (is_wanted_at words first) (is_extracode_at words first) (fixed_at first words) (narrow first) in
    rw (cut_follows words first (texts words (first + 1) count) has is)
    (names_word n naming counter first (line_at words first) (lines_of (texts words (first + 1) count)) (word_is_line _ _ _ (narrow first)) (says.takes_up naming) here
    ∙ rest (n + 1) naming (after_words counter counter.at 1) (after_word words first counter here stands.banks (omega arith)))
none_by words narrow count first n naming counter true false room stands has is rest =
    let moved = moved_to counter (location.Fixed first) in
    let here = moved_here first counter stands.banks (omega arith) in
    let says = word_line_says (is_wanted_at words first) (is_extracode_at words first) (fixed_at first words) (narrow first) in
    rw (cut_begins words first (texts words (first + 1) count) has is)
    (names_move n naming counter first (place_line first) (line_at words first ∷ lines_of (texts words (first + 1) count)) (place_is_line first) stands.due (place_line_moves first (omega arith) naming)
    ∙ names_word (n + 1) naming moved first (line_at words first) (lines_of (texts words (first + 1) count)) (word_is_line _ _ _ (narrow first)) (says.takes_up naming) here
    ∙ rest (n + 1 + 1) naming (after_words moved moved.at 1) (after_word words first moved here (moved_banks first counter stands.banks) (omega arith)))

pub finds_none : (words : List Number) → ((place : ℕ) → (fixed_at place words).magnitude < 2 ^ 14) → (count first : ℕ) → first + count ≤ 0o110000 → FindsNone words first count
unfolding names_from
finds_none words narrow zero first room n naming counter stands = rw no_lines refl
finds_none words narrow (suc count) first room n naming counter stands =
    none_by words narrow count first n naming counter (has_line words first) (follows_word words first) room stands refl refl
    (finds_none words narrow count (first + 1) (omega arith))

is_zero : (n : ℕ) → not (n == 0) ≡ false → n ≡ 0
is_zero n h = grind (arith, nat_tests)

-- if no word precedes a place, its line is read as a basic order
leads_to_none : (wanted : Bool) (word : Number) → not (pattern_of 15 word == 0) ≡ false → next_is_extracode wanted word ≡ false
unfolding next_is_extracode basic_of basic_orders extracode_of extracodes
leads_to_none true word h =
    let none : pattern_of 15 word ≡ 0 = is_zero (pattern_of 15 word) h in
    rw none refl
leads_to_none false word h =
    let none : pattern_of 15 word ≡ 0 = is_zero (pattern_of 15 word) h in
    rw none refl

both_right : (a b : Bool) → a && b && false ≡ false
both_right a b = grind (arith, nat_tests)

middle : (a b : Bool) → a && false && b ≡ false
middle a b = grind (arith, nat_tests)

after_none : (words : List Number) (place : ℕ) (same has : Bool) → not (suc place % 0o2000 == 0) ≡ same → has_line words place ≡ has → same && has ≡ false
    → shows_order (is_wanted_at words place) (is_extracode_at words place) && next_is_extracode (is_wanted_at words place) (fixed_at place words) && not (suc place % 0o2000 == 0) ≡ false
after_none words place false has same is h = rw same (both_right (shows_order (is_wanted_at words place) (is_extracode_at words place)) (next_is_extracode (is_wanted_at words place) (fixed_at place words)))
after_none words place true false same is h =
    rw (leads_to_none (is_wanted_at words place) (fixed_at place words) is) (middle (shows_order (is_wanted_at words place) (is_extracode_at words place)) (not (suc place % 0o2000 == 0)))
after_none words place true true same is h = absurd (both_ways true h refl)

wanted_none : (words : List Number) (place : ℕ) → follows_word words place ≡ false → is_wanted_at words place ≡ false
unfolding is_wanted_at
wanted_none words zero h = refl
wanted_none words (suc place) h =
    let before : suc place - 1 ≡ place = omega arith in
    after_none words place (not (suc place % 0o2000 == 0)) (has_line words place) refl refl (rw before at h)

last_true : (a b : Bool) → a && b ≡ a && b && true
last_true a b = grind (arith, nat_tests)

wanted_next : (words : List Number) (place : ℕ) (leads : Bool) → leads ≡ is_wanted_at words place → follows_word words (place + 1) ≡ true
    → shows_order (is_wanted_at words place) (is_extracode_at words place) && next_is_extracode leads (fixed_at place words) ≡ is_wanted_at words (place + 1)
unfolding is_wanted_at
wanted_next words place leads is follows =
    let same : not ((place + 1) % 0o2000 == 0) ≡ true = (and_parts _ _ follows).0 in
    let same_next : not (suc place % 0o2000 == 0) ≡ true = rw add-one at same in
    rw (add-one, same_next, is) (last_true (shows_order (is_wanted_at words place) (is_extracode_at words place)) (next_is_extracode (is_wanted_at words place) (fixed_at place words)))

-- a state is at a place, and reads the next line as it was written
pub record StandsIn (words : List Number) (place : ℕ) (state : State) : Type 0 where
  pub counter : Stands words place state.counter
  pub leads : follows_word words place ≡ true → state.leads ≡ is_wanted_at words place

state_skips : (words : List Number) (place : ℕ) (state : State) → StandsIn words place state → has_line words place ≡ false → StandsIn words (place + 1) state
state_skips words place state h none = record {
  counter = skips words place state.counter h.counter none;
  leads = λ follows.
      let before : place + 1 - 1 ≡ place = omega arith in
      let has : has_line words (place + 1 - 1) ≡ true = (and_parts _ _ follows).1 in
      absurd (both_ways (has_line words place) none (rw before at has));
}

state_next : (words : List Number) (place : ℕ) (state : State) → IsHere place state.counter → length state.counter.left ≡ 36 → state.leads ≡ is_wanted_at words place → place < 0o110000
    → (parsed : List (List ℕ)) → StandsIn words (place + 1) (state_after state (shows_order (is_wanted_at words place) (is_extracode_at words place)) (fixed_at place words) parsed)
state_next words place state here banks leads inside parsed = record {
  counter = after_word words place state.counter here banks inside;
  leads = λ follows. wanted_next words place state.leads leads follows;
}

-- places from one on stay free
later : (first : ℕ) (parsed : List PlacedWord) → NoneFrom first parsed → NoneFrom (first + 1) parsed
later first parsed h = record { none = λ place from. h.none place (omega arith) }

named_more : (words : List Number) (first : ℕ) (parsed : List PlacedWord) → NoneFrom first parsed → NoneFrom (first + 1) (parsed ++ named_word words first ∷ [])
named_more words first parsed h =
    record {
      none = λ place from.
          let other : (first == place) ≡ false = ne_eqb first place (omega arith) in
          list_any-append (λ (word : PlacedWord). word.place == place) parsed (named_word words first ∷ []) ∙ rw (h.none place (omega arith), other) refl;
    }

-- the second pass finds the words that have a line
abbrev FindsWords : List Number → ℕ → ℕ → Type 0
FindsWords words first count = (n : ℕ) (naming : Naming) (state : State) (parsed : List PlacedWord) → StandsIn words first state → NoneFrom first parsed
    → words_from n naming state parsed (lines_of (texts words first count)) ≡ Ok (parsed ++ named words first count)

words_by : (words : List Number) → ((place : ℕ) → (fixed_at place words).magnitude < 2 ^ 14) → (count first n : ℕ) (naming : Naming) (state : State) (parsed : List PlacedWord) (has follows : Bool)
    → first + suc count ≤ 0o110000 → StandsIn words first state → NoneFrom first parsed → has_line words first ≡ has → follows_word words first ≡ follows → FindsWords words (first + 1) count
    → words_from n naming state parsed (lines_of (texts words first (suc count))) ≡ Ok (parsed ++ named words first (suc count))
words_by words narrow count first n naming state parsed false follows room stands free has is rest =
    rw (no_text words first has, has) (rest n naming state parsed (state_skips words first state stands has) (later first parsed free))
words_by words narrow count first n naming state parsed true true room stands free has is rest =
    let here = stands.counter.here is in
    let leads = stands.leads is in
    let word = fixed_at first words in
    let order = shows_order (is_wanted_at words first) (is_extracode_at words first) in
    let says = word_line_says (is_wanted_at words first) (is_extracode_at words first) word (narrow first) in
    rw (cut_follows words first (texts words (first + 1) count) has is, has)
    (words_word n naming state parsed first order word (line_at words first) (lines_of (texts words (first + 1) count)) (word_is_line _ _ _ (narrow first)) (rw leads says) here (free.none first (omega arith))
    ∙ rest (n + 1) naming (state_after state order word (parsed_by (line_at words first))) (parsed ++ named_word words first ∷ []) (state_next words first state here stands.counter.banks leads (omega arith) (parsed_by (line_at words first))) (named_more words first parsed free)
    ∙ ap (λ (all : List PlacedWord). Ok all) (append_assoc parsed (named_word words first ∷ []) (named words (first + 1) count)))
words_by words narrow count first n naming state parsed true false room stands free has is rest =
    let moved = state_moved state first in
    let here = moved_here first state.counter stands.counter.banks (omega arith) in
    let banks = moved_banks first state.counter stands.counter.banks in
    let leads : false ≡ is_wanted_at words first = sym (wanted_none words first is) in
    let word = fixed_at first words in
    let order = shows_order (is_wanted_at words first) (is_extracode_at words first) in
    let says = word_line_says (is_wanted_at words first) (is_extracode_at words first) word (narrow first) in
    rw (cut_begins words first (texts words (first + 1) count) has is, has)
    (words_move n naming state parsed first (place_line first) (line_at words first ∷ lines_of (texts words (first + 1) count)) (place_is_line first) stands.counter.due (place_line_moves first (omega arith) naming)
    ∙ words_word (n + 1) naming moved parsed first order word (line_at words first) (lines_of (texts words (first + 1) count)) (word_is_line _ _ _ (narrow first)) (rw leads says) here (free.none first (omega arith))
    ∙ rest (n + 1 + 1) naming (state_after moved order word (parsed_by (line_at words first))) (parsed ++ named_word words first ∷ []) (state_next words first moved here banks leads (omega arith) (parsed_by (line_at words first))) (named_more words first parsed free)
    ∙ ap (λ (all : List PlacedWord). Ok all) (append_assoc parsed (named_word words first ∷ []) (named words (first + 1) count)))

pub finds_words : (words : List Number) → ((place : ℕ) → (fixed_at place words).magnitude < 2 ^ 14) → (count first : ℕ) → first + count ≤ 0o110000 → FindsWords words first count
unfolding words_from
finds_words words narrow zero first room n naming state parsed stands free = rw no_lines (ap (λ (all : List PlacedWord). Ok all) (sym (append-nil parsed)))
finds_words words narrow (suc count) first room n naming state parsed stands free =
    words_by words narrow count first n naming state parsed (has_line words first) (follows_word words first) room stands free refl refl
    (finds_words words narrow count (first + 1) (omega arith))

-- nothing is due behind them
abbrev DueNone : List Number → ℕ → ℕ → Type 0
DueNone words first count = (naming : Naming) (state : State) → StandsIn words first state → due_from naming state (lines_of (texts words first count)) ≡ nothing_due

due_by : (words : List Number) → ((place : ℕ) → (fixed_at place words).magnitude < 2 ^ 14) → (count first : ℕ) (naming : Naming) (state : State) (has follows : Bool)
    → first + suc count ≤ 0o110000 → StandsIn words first state → has_line words first ≡ has → follows_word words first ≡ follows → DueNone words (first + 1) count
    → due_from naming state (lines_of (texts words first (suc count))) ≡ nothing_due
due_by words narrow count first naming state false follows room stands has is rest =
    rw (no_text words first has) (rest naming state (state_skips words first state stands has))
due_by words narrow count first naming state true true room stands has is rest =
    let here = stands.counter.here is in
    let leads = stands.leads is in
    let word = fixed_at first words in
    let order = shows_order (is_wanted_at words first) (is_extracode_at words first) in
    let says = word_line_says (is_wanted_at words first) (is_extracode_at words first) word (narrow first) in
    rw (cut_follows words first (texts words (first + 1) count) has is)
    (due_word naming state first order word (line_at words first) (lines_of (texts words (first + 1) count)) (word_is_line _ _ _ (narrow first)) (rw leads says) here
    ∙ rest naming (state_after state order word (parsed_by (line_at words first))) (state_next words first state here stands.counter.banks leads (omega arith) (parsed_by (line_at words first))))
due_by words narrow count first naming state true false room stands has is rest =
    let moved = state_moved state first in
    let here = moved_here first state.counter stands.counter.banks (omega arith) in
    let banks = moved_banks first state.counter stands.counter.banks in
    let leads : false ≡ is_wanted_at words first = sym (wanted_none words first is) in
    let word = fixed_at first words in
    let order = shows_order (is_wanted_at words first) (is_extracode_at words first) in
    let says = word_line_says (is_wanted_at words first) (is_extracode_at words first) word (narrow first) in
    rw (cut_begins words first (texts words (first + 1) count) has is)
    (due_move naming state first (place_line first) (line_at words first ∷ lines_of (texts words (first + 1) count)) (place_is_line first) stands.counter.due (place_line_moves first (omega arith) naming)
    ∙ due_word naming moved first order word (line_at words first) (lines_of (texts words (first + 1) count)) (word_is_line _ _ _ (narrow first)) (rw leads says) here
    ∙ rest naming (state_after moved order word (parsed_by (line_at words first))) (state_next words first moved here banks leads (omega arith) (parsed_by (line_at words first))))

pub due_none : (words : List Number) → ((place : ℕ) → (fixed_at place words).magnitude < 2 ^ 14) → (count first : ℕ) → first + count ≤ 0o110000 → DueNone words first count
unfolding due_from
due_none words narrow zero first room naming state stands = rw no_lines stands.counter.due
due_none words narrow (suc count) first room naming state stands =
    due_by words narrow count first naming state (has_line words first) (follows_word words first) room stands refl refl
    (due_none words narrow count (first + 1) (omega arith))
