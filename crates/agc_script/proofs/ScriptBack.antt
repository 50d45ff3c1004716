-- A script that is written as text reads back as its events.
use Rattle.std.specs.Prelude.{◌≡◌, ℕ, ◌+◌, ◌*◌, ◌≤◌, ◌<◌, nat_lt, true, false, List, [], ◌∷◌, ◌++◌, length, codes, Some, Ok, All}
use Rattle.std.specs.Fmt.{decimal}
use Rattle.std.specs.List.{list_all}
use Rattle.std.specs.Str.{bytes_eq}
use Rattle.std.proofs.Common.{refl, arith, ap, ◌∙◌, append_assoc, append-nil, sym}
use Rattle.std.proofs.lemmas.Bool.Decides.{nat_tests}
use Rattle.std.proofs.lemmas.List.{length_push}
use Rattle.std.proofs.lemmas.List.Elements.{All-cons, All-tail}
use Rattle.agc_word.specs.Numeral.{is_digit}
use Rattle.agc_script.specs.Event.{IsInRange, IsWhatInRange, last_cycle}
use Rattle.agc_script.specs.Line.{begins_comment, cycle_of, cycle_word, in_turn, meaning_of, once_of, within_bound, words_meaning}
use Rattle.agc_script.specs.Parse.{arranged, events_of, put_in, reading, script_of, taken}
use Rattle.agc_script.specs.Script.{IsInOrder, IsScript}
use Rattle.agc_word.specs.Text.{lines_of, words_of}
use Rattle.agc_script.specs.Written.{event_text, script_text}
use Rattle.agc_script.specs.declared.event.Event.{Event}
use Rattle.agc_script.specs.declared.event.What.{What}
use Rattle.agc_script.specs.declared.event.What.TheVariants as what
use Rattle.agc_script.specs.declared.line.Repeat.{Repeat}
use Rattle.agc_script.proofs.CommandsBack.{are_words, arguments, decimal_word, is_spaced, name_is_word, name_word, says}
use Rattle.agc_script.proofs.Lines.{next_lines}
use Rattle.agc_script.proofs.Printed.{lines_more, no_lines_of}
use Rattle.agc_script.proofs.Spaced.{IsWord, all_ascii, prints, spaced, spaced_prints, spaced_short, words_spaced}
use Rattle.agc_script.proofs.Spelled.{decimals, digits_are, number_back}

-- the words of an event's line, and the line without its line feed
abbrev words_after : What → List (List ℕ)
words_after what = name_word what ∷ arguments what

abbrev body : ℕ → What → List ℕ
body cycle what = spaced (decimal cycle) (words_after what)

text_is : (cycle : ℕ) (what : What) → event_text (record { cycle = cycle; what = what }) ≡ body cycle what ++ 0x0A ∷ []
text_is cycle what = rw (is_spaced what) (simp append_assoc refl)

after_are_words : (what : What) → IsWhatInRange what → All (IsWord 13) (words_after what)
after_are_words what h = All-cons (IsWord 13) (name_word what) (arguments what) (name_is_word what) (are_words what h)

few_words : (what : What) → length (words_after what) ≤ 4
few_words (what.Key key) = omega arith
few_words (what.Pro down) = omega arith
few_words (what.Input channel value) = omega arith
few_words (what.Pulse counter kind) = omega arith
few_words (what.Raise number) = omega arith
few_words (what.Poke bank offset value) = omega arith

cycle_is_word : (cycle : ℕ) → cycle ≤ last_cycle → IsWord 13 (decimal cycle)
cycle_is_word cycle h = decimal_word cycle (omega arith)

body_short : (cycle : ℕ) (what : What) → cycle ≤ last_cycle → IsWhatInRange what → length (body cycle what) ≤ 120
body_short cycle what c h =
    let short : length (body cycle what) ≤ 13 + length (words_after what) * (13 + 1) = spaced_short 13 (decimal cycle) (words_after what) (cycle_is_word cycle c) (after_are_words what h) in
    omega (arith, short, few_words what)

body_prints : (cycle : ℕ) (what : What) → cycle ≤ last_cycle → IsWhatInRange what → list_all prints (body cycle what) ≡ true
body_prints cycle what c h = spaced_prints 13 (decimal cycle) (words_after what) (cycle_is_word cycle c) (after_are_words what h)

body_words : (cycle : ℕ) (what : What) → cycle ≤ last_cycle → IsWhatInRange what → words_of (body cycle what) ≡ decimal cycle ∷ words_after what
body_words cycle what c h = words_spaced 13 (decimal cycle) (words_after what) (cycle_is_word cycle c) (after_are_words what h)

-- a number begins no comment, and is not `every`
no_comment : (text : List ℕ) → list_all (is_digit 10) text ≡ true → begins_comment text ≡ false
no_comment [] h = refl
no_comment (b ∷ bs) h = grind (arith, nat_tests)

not_every : (text : List ℕ) → list_all (is_digit 10) text ≡ true → bytes_eq text (codes "every") ≡ false
not_every [] h = refl
not_every (b ∷ bs) h = grind (arith, nat_tests)

cycle_digits : (cycle : ℕ) → cycle ≤ last_cycle → list_all (is_digit 10) (decimal cycle) ≡ true
cycle_digits cycle h = digits_are 10 decimals 12 cycle (omega arith) (omega arith)

cycle_read : (cycle : ℕ) → cycle ≤ last_cycle → cycle_of (decimal cycle) ≡ Some cycle
unfolding cycle_of
cycle_read cycle h = rw (number_back 10 decimals 12 cycle (omega arith) (omega arith)) (grind (arith, nat_tests))

its_turn : (last cycle : ℕ) → last ≤ cycle → in_turn last cycle ≡ Ok cycle
unfolding in_turn
its_turn last cycle h = grind (arith, nat_tests)

has_room : (before : ℕ) (repeat : Repeat) → before + repeat.times ≤ 65536 → within_bound before repeat ≡ Ok (Some repeat)
unfolding within_bound
has_room before repeat h = grind (arith, nat_tests)

words_say : (last before cycle : ℕ) (what : What) → last ≤ cycle → before < 65536 → cycle ≤ last_cycle → IsWhatInRange what
    → words_meaning last before (decimal cycle ∷ words_after what) ≡ Ok (Some (record { start = cycle; period = 1; times = 1; what = what }))
unfolding words_meaning once_of cycle_word
words_say last before cycle what l b c h =
    rw (no_comment (decimal cycle) (cycle_digits cycle c), not_every (decimal cycle) (cycle_digits cycle c), cycle_read cycle c, its_turn last cycle l, says what h)
    (has_room before (record { start = cycle; period = 1; times = 1; what = what }) (omega arith))

body_says : (last before cycle : ℕ) (what : What) → last ≤ cycle → before < 65536 → cycle ≤ last_cycle → IsWhatInRange what
    → meaning_of last before (body cycle what) ≡ Ok (Some (record { start = cycle; period = 1; times = 1; what = what }))
unfolding meaning_of
body_says last before cycle what l b c h =
    let short : length (body cycle what) ≤ 120 = body_short cycle what c h in
    let fits : nat_lt 120 (length (body cycle what)) ≡ false = grind (arith, nat_tests) in
    rw (fits, all_ascii (body cycle what) (body_prints cycle what c h), body_words cycle what c h) (words_say last before cycle what l b c h)

body_taken : (last cycle : ℕ) (what : What) (before : List Event) → last ≤ cycle → length before < 65536 → cycle ≤ last_cycle → IsWhatInRange what
    → taken last before (body cycle what) ≡ Ok (cycle, before ++ record { cycle = cycle; what = what } ∷ [])
unfolding taken events_of
body_taken last cycle what before l b c h =
    let at : cycle + 0 * 1 ≡ cycle = omega arith in
    rw (body_says last (length before) cycle what l b c h)
    (ap (λ (n : ℕ). Ok (cycle, before ++ record { cycle = n; what = what } ∷ [])) at)

-- one event after another
reading_back : (n last : ℕ) (before events : List Event) → All (λ event. last ≤ event.cycle) events → IsInOrder events → All IsInRange events → length before + length events ≤ 65536
    → reading n last before (lines_of (script_text events)) ≡ Ok (before ++ events)
unfolding script_text IsInOrder IsInRange reading
reading_back n last before [] l o r room = rw no_lines_of (ap (λ (all : List Event). Ok all) (sym (append-nil before)))
reading_back n last before (event ∷ events) l o r room =
    let range : (event.cycle ≤ last_cycle) × IsWhatInRange event.what = r 0 event (omega arith) in
    let line = body event.cycle event.what in
    let cut : lines_of (event_text event ++ script_text events) ≡ line ∷ lines_of (script_text events) =
    rw (text_is event.cycle event.what) (ap lines_of (append_assoc line (0x0A ∷ []) (script_text events)) ∙ lines_more line (script_text events) (body_prints event.cycle event.what range.0 range.1)) in
    rw cut
    (next_lines n last event.cycle before (before ++ event ∷ []) line (lines_of (script_text events)) (body_taken last event.cycle event.what before (l 0 event (omega arith)) (omega arith) range.0 range.1)
    ∙ reading_back (n + 1) event.cycle (before ++ event ∷ []) events o.0 o.1 (All-tail IsInRange event events r) (omega (arith, length_push before event))
    ∙ ap (λ (all : List Event). Ok all) (append_assoc before (event ∷ []) events))

-- events in order stay as they are
put_first : (event : Event) (events : List Event) → All (λ later. event.cycle ≤ later.cycle) events → put_in event events ≡ event ∷ events
unfolding put_in
put_first event [] h = refl
put_first event (first ∷ events) h =
    let near : event.cycle ≤ first.cycle = h 0 first (omega arith) in
    grind (arith, nat_tests)

arranged_same : (events : List Event) → IsInOrder events → arranged events ≡ events
unfolding arranged IsInOrder
arranged_same [] h = refl
arranged_same (event ∷ events) h = ap (put_in event) (arranged_same events h.1) ∙ put_first event events h.0

pub script_back : (events : List Event) → IsScript events → script_of (script_text events) ≡ Ok events
unfolding script_of
script_back events s =
    rw (reading_back 1 0 [] events (λ i d l. omega arith) s.in_order s.in_range (omega (arith, s.few))) (ap (λ (all : List Event). Ok all) (arranged_same events s.in_order))
