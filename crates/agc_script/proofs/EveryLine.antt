-- The meaning of a faultless event line, from its words.
use Rattle.std.specs.Prelude.{◌≡◌, ℕ, ◌+◌, ◌-◌, ◌/◌, ◌==◌, nat_lt, Bool, true, false, ◌||◌, List, [], ◌∷◌, Option, Some, None, Result, Ok, Err, if◌then◌else◌}
use Rattle.std.specs.Option.{ok_or}
use Rattle.std.proofs.Common.{refl}
use Rattle.agc_script.specs.declared.event.What.{What}
use Rattle.agc_script.specs.declared.line.Repeat.{Repeat}
use Rattle.agc_script.specs.declared.fault.FaultKind.{FaultKind}
use Rattle.agc_script.specs.declared.fault.FaultKind.TheVariants.{BadCycle, OutOfOrder, UnknownWord, OutOfRange}
use Rattle.agc_script.specs.Command.{and_then, command_of}
use Rattle.agc_script.specs.Line.{cycle_of, cycle_word, in_turn, repeat_of, every_of}
use Rattle.agc_script.specs.Parse.{events_of}
use Rattle.agc_script.specs.Injection.{cycle_at, three_cycles, timing_of, command_words, events_at}
use Rattle.agc_script.proofs.Counts.{spans}
use Rattle.agc_script.proofs.Values.{repeated_events}

-- a line's events and its start, by its cycles and its command
record SaysBy (p s e : Option ℕ) (r : Result What FaultKind) (repeat : Repeat) : Type 0 where
  start : s ≡ Some repeat.start
  events : events_of repeat ≡ events_at (three_cycles p s e) r

turned_says : (t z : Bool) (n from to : ℕ) (r : Result What FaultKind) (repeat : Repeat) → ((n == 0) || nat_lt to from) ≡ z
    → and_then (and_then (if t then Err OutOfOrder else Ok from) (λ _. r))
    (λ event. if z then Err OutOfRange else Ok (record { start = from; period = n; times = (to - from) / n + 1; what = event })) ≡ Ok repeat
    → SaysBy (Some n) (Some from) (Some to) r repeat
turned_says true z n from to r repeat k h = cc
turned_says false z n from to (Err kind) repeat k h = cc
turned_says false true n from to (Ok what) repeat k h = cc
turned_says false false n from to (Ok what) repeat k h =
    let s = spans n from to k in
    let one : Repeat = record { start = from; period = n; times = (to - from) / n + 1; what = what } in
    let same : one ≡ repeat = cc in
    rw (← same) (record { start = refl; events = repeated_events n from to what s.0 s.1 })

cycles_say : (last : ℕ) (p s e : Option ℕ) (r : Result What FaultKind) (repeat : Repeat)
    → and_then (ok_or p BadCycle) (λ period. and_then (ok_or s BadCycle) (λ start. and_then (ok_or e BadCycle)
    (λ end. and_then (and_then (in_turn last start) (λ _. r)) (repeat_of period start end)))) ≡ Ok repeat
    → SaysBy p s e r repeat
unfolding in_turn repeat_of
cycles_say last None s e r repeat h = cc
cycles_say last (Some n) None e r repeat h = cc
cycles_say last (Some n) (Some from) None r repeat h = cc
cycles_say last (Some n) (Some from) (Some to) r repeat h =
    turned_says (nat_lt from last) ((n == 0) || nat_lt to from) n from to r repeat refl h

-- the meaning of a line's words
pub record WordsSay (words : List (List ℕ)) (repeat : Repeat) : Type 0 where
  pub start : cycle_at 1 words ≡ Some repeat.start
  pub events : events_of repeat ≡ events_at (timing_of words) (command_of (command_words words))

short_says : (last : ℕ) (n : List ℕ) (p : Option ℕ) (repeat : Repeat) → and_then (ok_or p BadCycle) (λ period. Err UnknownWord) ≡ Ok repeat → WordsSay (n ∷ []) repeat
short_says last n None repeat h = cc
short_says last n (Some period) repeat h = cc

no_command : (start : ℕ) (t : Bool) (words : List (List ℕ)) (repeat : Repeat)
    → and_then (if t then Err OutOfOrder else Ok start) (λ _. Err UnknownWord) ≡ Ok repeat → WordsSay words repeat
no_command start true words repeat h = cc
no_command start false words repeat h = cc

two_say : (last : ℕ) (words : List (List ℕ)) (p s : Option ℕ) (repeat : Repeat)
    → and_then (ok_or p BadCycle) (λ period. and_then (ok_or s BadCycle) (λ start. and_then (in_turn last start) (λ _. Err UnknownWord))) ≡ Ok repeat → WordsSay words repeat
unfolding in_turn
two_say last words None s repeat h = cc
two_say last words (Some period) None repeat h = cc
two_say last words (Some period) (Some start) repeat h = no_command start (nat_lt start last) words repeat h

pub every_says : (last : ℕ) (words : List (List ℕ)) (repeat : Repeat) → every_of last words ≡ Ok repeat → WordsSay words repeat
unfolding every_of cycle_word
every_says last [] repeat h = cc
every_says last (n ∷ []) repeat h = short_says last n (cycle_of n) repeat h
every_says last (n ∷ from ∷ []) repeat h = two_say last (n ∷ from ∷ []) (cycle_of n) (cycle_of from) repeat h
every_says last (n ∷ from ∷ to ∷ command) repeat h =
    let parsed = cycles_say last (cycle_of n) (cycle_of from) (cycle_of to) (command_of command) repeat h in
    record { start = parsed.start; events = parsed.events }
