-- The fault of an event line is the lowest of those that its words have.
use Rattle.std.specs.Prelude.{◌≡◌, ℕ, ◌+◌, ◌-◌, ◌*◌, ◌/◌, ◌==◌, nat_lt, nat_le, Bool, true, false, ◌||◌, List, [], ◌∷◌, Option, Some, None, is_none, Result, Ok, Err, if◌then◌else◌}
use Rattle.std.specs.List.{list_any}
use Rattle.std.specs.Option.{ok_or}
use Rattle.std.specs.Result.{result_err}
use Rattle.std.proofs.Common.{refl}
use Rattle.agc_script.specs.declared.event.What.{What}
use Rattle.agc_script.specs.declared.line.Repeat.{Repeat}
use Rattle.agc_script.specs.declared.fault.FaultKind.{FaultKind}
use Rattle.agc_script.specs.declared.fault.FaultKind.TheVariants.{BadCycle, OutOfOrder, UnknownWord, BadNumber, OutOfRange, TooMany}
use Rattle.agc_script.specs.Event.{most_events}
use Rattle.agc_script.specs.Command.{and_then, command_of}
use Rattle.agc_script.specs.Line.{cycle_of, cycle_word, in_turn, repeat_of, every_of, within_bound}
use Rattle.agc_script.specs.Injection.{three_cycles}
use Rattle.agc_script.specs.Fault.{known_and, numbers_of, is_bad, is_beyond_range, is_no_span, goes_beyond, words_have}
use Rattle.agc_script.proofs.Numbers.{lowest_of_three}
use Rattle.agc_script.proofs.Commands.{command_judged}
use Rattle.agc_script.proofs.Counts.{bounded}

-- the lowest of the six faults that the words of an event line can have
abbrev pub lowest_of_six : Bool → Bool → Bool → Bool → Bool → Bool → Option FaultKind
lowest_of_six cycle order unknown bad beyond many =
    if cycle then Some BadCycle else (if order then Some OutOfOrder else (if unknown then Some UnknownWord else (if bad then Some BadNumber
    else (if beyond then Some OutOfRange else (if many then Some TooMany else None)))))

-- the steps after the cycles, one after another
steps : (before : ℕ) (t u b o z n : Bool) (r : Result What FaultKind) (start : ℕ) (repeat : What → Repeat)
    → (z ≡ false → (what : What) → result_err (within_bound before (repeat what)) ≡ (if n then Some TooMany else None)) → result_err r ≡ lowest_of_three u b o
    → result_err (and_then (and_then (and_then (if t then Err OutOfOrder else Ok start) (λ _. r)) (λ event. if z then Err OutOfRange else Ok (repeat event)))
    (within_bound before)) ≡ lowest_of_six false t u b (z || o) n
steps before true u b o z n r start repeat e h = refl
steps before false true b o z n (Err kind) start repeat e h = h
steps before false false true o z n (Err kind) start repeat e h = h
steps before false false false true true n (Err kind) start repeat e h = h
steps before false false false true false n (Err kind) start repeat e h = h
steps before false false false false z n (Err kind) start repeat e h = cc
steps before false true b o z n (Ok what) start repeat e h = cc
steps before false false true o z n (Ok what) start repeat e h = cc
steps before false false false true z n (Ok what) start repeat e h = cc
steps before false false false false true n (Ok what) start repeat e h = refl
steps before false false false false false n (Ok what) start repeat e h = e refl what

-- with all three cycles checked before anything else
cycles_judged : (last before : ℕ) (p s e : Option ℕ) (r : Result What FaultKind) (u b o : Bool) → result_err r ≡ lowest_of_three u b o
    → result_err (and_then (and_then (ok_or p BadCycle) (λ period. and_then (ok_or s BadCycle) (λ start. and_then (ok_or e BadCycle)
    (λ end. and_then (and_then (in_turn last start) (λ _. r)) (repeat_of period start end))))) (within_bound before))
    ≡ lowest_of_six (is_none p || (is_none s || (is_none e || false))) (known_and (λ from. nat_lt from last) s) u b
    (known_and is_no_span (three_cycles p s e) || o) (known_and (goes_beyond before) (three_cycles p s e))
unfolding in_turn repeat_of
cycles_judged last before None s e r u b o h = refl
cycles_judged last before (Some n) None e r u b o h = refl
cycles_judged last before (Some n) (Some from) None r u b o h = refl
cycles_judged last before (Some n) (Some from) (Some to) r u b o h =
    steps before (nat_lt from last) u b o ((n == 0) || nat_lt to from) (nat_le (from + (most_events - before) * n) to) r from
    (λ what. record { start = from; period = n; times = (to - from) / n + 1; what = what }) (λ z what. bounded before n from to what z) h

-- the fault of an event line, from its words
abbrev pub EveryJudged : ℕ → ℕ → List (List ℕ) → Type 0
EveryJudged last before words =
    result_err (and_then (every_of last words) (within_bound before))
    ≡ lowest_of_six (words_have BadCycle last before words) (words_have OutOfOrder last before words) (words_have UnknownWord last before words)
    (words_have BadNumber last before words) (words_have OutOfRange last before words) (words_have TooMany last before words)

one_cycle : (last before : ℕ) (n : List ℕ) (p : Option ℕ) → cycle_of n ≡ p → EveryJudged last before (n ∷ [])
unfolding every_of cycle_word words_have numbers_of
one_cycle last before n None e = rw e
one_cycle last before n (Some period) e = rw e

out_of_turn : (t : Bool) (start before : ℕ)
    → result_err (and_then (and_then (if t then Err OutOfOrder else Ok start) (λ _. Err UnknownWord)) (within_bound before)) ≡ lowest_of_six false t true false false false
out_of_turn true start before = refl
out_of_turn false start before = refl

two_cycles : (last before : ℕ) (n from : List ℕ) (p s : Option ℕ) → cycle_of n ≡ p → cycle_of from ≡ s → EveryJudged last before (n ∷ from ∷ [])
unfolding every_of cycle_word in_turn words_have numbers_of
two_cycles last before n from None s e f = rw e
two_cycles last before n from (Some period) None e f = rw (e, f)
two_cycles last before n from (Some period) (Some start) e f = rw (e, f) (out_of_turn (nat_lt start last) start before)

pub every_judged : (last before : ℕ) (words : List (List ℕ)) → EveryJudged last before words
unfolding every_of cycle_word words_have numbers_of
every_judged last before [] = refl
every_judged last before (n ∷ []) = one_cycle last before n (cycle_of n) refl
every_judged last before (n ∷ from ∷ []) = two_cycles last before n from (cycle_of n) (cycle_of from) refl refl
every_judged last before (n ∷ from ∷ to ∷ command) =
    cycles_judged last before (cycle_of n) (cycle_of from) (cycle_of to) (command_of command) (is_none (numbers_of command))
    (known_and (list_any is_bad) (numbers_of command)) (known_and (list_any is_beyond_range) (numbers_of command)) (command_judged command)
