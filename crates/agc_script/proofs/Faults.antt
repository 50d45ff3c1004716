-- The fault of a line is the lowest of those that it has.
use Rattle.std.specs.Prelude.{◌≡◌, ◌≢◌, IfErr, ℕ, suc, ◌+◌, ◌-◌, ◌/◌, nat_lt, Bool, true, false, List, [], ◌∷◌, length, Option, Some, None, Result, Ok, Err, if◌then◌else◌, codes}
use Rattle.std.specs.List.{list_any}
use Rattle.std.specs.Option.{ok_or}
use Rattle.std.specs.Result.{result_err}
use Rattle.std.specs.Str.{bytes_eq}
use Rattle.std.proofs.Common.{refl, arith}
use Rattle.std.proofs.lemmas.Bool.{lt-leb}
use Rattle.agc_word.specs.Numeral.{number_of}
use Rattle.agc_script.specs.declared.event.What.{What}
use Rattle.agc_script.specs.declared.line.Repeat.{Repeat}
use Rattle.agc_script.specs.declared.fault.FaultKind.{FaultKind}
use Rattle.agc_script.specs.declared.fault.FaultKind.TheVariants.{Memory, LineTooLong, NotAscii, BadCycle, OutOfOrder, UnknownWord, BadNumber, OutOfRange, TooMany}
use Rattle.agc_word.specs.Text.{words_of}
use Rattle.agc_script.specs.Command.{and_then, command_of}
use Rattle.agc_script.specs.Line.{cycle_of, cycle_word, in_turn, once_of, repeat_of, every_of, begins_comment, longest_line, is_beyond_ascii, words_meaning, meaning_of}
use Rattle.agc_script.specs.Injection.{spelt_out}
use Rattle.agc_script.specs.Fault.{known_and, words_have, has_fault}
use Rattle.agc_script.proofs.Verdicts.{lowest_of_six, every_judged}

-- the lowest of all faults
abbrev pub lowest_of : (FaultKind → Bool) → Option FaultKind
lowest_of has =
    if has LineTooLong then Some LineTooLong else (if has NotAscii then Some NotAscii
    else lowest_of_six (has BadCycle) (has OutOfOrder) (has UnknownWord) (has BadNumber) (has OutOfRange) (has TooMany))

-- a line with one cycle is a line `every` from this cycle to itself
one_is_cycle : cycle_of (codes "1") ≡ Some 1
unfolding cycle_of number_of
one_is_cycle = refl

once_turned : (t : Bool) (r : Result What FaultKind) (cycle : ℕ)
    → and_then (if t then Err OutOfOrder else Ok cycle) (λ start. and_then r (λ event. Ok (record { start = start; period = 1; times = 1; what = event })))
    ≡ and_then (and_then (if t then Err OutOfOrder else Ok cycle) (λ _. r)) (repeat_of 1 cycle cycle)
unfolding repeat_of
once_turned true r cycle = refl
once_turned false (Err kind) cycle = refl
once_turned false (Ok event) cycle =
    let same : nat_lt cycle cycle ≡ false = lt-leb (suc cycle) cycle (omega arith) in
    let times : (cycle - cycle) / 1 + 1 ≡ 1 = omega arith in
    rw (same, times)

once_is : (last : ℕ) (p s : Option ℕ) (r : Result What FaultKind) → p ≡ Some 1
    → and_then (and_then (ok_or s BadCycle) (in_turn last)) (λ start. and_then r (λ event. Ok (record { start = start; period = 1; times = 1; what = event })))
    ≡ and_then (ok_or p BadCycle) (λ period. and_then (ok_or s BadCycle) (λ start. and_then (ok_or s BadCycle)
    (λ end. and_then (and_then (in_turn last start) (λ _. r)) (repeat_of period start end))))
unfolding in_turn
once_is last None s r e = cc
once_is last (Some n) None r e = refl
once_is last (Some n) (Some start) r e = let one : n ≡ 1 = cc in rw one (once_turned (nat_lt start last) r start)

pub once_every : (last : ℕ) (first : List ℕ) (words : List (List ℕ)) → once_of last first words ≡ every_of last (codes "1" ∷ first ∷ first ∷ words)
unfolding once_of every_of cycle_word
once_every last first words = once_is last (cycle_of (codes "1")) (cycle_of first) (command_of words) one_is_cycle

abbrev WordsJudged : ℕ → ℕ → List (List ℕ) → Type 0
WordsJudged last before words =
    result_err (words_meaning last before words)
    ≡ lowest_of_six (known_and (words_have BadCycle last before) (spelt_out words)) (known_and (words_have OutOfOrder last before) (spelt_out words))
    (known_and (words_have UnknownWord last before) (spelt_out words)) (known_and (words_have BadNumber last before) (spelt_out words))
    (known_and (words_have OutOfRange last before) (spelt_out words)) (known_and (words_have TooMany last before) (spelt_out words))

line_kind : (last before : ℕ) (first : List ℕ) (words : List (List ℕ)) (comment every : Bool) → begins_comment first ≡ comment → bytes_eq first (codes "every") ≡ every
    → WordsJudged last before (first ∷ words)
unfolding words_meaning spelt_out
line_kind last before first words true every p q = rw p
line_kind last before first words false true p q = rw (p, q) (every_judged last before words)
line_kind last before first words false false p q =
    rw (p, q, once_every last first words) (every_judged last before (codes "1" ∷ first ∷ first ∷ words))

words_judged : (last before : ℕ) (words : List (List ℕ)) → WordsJudged last before words
unfolding words_meaning spelt_out
words_judged last before [] = refl
words_judged last before (first ∷ words) = line_kind last before first words (begins_comment first) (bytes_eq first (codes "every")) refl refl

-- out of memory is not among them
none_is_memory : (c t u b o m : Bool) (kind : FaultKind) → Some kind ≡ lowest_of_six c t u b o m → kind ≢ Memory
none_is_memory true t u b o m kind h = λ e. cc
none_is_memory false true u b o m kind h = λ e. cc
none_is_memory false false true b o m kind h = λ e. cc
none_is_memory false false false true o m kind h = λ e. cc
none_is_memory false false false false true m kind h = λ e. cc
none_is_memory false false false false false true kind h = λ e. cc
none_is_memory false false false false false false kind h = λ e. cc

other_than_memory : (r : Result (Option Repeat) FaultKind) (six : Option FaultKind) → result_err r ≡ six → ((kind : FaultKind) → Some kind ≡ six → kind ≢ Memory)
    → IfErr r (λ kind. kind ≢ Memory)
other_than_memory (Ok parsed) six h never = tt
other_than_memory (Err kind) six h never = never kind h

pub words_other : (last before : ℕ) (words : List (List ℕ)) → IfErr (words_meaning last before words) (λ kind. kind ≢ Memory)
words_other last before words =
    other_than_memory (words_meaning last before words) _ (words_judged last before words)
    (none_is_memory (known_and (words_have BadCycle last before) (spelt_out words)) (known_and (words_have OutOfOrder last before) (spelt_out words))
    (known_and (words_have UnknownWord last before) (spelt_out words)) (known_and (words_have BadNumber last before) (spelt_out words))
    (known_and (words_have OutOfRange last before) (spelt_out words)) (known_and (words_have TooMany last before) (spelt_out words)))

measured : (l a : Bool) (r : Result (Option Repeat) FaultKind) (six : Option FaultKind) → result_err r ≡ six
    → result_err (if l then Err LineTooLong else (if a then Err NotAscii else r)) ≡ (if l then Some LineTooLong else (if a then Some NotAscii else six))
measured true a r six h = refl
measured false true r six h = refl
measured false false r six h = h

pub line_judged : (last before : ℕ) (line : List ℕ) → result_err (meaning_of last before line) ≡ lowest_of (λ kind. has_fault kind last before line)
unfolding meaning_of has_fault
line_judged last before line =
    measured (nat_lt longest_line (length line)) (list_any is_beyond_ascii line) (words_meaning last before (words_of line)) _ (words_judged last before (words_of line))
