-- The fault of a command with numbers is the lowest of those that its words have.
use Rattle.std.specs.Prelude.{◌≡◌, ℕ, Bool, true, false, not, ◌&&◌, ◌||◌, nat_le, List, [], ◌∷◌, Option, Some, None, is_none, Result, Ok, Err, if◌then◌else◌}
use Rattle.std.specs.List.{list_any}
use Rattle.std.specs.Result.{result_err}
use Rattle.std.proofs.Common.{refl, arith}
use Rattle.std.proofs.lemmas.Bool.{le-leb}
use Rattle.agc_word.specs.Number.{number_from_pattern}
use Rattle.agc_word.specs.Numeral.{number_of}
use Rattle.agc_word.specs.declared.pulse.Pulse.{Pulse}
use Rattle.agc_script.specs.declared.event.What.{What}
use Rattle.agc_script.specs.declared.event.What.TheVariants as what
use Rattle.agc_script.specs.declared.fault.FaultKind.{FaultKind}
use Rattle.agc_script.specs.declared.fault.FaultKind.TheVariants.{UnknownWord, BadNumber, OutOfRange}
use Rattle.agc_script.specs.Event.{last_bank, last_offset, first_offset}
use Rattle.agc_script.specs.Command.{one_of, two_of, three_of, number_in, input_event, input_of, pulse_event, pulse_of, raise_event, raise_of, poke_event, poke_of_words, parsed_by}
use Rattle.agc_script.specs.Grammar.{is_within, pulse_named}
use Rattle.agc_script.specs.Fault.{Numeral, known_and, numbers_after, is_bad, is_beyond_range}
use Rattle.agc_script.specs.declared.grammar.Command.{Command}
use Rattle.agc_script.specs.declared.grammar.Command.TheVariants as command

-- the lowest of three faults
abbrev pub lowest_of_three : Bool → Bool → Bool → Option FaultKind
lowest_of_three unknown bad beyond =
    if unknown then Some UnknownWord else (if bad then Some BadNumber else (if beyond then Some OutOfRange else None))

abbrev pub JudgedBy : Result What FaultKind → Option (List Numeral) → Type 0
JudgedBy parsed numbers =
    result_err parsed ≡ lowest_of_three (is_none numbers) (known_and (list_any is_bad) numbers) (known_and (list_any is_beyond_range) numbers)

-- by the words after a command's name
abbrev pub Judged : List (List ℕ) → Command → Type 0
Judged words command = JudgedBy (parsed_by words command) (numbers_after words command)

-- numbers in range, or one that is not
one_range : (t : Bool) (event : What) → result_err (if t then Ok event else Err OutOfRange) ≡ lowest_of_three false false (not t || false)
one_range true event = refl
one_range false event = refl

two_ranges : (s t : Bool) (event : What) → result_err (if s && t then Ok event else Err OutOfRange) ≡ lowest_of_three false false (not s || (not t || false))
two_ranges true true event = refl
two_ranges true false event = refl
two_ranges false true event = refl
two_ranges false false event = refl

three_ranges : (s t u : Bool) (event : What)
    → result_err (if (s && t) && u then Ok event else Err OutOfRange) ≡ lowest_of_three false false (not s || (not t || (not u || false)))
three_ranges true t u event = two_ranges t u event
three_ranges false t u event = refl

-- no number is below 0
none_below : (n : ℕ) → nat_le 0 n ≡ true
none_below n = le-leb 0 n (omega arith)

-- `input CH VALUE`
input_known : (a b : List ℕ) (x y : Option ℕ) → number_of 8 6 a ≡ x → number_of 8 6 b ≡ y → Judged (a ∷ b ∷ []) command.Input
unfolding parsed_by input_of two_of one_of number_in input_event numbers_after
input_known a b None y e f = rw e
input_known a b (Some channel) None e f = rw (e, f)
input_known a b (Some channel) (Some value) e f = rw (e, f, none_below value) (two_ranges _ _ _)

pub input_judged : (words : List (List ℕ)) → Judged words command.Input
unfolding parsed_by input_of two_of one_of number_in numbers_after
input_judged [] = refl
input_judged (a ∷ []) = refl
input_judged (a ∷ b ∷ []) = input_known a b (number_of 8 6 a) (number_of 8 6 b) refl refl
input_judged (a ∷ b ∷ c ∷ []) = refl
input_judged (a ∷ b ∷ c ∷ d ∷ words) = refl

-- `pulse COUNTER KIND`
pulse_known : (a b : List ℕ) (x : Option ℕ) (kind : Option Pulse) → number_of 8 6 a ≡ x → pulse_named b ≡ kind → Judged (a ∷ b ∷ []) command.Pulse
unfolding parsed_by pulse_of two_of one_of number_in pulse_event numbers_after
pulse_known a b x None e f = rw f
pulse_known a b None (Some kind) e f = rw (f, e)
pulse_known a b (Some counter) (Some kind) e f = rw (f, e) (one_range _ _)

pub pulse_judged : (words : List (List ℕ)) → Judged words command.Pulse
unfolding parsed_by pulse_of two_of one_of number_in numbers_after
pulse_judged [] = refl
pulse_judged (a ∷ []) = refl
pulse_judged (a ∷ b ∷ []) = pulse_known a b (number_of 8 6 a) (pulse_named b) refl refl
pulse_judged (a ∷ b ∷ c ∷ []) = refl
pulse_judged (a ∷ b ∷ c ∷ d ∷ words) = refl

-- `raise N`
raise_known : (a : List ℕ) (x : Option ℕ) → number_of 10 6 a ≡ x → Judged (a ∷ []) command.Raise
unfolding parsed_by raise_of one_of number_in raise_event numbers_after
raise_known a None e = rw e
raise_known a (Some number) e = rw e (one_range _ _)

pub raise_judged : (words : List (List ℕ)) → Judged words command.Raise
unfolding parsed_by raise_of one_of number_in numbers_after
raise_judged [] = refl
raise_judged (a ∷ []) = raise_known a (number_of 10 6 a) refl
raise_judged (a ∷ b ∷ []) = refl
raise_judged (a ∷ b ∷ c ∷ []) = refl
raise_judged (a ∷ b ∷ c ∷ d ∷ words) = refl

-- `poke BANK OFFSET VALUE`
poke_known : (a b c : List ℕ) (x y z : Option ℕ) → number_of 8 6 a ≡ x → number_of 8 6 b ≡ y → number_of 8 6 c ≡ z → Judged (a ∷ b ∷ c ∷ []) command.Poke
unfolding parsed_by poke_of_words three_of two_of one_of number_in poke_event numbers_after
poke_known a b c None y z e f g = rw e
poke_known a b c (Some bank) None z e f g = rw (e, f)
poke_known a b c (Some bank) (Some offset) None e f g = rw (e, f, g)
poke_known a b c (Some bank) (Some offset) (Some value) e f g =
    rw (e, f, g, none_below bank, none_below value)
    (three_ranges (nat_le bank last_bank) (is_within (first_offset bank) last_offset offset) (nat_le value 0o77777) (what.Poke bank offset (number_from_pattern 15 value)))

pub poke_judged : (words : List (List ℕ)) → Judged words command.Poke
unfolding parsed_by poke_of_words three_of two_of one_of number_in numbers_after
poke_judged [] = refl
poke_judged (a ∷ []) = refl
poke_judged (a ∷ b ∷ []) = refl
poke_judged (a ∷ b ∷ c ∷ []) = poke_known a b c (number_of 8 6 a) (number_of 8 6 b) (number_of 8 6 c) refl refl refl
poke_judged (a ∷ b ∷ c ∷ d ∷ words) = refl
