-- The meaning of a script's commands, or the lowest kind of fault in their words.
use Rattle.std.specs.Prelude.{ℕ, nat_le, Bool, ◌&&◌, List, [], ◌∷◌, Option, Some, None}
use Rattle.std.specs.Prelude.{Result, Ok, Err, if◌then◌else◌, option_map, option_and_then}
use Rattle.std.specs.Option.{ok_or}
use Rattle.agc_word.specs.Number.{number_from_pattern}
use Rattle.agc_word.specs.Channels.{is_io_channel}
use Rattle.agc_word.specs.Numeral.{number_of}
use Rattle.agc_word.specs.declared.pulse.Pulse.{Pulse}
use Rattle.agc_script.specs.Key.{key_named}
use Rattle.agc_script.specs.Event.{first_counter, last_counter, last_interrupt, last_bank}
use Rattle.agc_script.specs.Event.{first_offset, last_offset}
use Rattle.agc_script.specs.Grammar.{command_named, direction_named, pulse_named, radix, is_within}
use Rattle.agc_script.specs.declared.grammar.Base.{Base}
use Rattle.agc_script.specs.declared.grammar.Base.TheVariants as base
use Rattle.agc_script.specs.declared.grammar.Command.{Command}
use Rattle.agc_script.specs.declared.grammar.Command.TheVariants as command
use Rattle.agc_script.specs.declared.event.What.{What}
use Rattle.agc_script.specs.declared.event.What.TheVariants as what
use Rattle.agc_script.specs.declared.fault.FaultKind.{FaultKind}
use Rattle.agc_script.specs.declared.fault.FaultKind.TheVariants.{UnknownWord, BadNumber}
use Rattle.agc_script.specs.declared.fault.FaultKind.TheVariants.{OutOfRange}

-- the next step, unless there is a fault already
abbrev pub and_then : {T U : Type 0}
    → Result T FaultKind → (T → Result U FaultKind) → Result U FaultKind
and_then (Ok x) next = next x
and_then (Err kind) next = Err kind

-- the meaning of words, if it is known
abbrev pub or_unknown : {T : Type 0} → Option T → Result T FaultKind
or_unknown found = ok_or found UnknownWord

-- exactly one word
unfoldable pub one_of : List (List ℕ) → Option (List ℕ)
one_of [] = None
one_of (word ∷ []) = Some word
one_of (word ∷ next ∷ words) = None

-- exactly two words
unfoldable pub two_of : List (List ℕ) → Option (List ℕ × List ℕ)
two_of [] = None
two_of (first ∷ words) = option_map (λ second. (first, second)) (one_of words)

-- exactly three words
unfoldable pub three_of : List (List ℕ) → Option (List ℕ × List ℕ × List ℕ)
three_of [] = None
three_of (first ∷ words) = option_map (λ others. (first, others.0, others.1)) (two_of words)

-- a number has one digit to six of its base
unfoldable pub number_in : Base → List ℕ → Result ℕ FaultKind
number_in b word = ok_or (number_of (radix b) 6 word) BadNumber

abbrev pub octal_of : List ℕ → Result ℕ FaultKind
octal_of word = number_in base.Octal word

abbrev pub decimal_of : List ℕ → Result ℕ FaultKind
decimal_of word = number_in base.Decimal word

-- one more octal number, beside those read before
abbrev pub with_octal : {T : Type 0} → List ℕ → T → Result (T × ℕ) FaultKind
with_octal word read = and_then (octal_of word) (λ number. Ok (read, number))

-- the octal numbers that two words write, and three
abbrev pub two_octals : List ℕ × List ℕ → Result (ℕ × ℕ) FaultKind
two_octals w = and_then (octal_of w.0) (with_octal w.1)

abbrev pub three_octals : List ℕ × List ℕ × List ℕ → Result ((ℕ × ℕ) × ℕ) FaultKind
three_octals w = and_then (two_octals (w.0, w.1)) (with_octal w.2)

-- a word's pattern has fifteen bits
abbrev pub is_pattern : ℕ → Bool
is_pattern n = nat_le n 0o77777

-- `key NAME`
unfoldable pub key_of : List (List ℕ) → Result What FaultKind
key_of words =
    and_then (or_unknown (option_and_then key_named (one_of words))) (λ key. Ok (what.Key key))

-- `pro down` and `pro up`
unfoldable pub pro_of : List (List ℕ) → Result What FaultKind
pro_of words =
    and_then (or_unknown (option_and_then direction_named (one_of words)))
    (λ down. Ok (what.Pro down))

-- `input CH VALUE`
unfoldable pub input_event : ℕ → ℕ → Result What FaultKind
input_event channel value =
    if is_io_channel channel && is_pattern value
    then Ok (what.Input channel (number_from_pattern 15 value))
    else Err OutOfRange

unfoldable pub input_of : List (List ℕ) → Result What FaultKind
input_of words =
    and_then (and_then (or_unknown (two_of words)) two_octals) (λ n. input_event n.0 n.1)

-- `pulse COUNTER KIND`; the kind is checked before the counter's digits
unfoldable pub pulse_event : Pulse → ℕ → Result What FaultKind
pulse_event kind counter =
    if is_within first_counter last_counter counter
    then Ok (what.Pulse counter kind)
    else Err OutOfRange

abbrev pub pulse_at : List ℕ → Pulse → Result What FaultKind
pulse_at counter kind = and_then (octal_of counter) (pulse_event kind)

unfoldable pub pulse_of : List (List ℕ) → Result What FaultKind
pulse_of words =
    and_then (or_unknown (two_of words))
    (λ w. and_then (or_unknown (pulse_named w.1)) (pulse_at w.0))

-- `raise N`, the one decimal number of a command
unfoldable pub raise_event : ℕ → Result What FaultKind
raise_event number =
    if is_within 1 last_interrupt number then Ok (what.Raise number) else Err OutOfRange

unfoldable pub raise_of : List (List ℕ) → Result What FaultKind
raise_of words = and_then (and_then (or_unknown (one_of words)) decimal_of) raise_event

-- `poke BANK OFFSET VALUE`
abbrev pub is_poke_place : ℕ → ℕ → Bool
is_poke_place bank offset =
    nat_le bank last_bank && is_within (first_offset bank) last_offset offset

unfoldable pub poke_event : ℕ → ℕ → ℕ → Result What FaultKind
poke_event bank offset value =
    if is_poke_place bank offset && is_pattern value
    then Ok (what.Poke bank offset (number_from_pattern 15 value))
    else Err OutOfRange

unfoldable pub poke_of_words : List (List ℕ) → Result What FaultKind
poke_of_words words =
    and_then (and_then (or_unknown (three_of words)) three_octals) (λ n. poke_event n.0.0 n.0.1 n.1)

-- the meaning of a command by the words after its name
unfoldable pub parsed_by : List (List ℕ) → Command → Result What FaultKind
parsed_by words command.Key = key_of words
parsed_by words command.Pro = pro_of words
parsed_by words command.Input = input_of words
parsed_by words command.Pulse = pulse_of words
parsed_by words command.Raise = raise_of words
parsed_by words command.Poke = poke_of_words words

-- a command and its arguments
unfoldable pub command_of : List (List ℕ) → Result What FaultKind
command_of [] = Err UnknownWord
command_of (name ∷ words) = and_then (or_unknown (command_named name)) (parsed_by words)
