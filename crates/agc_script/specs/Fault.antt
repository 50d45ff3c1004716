-- The faults of a line, each kind checked by itself, and which of all faults a script is refused
-- for.
use Rattle.std.specs.Prelude.{◌≡◌, ℕ, ◌+◌, ◌-◌, ◌*◌, ◌≤◌, ◌<◌, ◌==◌, nat_lt, nat_le, Bool, true}
use Rattle.std.specs.Prelude.{false, not, ◌||◌, List, [], ◌∷◌, length, take, Option, Some, None}
use Rattle.std.specs.Prelude.{is_some, is_none, if◌then◌else◌, slice_index_or, option_and_then}
use Rattle.std.specs.List.{list_any}
use Rattle.std.specs.Option.{option_map_or}
use Rattle.agc_word.specs.Numeral.{number_of, octal_number}
use Rattle.agc_word.specs.Text.{words_of}
use Rattle.agc_script.specs.Event.{most_events}
use Rattle.agc_script.specs.Key.{key_named}
use Rattle.agc_script.specs.Grammar.{command_named, direction_named, pulse_named, radix, is_within}
use Rattle.agc_script.specs.Grammar.{channels, counters, interrupts, banks, patterns, offsets_in}
use Rattle.agc_script.specs.declared.grammar.Command.{Command}
use Rattle.agc_script.specs.declared.grammar.Command.TheVariants as command
use Rattle.agc_script.specs.declared.grammar.NumberRange.{NumberRange}
use Rattle.agc_script.specs.Line.{cycle_of, longest_line, is_beyond_ascii}
use Rattle.agc_script.specs.Injection.{spelt_out, cycle_at, timing_of, command_words, last_start}
use Rattle.agc_script.specs.Injection.{events_of_lines}
use Rattle.agc_script.specs.declared.fault.FaultKind.{FaultKind}
use Rattle.agc_script.specs.declared.fault.FaultKind.TheVariants.{LineTooLong, NotAscii, BadCycle}
use Rattle.agc_script.specs.declared.fault.FaultKind.TheVariants.{OutOfOrder, UnknownWord}
use Rattle.agc_script.specs.declared.fault.FaultKind.TheVariants.{BadNumber, OutOfRange, TooMany}
use Rattle.agc_script.specs.declared.fault.FaultKind.TheVariants.{Memory}
use Rattle.agc_script.specs.declared.fault.ScriptFault.{ScriptFault}

-- a number of a command: the word that writes it and its range
pub record Numeral : Type 0 where
  pub word : List ℕ
  pub range : NumberRange

abbrev pub numeral : List ℕ → NumberRange → Numeral
numeral word range = record { word = word; range = range }

-- the value of the number, if its word has at most six digits
abbrev pub value_of : Numeral → Option ℕ
value_of n = number_of (radix n.range.base) 6 n.word

abbrev pub known_and : {T : Type 0} → (T → Bool) → Option T → Bool
known_and test value = option_map_or test value false

abbrev pub where_known : Bool → List Numeral → Option (List Numeral)
where_known known numbers = if known then Some numbers else None

-- The numbers among the words after a command's name, if the names among these words are known and
-- the number of words is right.
unfoldable pub numbers_after : List (List ℕ) → Command → Option (List Numeral)
numbers_after (a ∷ []) command.Key = where_known (is_some (key_named a)) []
numbers_after (a ∷ []) command.Pro = where_known (is_some (direction_named a)) []
numbers_after (a ∷ []) command.Raise = Some (numeral a interrupts ∷ [])
numbers_after (a ∷ b ∷ []) command.Input = Some (numeral a channels ∷ numeral b patterns ∷ [])
numbers_after (a ∷ b ∷ []) command.Pulse =
    where_known (is_some (pulse_named b)) (numeral a counters ∷ [])
numbers_after (a ∷ b ∷ c ∷ []) command.Poke =
    Some (numeral a banks ∷ numeral b (offsets_in (octal_number 6 a)) ∷ numeral c patterns ∷ [])
numbers_after words command = None

-- the numbers of a command, if it is known and so are its words
unfoldable pub numbers_of : List (List ℕ) → Option (List Numeral)
numbers_of [] = None
numbers_of (name ∷ words) = option_and_then (numbers_after words) (command_named name)

abbrev pub is_no_cycle : List ℕ → Bool
is_no_cycle word = is_none (cycle_of word)

abbrev pub is_bad : Numeral → Bool
is_bad n = is_none (value_of n)

abbrev pub is_beyond_range : Numeral → Bool
is_beyond_range n = known_and (λ value. not (is_within n.range.low n.range.high value)) (value_of n)

-- N is 0, or TO comes before FROM
abbrev pub is_no_span : ℕ × ℕ × ℕ → Bool
is_no_span t = (t.0 == 0) || nat_lt t.2 t.1

-- after this many events a line reaches event 65,537
abbrev pub goes_beyond : ℕ → ℕ × ℕ × ℕ → Bool
goes_beyond before t = nat_le (t.1 + (most_events - before) * t.0) t.2

-- The kinds of fault of an event line, from its words.
unfoldable pub words_have : FaultKind → ℕ → ℕ → List (List ℕ) → Bool
words_have BadCycle last before words = list_any is_no_cycle (take 3 words)
words_have OutOfOrder last before words = known_and (λ from. nat_lt from last) (cycle_at 1 words)
words_have UnknownWord last before words = is_none (numbers_of (command_words words))
words_have BadNumber last before words =
    known_and (list_any is_bad) (numbers_of (command_words words))
words_have OutOfRange last before words =
    known_and is_no_span (timing_of words)
    || known_and (list_any is_beyond_range) (numbers_of (command_words words))
words_have TooMany last before words = known_and (goes_beyond before) (timing_of words)
words_have kind last before words = false

-- The kinds of fault of a line, after this many events; the last event line started at `last`.
unfoldable pub has_fault : FaultKind → ℕ → ℕ → List ℕ → Bool
has_fault LineTooLong last before line = nat_lt longest_line (length line)
has_fault NotAscii last before line = list_any is_beyond_ascii line
has_fault kind last before line =
    known_and (words_have kind last before) (spelt_out (words_of line))

-- the position of a kind in the list of kinds; the lowest is reported
abbrev pub rank : FaultKind → ℕ
rank LineTooLong = 1
rank NotAscii = 2
rank BadCycle = 3
rank OutOfOrder = 4
rank UnknownWord = 5
rank BadNumber = 6
rank OutOfRange = 7
rank TooMany = 8
rank Memory = 9

-- the kinds of fault of the n-th line, counted from 1, after the lines before it
unfoldable pub fault_at : List (List ℕ) → ℕ → FaultKind → Bool
fault_at lines n kind =
    let before = take (n - 1) lines in
    has_fault kind (last_start before) (length (events_of_lines before))
    (slice_index_or lines (n - 1) [])

-- the first lines, up to this number, have no fault of any kind
pub record AreFaultless (lines : List (List ℕ)) (count : ℕ) : Type 0 where
  pub none : (n : ℕ) (kind : FaultKind) → 1 ≤ n → n ≤ count → fault_at lines n kind ≡ false

-- a fault that its line has, the lowest of that line, with no fault in any earlier line
pub record IsFirstFault (lines : List (List ℕ)) (fault : ScriptFault) : Type 0 where
  pub has : fault_at lines fault.line fault.kind ≡ true
  pub lowest : (lower : FaultKind) → rank lower < rank fault.kind
      → fault_at lines fault.line lower ≡ false
  pub before : AreFaultless lines (fault.line - 1)
  pub first : 1 ≤ fault.line
  pub last : fault.line ≤ length lines
