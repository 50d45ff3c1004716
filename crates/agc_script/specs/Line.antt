-- The meaning of one line of a script after the event lines before it.
use Rattle.std.specs.Prelude.{ℕ, ◌+◌, ◌-◌, ◌*◌, ◌/◌, ◌==◌, nat_lt, nat_le, ◌≤◌, Bool, false, ◌||◌}
use Rattle.std.specs.Prelude.{List, [], ◌∷◌, length, Option, Some, None, Result, Ok, Err}
use Rattle.std.specs.Prelude.{if◌then◌else◌, codes, option_and_then}
use Rattle.std.specs.List.{list_any}
use Rattle.std.specs.Option.{ok_or}
use Rattle.std.specs.Str.{bytes_eq}
use Rattle.agc_word.specs.Numeral.{decimal_number}
use Rattle.agc_word.specs.Text.{words_of}
use Rattle.agc_script.specs.Event.{IsWhatInRange, last_cycle, most_events}
use Rattle.agc_script.specs.Command.{and_then, command_of}
use Rattle.agc_script.specs.declared.event.What.{What}
use Rattle.agc_script.specs.declared.line.Repeat.{Repeat}
use Rattle.agc_script.specs.declared.fault.FaultKind.{FaultKind}
use Rattle.agc_script.specs.declared.fault.FaultKind.TheVariants.{LineTooLong, NotAscii, BadCycle}
use Rattle.agc_script.specs.declared.fault.FaultKind.TheVariants.{OutOfOrder, UnknownWord}
use Rattle.agc_script.specs.declared.fault.FaultKind.TheVariants.{OutOfRange, TooMany}

-- a line's events are all in range: the event, and the last cycle with all others
pub record IsRepeatInRange (repeat : Repeat) : Type 0 where
  pub last : repeat.start + (repeat.times - 1) * repeat.period ≤ last_cycle
  pub few : repeat.times ≤ last_cycle + 1
  pub what : IsWhatInRange repeat.what

-- a number that is the cycle of an event
abbrev pub within_cycles : ℕ → Option ℕ
within_cycles cycle = if nat_le cycle last_cycle then Some cycle else None

-- the cycle that a word of one to thirteen decimal digits writes, unless it is past the last one
unfoldable pub cycle_of : List ℕ → Option ℕ
cycle_of word = option_and_then within_cycles (decimal_number 13 word)

-- the cycle of a word that must be one
unfoldable pub cycle_word : List ℕ → Result ℕ FaultKind
cycle_word word = ok_or (cycle_of word) BadCycle

-- a line's start, which may not be before that of the last event line
unfoldable pub in_turn : ℕ → ℕ → Result ℕ FaultKind
in_turn last start = if nat_lt start last then Err OutOfOrder else Ok start

-- a command's event at one cycle
abbrev pub once_at : List (List ℕ) → ℕ → Result Repeat FaultKind
once_at words cycle =
    and_then (command_of words)
    (λ event. Ok (record { start = cycle; period = 1; times = 1; what = event }))

-- a cycle and a command
unfoldable pub once_of : ℕ → List ℕ → List (List ℕ) → Result Repeat FaultKind
once_of last first words = and_then (and_then (cycle_word first) (in_turn last)) (once_at words)

-- the event at FROM, FROM + N, FROM + 2N and so on, up to TO, TO included
unfoldable pub repeat_of : ℕ → ℕ → ℕ → What → Result Repeat FaultKind
repeat_of period start end event =
    if (period == 0) || nat_lt end start then Err OutOfRange
    else Ok (record {
      start = start;
      period = period;
      times = (end - start) / period + 1;
      what = event;
    })

-- A line `every N FROM TO` and a command, with as many of these words as there are. The meaning of
-- the command after the three numbers ..
abbrev pub every_parsed : ℕ → List (List ℕ) → ℕ → ℕ → ℕ → Result Repeat FaultKind
every_parsed last command period start end =
    and_then (and_then (in_turn last start) (λ _. command_of command)) (repeat_of period start end)

-- .. of TO and all after it, after N and FROM ..
abbrev pub to_of : ℕ → List (List ℕ) → ℕ → ℕ → Result Repeat FaultKind
to_of last [] period start = and_then (in_turn last start) (λ _. Err UnknownWord)
to_of last (to ∷ command) period start =
    and_then (cycle_word to) (every_parsed last command period start)

-- .. of FROM and all after it, after N ..
abbrev pub from_of : ℕ → List (List ℕ) → ℕ → Result Repeat FaultKind
from_of last [] period = Err UnknownWord
from_of last (from ∷ words) period = and_then (cycle_word from) (to_of last words period)

-- .. and of all words after `every`
unfoldable pub every_of : ℕ → List (List ℕ) → Result Repeat FaultKind
every_of last [] = Err UnknownWord
every_of last (n ∷ words) = and_then (cycle_word n) (from_of last words)

-- After this many events a line may not add more than the script holds.
unfoldable pub within_bound : ℕ → Repeat → Result (Option Repeat) FaultKind
within_bound before repeat =
    if nat_lt most_events (before + repeat.times) then Err TooMany else Ok (Some repeat)

-- a first word that makes the line a comment: it begins with `#`
abbrev pub begins_comment : List ℕ → Bool
begins_comment [] = false
begins_comment (b ∷ bs) = b == 0x23

-- the events of a line with this first word
abbrev pub event_line : ℕ → List ℕ → List (List ℕ) → Result Repeat FaultKind
event_line last first words =
    if bytes_eq first (codes "every") then every_of last words else once_of last first words

-- a line without words, or whose first word begins with `#`, has no event
unfoldable pub words_meaning : ℕ → ℕ → List (List ℕ) → Result (Option Repeat) FaultKind
words_meaning last before [] = Ok None
words_meaning last before (first ∷ words) =
    if begins_comment first then Ok None
    else and_then (event_line last first words) (within_bound before)

-- the most bytes of a line, without its line end
abbrev pub longest_line : ℕ
longest_line = 120

abbrev pub is_beyond_ascii : ℕ → Bool
is_beyond_ascii b = nat_le 0x80 b

-- The meaning of a line, or the lowest kind of fault in it, after this many events; the last event
-- line started at `last`.
unfoldable pub meaning_of : ℕ → ℕ → List ℕ → Result (Option Repeat) FaultKind
meaning_of last before line =
    if nat_lt longest_line (length line) then Err LineTooLong
    else (if list_any is_beyond_ascii line then Err NotAscii
    else words_meaning last before (words_of line))
