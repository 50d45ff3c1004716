-- The meaning of an event line, part by part: N, FROM, TO and the command, each checked by itself.
use Rattle.std.specs.Prelude.{ℕ, ◌+◌, ◌-◌, ◌*◌, nat_le, List, [], ◌∷◌, map, drop, filter}
use Rattle.std.specs.Prelude.{filter_map, slice_get, unwrap_or, Option, Some, None, Result, Ok}
use Rattle.std.specs.Prelude.{if◌then◌else◌, codes, option_and_then, flat_map}
use Rattle.std.specs.List.{range_with_len, last_or}
use Rattle.std.specs.Str.{bytes_eq}
use Rattle.agc_word.specs.Text.{words_of}
use Rattle.agc_script.specs.Command.{command_of}
use Rattle.agc_script.specs.Line.{begins_comment, cycle_of}
use Rattle.agc_script.specs.declared.event.Event.{Event}
use Rattle.agc_script.specs.declared.event.What.{What}
use Rattle.agc_script.specs.declared.fault.FaultKind.{FaultKind}

-- The words of an event line as `N FROM TO` and a command. A line with one cycle is read as `1`,
-- the cycle and the cycle again; a line without words and a comment have none.
unfoldable pub spelt_out : List (List ℕ) → Option (List (List ℕ))
spelt_out [] = None
spelt_out (first ∷ words) =
    if begins_comment first then None
    else (if bytes_eq first (codes "every") then Some words
    else Some (codes "1" ∷ first ∷ first ∷ words))

-- the cycle of the word at a position, if there is a word and it is a cycle
abbrev pub cycle_at : ℕ → List (List ℕ) → Option ℕ
cycle_at place words = option_and_then cycle_of (slice_get words place)

-- N, FROM and TO
abbrev pub three_cycles : Option ℕ → Option ℕ → Option ℕ → Option (ℕ × ℕ × ℕ)
three_cycles (Some n) (Some from) (Some to) = Some (n, from, to)
three_cycles n from to = None

-- N, FROM and TO of a line's words, if all are present
abbrev pub timing_of : List (List ℕ) → Option (ℕ × ℕ × ℕ)
timing_of words = three_cycles (cycle_at 0 words) (cycle_at 1 words) (cycle_at 2 words)

-- the words of the command
abbrev pub command_words : List (List ℕ) → List (List ℕ)
command_words words = drop 3 words

-- a line's start: its FROM
unfoldable pub start_of : List ℕ → Option ℕ
start_of line = option_and_then (cycle_at 1) (spelt_out (words_of line))

-- the start of the last event line of these, or cycle 0 if there is none
abbrev pub last_start : List (List ℕ) → ℕ
last_start lines = unwrap_or (last_or None (filter_map start_of lines)) 0

-- The cycles of a line: FROM, FROM + N, FROM + 2N and so on, those that are no later than TO.
unfoldable pub cycles_parsed : ℕ × ℕ × ℕ → List ℕ
cycles_parsed t =
    filter (λ cycle. nat_le cycle t.2) (map (λ i. t.1 + i * t.0) (range_with_len 0 (t.2 + 1 - t.1)))

-- the event of a command at a cycle
abbrev pub parsed_at : What → ℕ → Event
parsed_at what cycle = record { cycle = cycle; what = what }

-- the events of a command at the cycles of its line, if both are right
abbrev pub events_at : Option (ℕ × ℕ × ℕ) → Result What FaultKind → List Event
events_at (Some t) (Ok what) = map (parsed_at what) (cycles_parsed t)
events_at t what = []

abbrev pub events_spelt : Option (List (List ℕ)) → List Event
events_spelt None = []
events_spelt (Some words) = events_at (timing_of words) (command_of (command_words words))

-- the events of a line
unfoldable pub events_of_line : List ℕ → List Event
events_of_line line = events_spelt (spelt_out (words_of line))

-- the events of lines, in the order of the lines
abbrev pub events_of_lines : List (List ℕ) → List Event
events_of_lines lines = flat_map events_of_line lines
