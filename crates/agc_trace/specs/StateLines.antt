-- How the present state of a machine is printed: its registers and what comes next.
use Rattle.std.specs.Prelude.{ℕ, List, ◌++◌, codes, Option, Some, None}
use Rattle.agc_machine.specs.declared.upcoming.Upcoming.{Upcoming}
use Rattle.agc_symbols.specs.Symbols.{Symbol}
use Rattle.agc_store.specs.Cells.{cell_of}
use Rattle.agc_store.specs.Memory.{Memory}
use Rattle.agc_store.specs.Places.{bb_cell}
use Rattle.agc_trace.specs.Entry.{registers_of}
use Rattle.agc_trace.specs.Line.{happening_text, registers_text}
use Rattle.agc_trace.specs.NamedLine.{named_happening}
use Rattle.agc_word.specs.Octal.{word_digits}

-- the registers as a trace prints them, and BB
unfoldable pub registers_line : Memory → List ℕ
registers_line m =
    registers_text (registers_of m) ++ codes " BB " ++ word_digits (cell_of m 0 bb_cell)
    ++ codes "\n"

-- what comes next, as a trace names it
unfoldable pub next_line : Upcoming → List ℕ
next_line next = codes "next " ++ happening_text next ++ codes "\n"

-- the same with symbols: an order has the name of its place next to it
unfoldable pub next_line_with : Option (List Symbol) → Upcoming → List ℕ
next_line_with (Some names) next = codes "next " ++ named_happening names next ++ codes "\n"
next_line_with None next = next_line next
