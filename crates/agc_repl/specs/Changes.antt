-- The lines of a step: those of each boundary, or only those of the boundaries that change a cell.
use Rattle.std.specs.Prelude.{ℕ, zero, suc, List, [], ◌++◌, Option, None, Some, if◌then◌else◌, flat_map}
use Rattle.agc_machine.specs.Boundary.{boundary, upcoming_of}
use Rattle.agc_machine.specs.State.{State}
use Rattle.agc_session.specs.Comparison.{same_word, word_at}
use Rattle.agc_symbols.specs.Symbols.{Symbol}
use Rattle.agc_trace.specs.Entry.{entry_of}
use Rattle.agc_trace.specs.NamedLine.{line_with}
use Rattle.agc_trace.specs.Trace.{is_stop, trace_within}
use Rattle.agc_repl.specs.Answer.{cell_line}
use Rattle.agc_repl.specs.declared.answer.CellStyle.TheVariants as style

-- a boundary that changes a cell, overflow corrected: its trace line, then the cell
abbrev pub change_text : Option (List Symbol) → ℕ → State → List ℕ
change_text names cell s =
    let after = (boundary None s).0.processor.store in
    if same_word (word_at cell after) (word_at cell s.processor.store) then []
    else line_with names (entry_of s) ++ cell_line style.Octal after cell

-- the lines of at most this many boundaries, none after the stop
unfoldable pub changes_text : Option (List Symbol) → ℕ → ℕ → State → List ℕ
changes_text names cell zero s = []
changes_text names cell (suc more) s =
    change_text names cell s ++ (if is_stop (upcoming_of s) then [] else changes_text names cell more (boundary None s).0)

-- a boundary, if all are shown or if it changes the cell
abbrev pub boundary_text : Option (List Symbol) → Option ℕ → State → List ℕ
boundary_text names None s = line_with names (entry_of s)
boundary_text names (Some cell) s = change_text names cell s

-- some boundaries: their trace, or what changes the cell
abbrev pub step_text : Option (List Symbol) → Option ℕ → ℕ → State → List ℕ
step_text names None boundaries s = flat_map (line_with names) (trace_within boundaries s)
step_text names (Some cell) boundaries s = changes_text names cell boundaries s
