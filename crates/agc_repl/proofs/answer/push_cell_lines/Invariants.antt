use Rattle.std.proofs.Common.{◌≡◌, ◌-◌, ◌++◌, string_bytes}
use Rattle.std.specs.List.{flat_map, range_with_len}
use Rattle.agc_repl.specs.Answer.{cell_line}
use Rattle.agc_repl.proofs.answer.push_cell_lines.Given as goal

abbrev pub invariant-loop-cell : goal.invariant-loop-cell
invariant-loop-cell l = string_bytes l.text ≡ string_bytes l.initial.text ++ flat_map (cell_line l.style l.store) (range_with_len l.first (l.cell - l.first))
