use Rattle.std.proofs.Common.{◌≡◌, ◌++◌, string_bytes, take}
use Rattle.agc_panel.specs.TablesText.{core_set_line, numbered}
use Rattle.agc_panel.proofs.tables_text.push_core_sets.Given as goal

abbrev pub invariant-loop-k : goal.invariant-loop-k
invariant-loop-k l = string_bytes l.text ≡ string_bytes l.initial.text ++ numbered core_set_line (take l.k l.sets)
