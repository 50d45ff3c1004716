use Rattle.std.proofs.Common.{◌≡◌, ◌++◌, string_bytes, take}
use Rattle.agc_panel.specs.TablesText.{numbered, task_line}
use Rattle.agc_panel.proofs.tables_text.push_tasks.Given as goal

abbrev pub invariant-loop-k : goal.invariant-loop-k
invariant-loop-k l = string_bytes l.text ≡ string_bytes l.initial.text ++ numbered task_line (take l.k l.tasks)
