use Rattle.std.proofs.Common.{◌≡◌, ◌++◌, string_bytes, take}
use Rattle.std.specs.List.{flat_map}
use Rattle.agc_panel.specs.TablesText.{time_text}
use Rattle.agc_panel.proofs.tables_text.push_times.Given as goal

abbrev pub invariant-loop-word : goal.invariant-loop-word
invariant-loop-word l = string_bytes l.text ≡ string_bytes l.initial.text ++ flat_map time_text (take l.word-index l.times)
