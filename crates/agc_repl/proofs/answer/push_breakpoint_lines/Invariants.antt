use Rattle.std.proofs.Common.{◌≡◌, ◌++◌, take, string_bytes}
use Rattle.std.specs.List.{flat_map}
use Rattle.agc_repl.specs.Settings.{breakpoint_line}
use Rattle.agc_repl.proofs.answer.push_breakpoint_lines.Given as goal

abbrev pub invariant-loop-breakpoint : goal.invariant-loop-breakpoint
invariant-loop-breakpoint l = string_bytes l.text ≡ string_bytes l.initial.text ++ flat_map breakpoint_line (take l.breakpoint-index l.breakpoints)
