use Rattle.std.proofs.Common.{◌≡◌, ◌++◌, take, string_bytes}
use Rattle.std.specs.List.{flat_map}
use Rattle.agc_run.specs.Text.{log_line}
use Rattle.agc_run.proofs.text.push_log.Given as goal

abbrev pub invariant-loop-write : goal.invariant-loop-write
invariant-loop-write l = string_bytes l.text ≡ string_bytes l.initial.text ++ flat_map log_line (take l.write-index l.log)
