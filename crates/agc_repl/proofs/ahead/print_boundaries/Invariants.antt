use Rattle.std.proofs.Common.{None, ◌-◌, string_bytes}
use Rattle.std.specs.Io.KnownBytes.{append_known}
use Rattle.agc_trace.proofs.Lines.{IsWritten}
use Rattle.agc_repl.specs.Answered.{Grows}
use Rattle.agc_repl.specs.Changes.{step_text}
use Rattle.agc_repl.proofs.ahead.print_boundaries.Given as goal

abbrev pub invariant-loop-boundary : goal.invariant-loop-boundary
invariant-loop-boundary g l =
    IsWritten (append_known (g.W.Write.contents l.initial.output) (string_bytes l.initial.text))
    (append_known (g.W.Write.contents l.output) (string_bytes l.text))
    (step_text l.fn.names None (l.boundaries - l._boundary) l.machine) (step_text l.fn.names None l.boundaries l.initial.machine)
    × Grows (g.W.Write.contents l.initial.output) (g.W.Write.contents l.output)
