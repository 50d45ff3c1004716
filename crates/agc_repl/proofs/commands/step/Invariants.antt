use Rattle.std.proofs.Common.{◌≡◌, ◌-◌, string_bytes}
use Rattle.std.specs.Io.KnownBytes.{append_known}
use Rattle.agc_trace.proofs.Lines.{IsWritten}
use Rattle.agc_repl.specs.Answered.{Grows}
use Rattle.agc_repl.specs.Changes.{step_text}
use Rattle.agc_repl.specs.Repl.{RunsOn, after_boundaries}
use Rattle.agc_repl.proofs.commands.step.Given as goal

abbrev pub invariant-loop-boundary : goal.invariant-loop-boundary
invariant-loop-boundary g l =
    IsWritten (append_known (g.W.Write.contents l.initial.output) (string_bytes l.initial.text))
    (append_known (g.W.Write.contents l.output) (string_bytes l.text))
    (step_text l.fn.names l.fn.steps.cell (l.fn.steps.boundaries - l._boundary) l.repl.session.now)
    (step_text l.fn.names l.fn.steps.cell l.fn.steps.boundaries l.initial.repl.session.now)
    × (after_boundaries (l.fn.steps.boundaries - l._boundary) l.repl ≡ after_boundaries l.fn.steps.boundaries l.initial.repl)
    × RunsOn l.initial.repl l.repl
    × Grows (g.W.Write.contents l.initial.output) (g.W.Write.contents l.output)
