use Rattle.std.proofs.Common.{◌≡◌}
use Rattle.agc_machine.specs.Run.{boundaries_left}
use Rattle.agc_trace.specs.Selection.{selected, watch_for}
use Rattle.agc_trace.specs.Service.{service_left}
use Rattle.agc_trace.specs.Trace.{trace_of}
use Rattle.agc_trace.proofs.tracing.go_to_first.Given as goal

-- no selected entry was left out, and no service
abbrev pub invariant-loop-machine : goal.invariant-loop-machine
invariant-loop-machine g l =
    (selected l.selection (watch_for l.selection l.machine) ≡ selected l.selection (watch_for l.selection l.initial.machine))
    × (service_left l.selection (trace_of l.machine) ≡ service_left l.selection (trace_of l.initial.machine))

abbrev pub decreases-loop-machine : goal.decreases-loop-machine
decreases-loop-machine g l = boundaries_left l.machine
