use Rattle.std.proofs.Common.{◌≡◌, ◌≤◌}
use Rattle.std.specs.Prelude.{map}
use Rattle.agc_trace.specs.Change.{named_cells, seen_in}
use Rattle.agc_trace.specs.Selection.{selected, watch_for}
use Rattle.agc_trace.specs.Service.{service_at_stop}
use Rattle.agc_trace.specs.Trace.{entries_left, trace_of}
use Rattle.agc_trace.proofs.passing.pass_unrequested.Given as goal

-- what is still to be told is what was, and the cells that are named have the words that they had
abbrev pub invariant-loop-machine : goal.invariant-loop-machine
invariant-loop-machine g l = record {
  entries : selected l.selection (watch_for l.selection l.machine) ≡ selected l.selection (watch_for l.selection l.initial.machine);
  service : service_at_stop l.selection l.service (trace_of l.machine) ≡ service_at_stop l.selection l.fn.before (trace_of l.initial.machine);
  seen : map (seen_in l.machine.processor.store) (named_cells l.selection.cells.items) ≡ map (seen_in l.initial.machine.processor.store) (named_cells l.selection.cells.items);
  fewer : entries_left l.machine ≤ entries_left l.initial.machine;
}

abbrev pub decreases-loop-machine : goal.decreases-loop-machine
decreases-loop-machine g l = entries_left l.machine
