use Rattle.std.proofs.Common.{◌≡◌}
use Rattle.std.specs.Prelude.{map}
use Rattle.agc_trace.specs.Change.{named_cells, seen_in}
use Rattle.agc_trace.specs.Selection.{lines_of, selected, watch_for}
use Rattle.agc_trace.specs.Service.{service_at_stop, service_left}
use Rattle.agc_trace.specs.Trace.{entries_left, trace_of}
use Rattle.agc_trace.proofs.Lines.{IsWritten}
use Rattle.agc_trace.proofs.tracing.write_lines.Given as goal

-- what is written so far and the lines that are left are those of the whole, what goes on at the stop is what goes on
-- there after the service in hand, and the cells that are named have been seen after the last boundary
abbrev pub invariant-loop-alloc : goal.invariant-loop-alloc
invariant-loop-alloc g l = record {
  written : IsWritten (g.W.Write.contents l.initial.out) (g.W.Write.contents l.out) (lines_of l.form (selected l.selection (watch_for l.selection l.machine)))
      (lines_of l.form (selected l.selection (watch_for l.selection l.initial.machine)));
  service : service_at_stop l.selection l.service (trace_of l.machine) ≡ service_left l.selection (trace_of l.initial.machine);
  seen : l.seen.items ≡ map (seen_in l.machine.processor.store) (named_cells l.selection.cells.items);
}

abbrev pub decreases-loop-alloc : goal.decreases-loop-alloc
decreases-loop-alloc g l = entries_left l.machine
