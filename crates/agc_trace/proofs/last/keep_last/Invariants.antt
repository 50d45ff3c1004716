use Rattle.std.proofs.Common.{◌≡◌}
use Rattle.std.specs.Prelude.{All, map}
use Rattle.agc_trace.specs.Change.{named_cells, seen_in}
use Rattle.agc_trace.specs.Selection.{selected, watch_for}
use Rattle.agc_trace.specs.Service.{service_at_stop, service_left}
use Rattle.agc_trace.specs.Trace.{entries_left, trace_of}
use Rattle.agc_trace.specs.Watch.{FitsWatched}
use Rattle.agc_trace.proofs.Kept.{IsKept}
use Rattle.agc_trace.proofs.last.keep_last.Given as goal

-- what is kept so far and the selected entries that are left are of those of the whole, and the cells that are named have
-- been seen after the last boundary
abbrev pub invariant-loop-alloc : goal.invariant-loop-alloc
invariant-loop-alloc g l = record {
  kept : IsKept l.most l.last.items (selected l.selection (watch_for l.selection l.machine)) (selected l.selection (watch_for l.selection l.initial.machine));
  fits : All FitsWatched l.last.items;
  seen : l.seen.items ≡ map (seen_in l.machine.processor.store) (named_cells l.selection.cells.items);
  service : service_at_stop l.selection l.service (trace_of l.machine) ≡ service_left l.selection (trace_of l.initial.machine);
}

abbrev pub decreases-loop-alloc : goal.decreases-loop-alloc
decreases-loop-alloc g l = entries_left l.machine
