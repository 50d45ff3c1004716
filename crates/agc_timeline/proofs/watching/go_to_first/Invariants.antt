use Rattle.std.proofs.Common.{◌≡◌}
use Rattle.agc_machine.specs.Run.{boundaries_left}
use Rattle.agc_panel.specs.declared.watch_spec.WatchSpec.{WatchSpec}
use Rattle.agc_timeline.specs.Changes.{sights_in}
use Rattle.agc_timeline.specs.States.{states_of}
use Rattle.agc_timeline.proofs.watching.go_to_first.Given as goal

-- no state of the span was left out
abbrev pub invariant-loop-span : goal.invariant-loop-span
invariant-loop-span g l = (spec : WatchSpec) → sights_in l.span spec (states_of l.machine) ≡ sights_in l.span spec (states_of l.initial.machine)

abbrev pub decreases-loop-span : goal.decreases-loop-span
decreases-loop-span g l = boundaries_left l.machine
