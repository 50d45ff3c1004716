use Rattle.agc_trace.proofs.Lines.{IsWritten}
use Rattle.agc_timeline.specs.Lines.{jobs_text}
use Rattle.agc_trace.specs.Trace.{entries_left}
use Rattle.agc_timeline.proofs.OneByOne.{left_of}
use Rattle.agc_timeline.proofs.watching.write_in_span.Given as goal

-- what is written so far and what is left to be told are all that is told of the run
abbrev pub invariant-loop-alloc : goal.invariant-loop-alloc
invariant-loop-alloc g l =
    IsWritten (g.W.Write.contents l.initial.out) (g.W.Write.contents l.out) (left_of l.names l.span l.spec l.shown l.machine)
    (jobs_text l.names l.span l.spec l.initial.machine)

abbrev pub decreases-loop-alloc : goal.decreases-loop-alloc
decreases-loop-alloc g l = entries_left l.machine
