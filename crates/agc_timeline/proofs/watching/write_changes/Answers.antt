use Rattle.agc_timeline.proofs.OneByOne.{same_text}
use Rattle.agc_timeline.proofs.watching.write_changes.Goals as goal

pub returns-clause-lines : goal.returns-clause-lines
returns-clause-lines g c =
    rw (same_text c.args.names.now c.args.span c.args.spec.now c.args.machine.now c.go_to_first.new.machine (c.go_to_first.ensures c.args.spec.now)) at c.write_in_span.ensures.lines

pub returns-clause-cut : goal.returns-clause-cut
returns-clause-cut g c =
    rw (same_text c.args.names.now c.args.span c.args.spec.now c.args.machine.now c.go_to_first.new.machine (c.go_to_first.ensures c.args.spec.now)) at c.write_in_span.ensures.cut
