use Rattle.agc_trace.proofs.Lines.{all_lines, last_lines}
use Rattle.agc_trace.specs.Selection.{watch_for}
use Rattle.agc_trace.proofs.tracing.trace.Goals as goal

pub returns-in-None-clause-lines : goal.returns-in-None-clause-lines
returns-in-None-clause-lines g c =
    rw (all_lines c.args.selection.now c.args.form.now (watch_for c.args.selection.now c.go_to_first.new.machine) (watch_for c.args.selection.now c.args.machine.now) c.in-None.is c.go_to_first.ensures.entries)
    at c.write_lines.ensures.lines

pub returns-in-None-clause-cut : goal.returns-in-None-clause-cut
returns-in-None-clause-cut g c =
    rw (all_lines c.args.selection.now c.args.form.now (watch_for c.args.selection.now c.go_to_first.new.machine) (watch_for c.args.selection.now c.args.machine.now) c.in-None.is c.go_to_first.ensures.entries)
    at c.write_lines.ensures.cut

pub returns-in-Some-clause-lines : goal.returns-in-Some-clause-lines
returns-in-Some-clause-lines g c =
    rw (last_lines c.args.selection.now c.args.form.now c.in-Some.most (watch_for c.args.selection.now c.go_to_first.new.machine) (watch_for c.args.selection.now c.args.machine.now) c.in-Some.is c.go_to_first.ensures.entries)
    at c.write_last.ensures.lines

pub returns-in-Some-clause-cut : goal.returns-in-Some-clause-cut
returns-in-Some-clause-cut g c =
    rw (last_lines c.args.selection.now c.args.form.now c.in-Some.most (watch_for c.args.selection.now c.go_to_first.new.machine) (watch_for c.args.selection.now c.args.machine.now) c.in-Some.is c.go_to_first.ensures.entries)
    at c.write_last.ensures.cut
