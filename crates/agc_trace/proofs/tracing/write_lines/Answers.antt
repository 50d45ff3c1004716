use Rattle.std.proofs.Common.{sym, ◌∙◌, ap, List, arith}
use Rattle.agc_trace.specs.Selection.{lines_of}
use Rattle.agc_trace.specs.Watch.{Watched}
use Rattle.agc_io.proofs.Begun.{any_err}
use Rattle.agc_trace.proofs.Lines.{all_written, line_begun, line_written, lines_of-none, written_whole}
use Rattle.agc_trace.proofs.Range.{no_late_entries}
use Rattle.agc_trace.proofs.Services.{left_after, left_at_stop, none_past}
use Rattle.agc_trace.proofs.Steps.{fewer_after_entry}
use Rattle.agc_trace.proofs.Changes.{shown_is}
use Rattle.agc_trace.proofs.tracing.write_lines.Goals as goal

pub returns-then-is_stop-clause-lines : goal.returns-then-is_stop-clause-lines
returns-then-is_stop-clause-lines g c =
    all_written c.args.form.now c.args.selection.now _ _ _ _ _ _ _ (shown_is _ _ _ _ _ c.as_slice-in-loop-alloc.ensures.value c.in_ok-recorded.ensures.watched)
    (sym c.is_stop.ensures ∙ c.if-is_stop.true) c.loop-alloc.invariant.written c.in_ok-write_selected.ensures.line

pub returns-then-is_stop-clause-service : goal.returns-then-is_stop-clause-service
returns-then-is_stop-clause-service g c =
    sym (left_at_stop c.args.selection.now _ _ c.in_ok-recorded.recorded.entry c.in_ok-recorded.ensures.entry
    (omega (arith, c.cycle.ensures.cycle, c.loop-alloc-test.true)) (sym c.is_stop.ensures ∙ c.if-is_stop.true))
    ∙ c.loop-alloc.invariant.service

pub loop-alloc-smaller : goal.loop-alloc-smaller
loop-alloc-smaller g c =
    let fewer = fewer_after_entry _ _ c.in_ok-recorded.recorded.entry c.in_ok-recorded.ensures.entry c.next_watched.ensures.after (sym c.is_stop.ensures ∙ c.if-is_stop.false) in
    omega (arith, c.pass_unrequested-service.ensures.fewer, fewer)

pub loop-alloc-preserved : goal.loop-alloc-preserved
loop-alloc-preserved g c = record {
  written = rw c.pass_unrequested-service.ensures.entries (line_written c.args.form.now c.args.selection.now _ _ _ _ _ _ _ _ (shown_is _ _ _ _ _ c.as_slice-in-loop-alloc.ensures.value c.in_ok-recorded.ensures.watched) c.next_watched.ensures.after
      (sym c.is_stop.ensures ∙ c.if-is_stop.false) c.loop-alloc.invariant.written c.in_ok-write_selected.ensures.line);
  service = c.pass_unrequested-service.ensures.service ∙ rw c.service_after-service.ensures
      (left_after c.args.selection.now _ _ _ c.in_ok-recorded.recorded.entry c.in_ok-recorded.ensures.entry c.next_watched.ensures.after
      (omega (arith, c.cycle.ensures.cycle, c.loop-alloc-test.true)) (sym c.is_stop.ensures ∙ c.if-is_stop.false)
      ∙ c.loop-alloc.invariant.service);
  seen = c.in_ok-recorded.ensures.seen ∙ sym c.pass_unrequested-service.ensures.seen;
}

pub returns-clause-lines : goal.returns-clause-lines
returns-clause-lines g c =
    written_whole _ _ _ _
    (ap (λ (xs : List Watched). lines_of c.args.form.now xs) (no_late_entries c.args.selection.now _ _ (omega (arith, c.cycle.ensures.cycle, c.loop-alloc-test.false))) ∙ lines_of-none c.args.form.now)
    c.loop-alloc.invariant.written

pub returns-clause-service : goal.returns-clause-service
returns-clause-service g c =
    sym (none_past c.args.selection.now _ _ (omega (arith, c.cycle.ensures.cycle, c.loop-alloc-test.false)))
    ∙ c.loop-alloc.invariant.service

pub returns-in_err-write_selected-clause-cut : goal.returns-in_err-write_selected-clause-cut
returns-in_err-write_selected-clause-cut g c =
    any_err _ (line_begun c.args.form.now c.args.selection.now _ _ _ _ _ _ _ (shown_is _ _ _ _ _ c.as_slice-in-loop-alloc.ensures.value c.in_ok-recorded.ensures.watched)
    c.loop-alloc.invariant.written c.in_err-write_selected.ensures.cut)
