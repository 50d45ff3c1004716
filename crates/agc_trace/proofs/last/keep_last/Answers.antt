use Rattle.std.proofs.Common.{rules, sym, ◌∙◌, arith}
use Rattle.agc_trace.proofs.Kept.{all_kept, entry_kept, few_kept, kept_whole, nothing_kept}
use Rattle.agc_trace.proofs.Range.{no_late_entries}
use Rattle.agc_trace.proofs.Services.{left_after, left_at_stop, none_past}
use Rattle.agc_trace.proofs.Steps.{fewer_after_entry}
use Rattle.agc_trace.proofs.Changes.{shown_is}
use Rattle.agc_trace.proofs.last.keep_last.Goals as goal

pub keep_selected-requires-clause-bound : goal.keep_selected-requires-clause-bound
keep_selected-requires-clause-bound g c = few_kept _ _ _ _ c.loop-alloc.invariant.kept

pub returns-then-is_stop-clause-entries : goal.returns-then-is_stop-clause-entries
returns-then-is_stop-clause-entries g c =
    all_kept c.args.selection.now _ _ _ _ _ _ _ (shown_is _ _ _ _ _ c.as_slice-in-loop-alloc.ensures.value c.in_ok-recorded.ensures.watched)
    (sym c.is_stop.ensures ∙ c.if-is_stop.true) c.loop-alloc.invariant.kept c.in_ok-keep_selected.ensures.kept

pub returns-then-is_stop-clause-service : goal.returns-then-is_stop-clause-service
returns-then-is_stop-clause-service g c =
    sym (left_at_stop c.args.selection.now _ _ c.in_ok-recorded.recorded.entry c.in_ok-recorded.ensures.entry
    (omega (arith, c.cycle.ensures.cycle, c.loop-alloc-test.true)) (sym c.is_stop.ensures ∙ c.if-is_stop.true))
    ∙ c.loop-alloc.invariant.service

pub loop-alloc-init : goal.loop-alloc-init
loop-alloc-init g c = record { kept = nothing_kept _ _ _ c.requires; fits = search rules; service = search rules; seen = search rules }

pub loop-alloc-smaller : goal.loop-alloc-smaller
loop-alloc-smaller g c =
    let fewer = fewer_after_entry _ _ c.in_ok-recorded.recorded.entry c.in_ok-recorded.ensures.entry c.next_watched.ensures.after (sym c.is_stop.ensures ∙ c.if-is_stop.false) in
    omega (arith, c.pass_unrequested-service.ensures.fewer, fewer)

pub loop-alloc-preserved : goal.loop-alloc-preserved
loop-alloc-preserved g c = record {
  kept = rw c.pass_unrequested-service.ensures.entries (entry_kept c.args.selection.now _ _ _ _ _ _ _ _ (shown_is _ _ _ _ _ c.as_slice-in-loop-alloc.ensures.value c.in_ok-recorded.ensures.watched) c.next_watched.ensures.after
      (sym c.is_stop.ensures ∙ c.if-is_stop.false) c.loop-alloc.invariant.kept c.in_ok-keep_selected.ensures.kept);
  fits = c.in_ok-keep_selected.ensures.fits;
  service = c.pass_unrequested-service.ensures.service ∙ rw c.service_after-service.ensures
      (left_after c.args.selection.now _ _ _ c.in_ok-recorded.recorded.entry c.in_ok-recorded.ensures.entry c.next_watched.ensures.after
      (omega (arith, c.cycle.ensures.cycle, c.loop-alloc-test.true)) (sym c.is_stop.ensures ∙ c.if-is_stop.false)
      ∙ c.loop-alloc.invariant.service);
  seen = c.in_ok-recorded.ensures.seen ∙ sym c.pass_unrequested-service.ensures.seen;
}

pub returns-clause-entries : goal.returns-clause-entries
returns-clause-entries g c =
    kept_whole _ _ _ _ (no_late_entries c.args.selection.now _ _ (omega (arith, c.cycle.ensures.cycle, c.loop-alloc-test.false)))
    c.loop-alloc.invariant.kept

pub returns-clause-service : goal.returns-clause-service
returns-clause-service g c =
    sym (none_past c.args.selection.now _ _ (omega (arith, c.cycle.ensures.cycle, c.loop-alloc-test.false)))
    ∙ c.loop-alloc.invariant.service
