use Rattle.std.proofs.Common.{None, ◌+◌, ◌-◌, ap, string_bytes, sym, ◌∙◌, arith}
use Rattle.std.proofs.lemmas.Result.{err_from_is_err_and}
use Rattle.agc_trace.specs.NamedLine.{line_with}
use Rattle.agc_trace.proofs.Lines.{written_whole}
use Rattle.agc_repl.proofs.Beginning.{begun, not_memory}
use Rattle.agc_repl.proofs.Stepping.{all_taken, none_taken, one_parsed, stop_parsed}
use Rattle.agc_repl.proofs.Telling.{grows_then, pushed, stays_known}
use Rattle.agc_repl.proofs.ahead.print_boundaries.Goals as goal

pub loop-boundary-init : goal.loop-boundary-init
loop-boundary-init g c = (none_taken c.args.names.now None _ _ c.args.machine.now _ (omega arith), stays_known _)

pub returns-then-is_stop-clause-lines : goal.returns-then-is_stop-clause-lines
returns-then-is_stop-clause-lines g c =
    let line =
    pushed (g.W.Write.contents c.loop-boundary.output) (g.W.Write.contents c.write_part.new.output) (string_bytes c.loop-boundary.text)
    (string_bytes c.push_line_with.new.text) (string_bytes c.write_part.new.text) (line_with c.args.names.now c.next_entry-entry.result)
    c.in_ok-push_line_with.ensures c.in_ok-write_part.ensures.same in
    stop_parsed c.args.names.now None _ (c.args.boundaries - (c.loop-boundary._boundary + 1)) _ c.next_entry-entry.result _ _ _ _ _
    (omega (arith, c.loop-boundary-test.true)) c.next_entry-entry.ensures.entry
    (sym c.is_stop.ensures ∙ c.if-is_stop.true) (ap (line_with c.args.names.now) c.next_entry-entry.ensures.entry) c.loop-boundary.invariant.0 line

pub loop-boundary-preserved : goal.loop-boundary-preserved
loop-boundary-preserved g c =
    let line =
    pushed (g.W.Write.contents c.loop-boundary.output) (g.W.Write.contents c.write_part.new.output) (string_bytes c.loop-boundary.text)
    (string_bytes c.push_line_with.new.text) (string_bytes c.write_part.new.text) (line_with c.args.names.now c.next_entry-entry.result)
    c.in_ok-push_line_with.ensures c.in_ok-write_part.ensures.same in (
      one_parsed c.args.names.now None _ (c.args.boundaries - (c.loop-boundary._boundary + 1)) _ _ c.next_entry-entry.result _ _ _ _ _
          (omega (arith, c.loop-boundary-test.true)) c.next_entry-entry.ensures.entry c.next_entry-entry.ensures.after
          (sym c.is_stop.ensures ∙ c.if-is_stop.false) (ap (line_with c.args.names.now) c.next_entry-entry.ensures.entry) c.loop-boundary.invariant.0 line,
      grows_then _ _ _ c.loop-boundary.invariant.1 (c.in_ok-write_part.ensures.grows (λ e. cc)),
    )

pub returns-clause-lines : goal.returns-clause-lines
returns-clause-lines g c =
    written_whole _ _ _ _ (all_taken c.args.names.now None _ c.loop-boundary.machine (omega (arith, c.loop-boundary-test.false))) c.loop-boundary.invariant.0

pub returns-then-is_stop-clause-grows : goal.returns-then-is_stop-clause-grows
returns-then-is_stop-clause-grows g c never = grows_then _ _ _ c.loop-boundary.invariant.1 (c.in_ok-write_part.ensures.grows (λ e. cc))

pub returns-in_err-write_part-clause-grows : goal.returns-in_err-write_part-clause-grows
returns-in_err-write_part-clause-grows g c never =
    let p = err_from_is_err_and c.from_residual-in_err-write_part.result c.from_residual-in_err-write_part.ensures.1 in
    grows_then _ _ _ c.loop-boundary.invariant.1 (c.write_part.ensures.grows (λ e. never (cc (p.1, p.2, c.in_err-write_part.was, e))))

pub returns-in_err-push_line_with-clause-begins : goal.returns-in_err-push_line_with-clause-begins
returns-in_err-push_line_with-clause-begins g c e =
    begun _ _ (string_bytes c.args.text.now) (string_bytes c.loop-boundary.text) _ _ c.loop-boundary.invariant.0 c.loop-boundary.invariant.1

pub returns-in_err-write_part-clause-begins : goal.returns-in_err-write_part-clause-begins
returns-in_err-write_part-clause-begins g c e =
    let p = err_from_is_err_and c.from_residual-in_err-write_part.result c.from_residual-in_err-write_part.ensures.1 in
    absurd (not_memory c.write_part.result c.write_part.ensures.fault (cc (p.1, p.2, c.in_err-write_part.was, e)))
