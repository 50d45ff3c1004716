use Rattle.std.proofs.Common.{ℕ, refl, ◌+◌, ◌-◌, ap, string_bytes, sym, ◌∙◌, arith}
use Rattle.std.proofs.lemmas.Result.{err_from_is_err_and}
use Rattle.agc_trace.proofs.Lines.{written_whole}
use Rattle.agc_repl.specs.Changes.{boundary_text}
use Rattle.agc_repl.specs.Repl.{after_boundaries}
use Rattle.agc_repl.proofs.Beginning.{begun, not_memory}
use Rattle.agc_repl.proofs.Going.{runs_then, stays_run}
use Rattle.agc_repl.proofs.Stepping.{all_taken, boundaries_on, no_boundaries, none_after_stop, none_taken, one_parsed, stop_parsed}
use Rattle.agc_repl.proofs.Telling.{grows_then, pushed, stays_known}
use Rattle.agc_repl.proofs.commands.step.Goals as goal

pub loop-boundary-init : goal.loop-boundary-init
loop-boundary-init g c = (none_taken c.args.names.now c.args.steps.cell _ _ c.args.repl.now.session.now _ (omega arith), ap (λ (n : ℕ). after_boundaries n c.args.repl.now) (omega arith), stays_run _, stays_known _)

pub returns-then-is_stop-clause-lines : goal.returns-then-is_stop-clause-lines
returns-then-is_stop-clause-lines g c =
    let line =
    pushed (g.W.Write.contents c.loop-boundary.output) (g.W.Write.contents c.write_part.new.output) (string_bytes c.loop-boundary.text)
    (string_bytes c.push_step.new.text) (string_bytes c.write_part.new.text) (boundary_text c.args.names.now c.args.steps.cell c.loop-boundary.repl.session.now)
    c.in_ok-entry.ensures.lines c.in_ok-write_part.ensures.same in
    stop_parsed c.args.names.now c.args.steps.cell _ (c.args.steps.boundaries - (c.loop-boundary._boundary + 1)) _ c.in_ok-entry.entry _ _ _ _ _
    (omega (arith, c.loop-boundary-test.true)) c.in_ok-entry.ensures.entry
    (sym c.is_stop.ensures ∙ c.if-is_stop.true) refl c.loop-boundary.invariant.0 line

pub loop-boundary-preserved : goal.loop-boundary-preserved
loop-boundary-preserved g c =
    let line =
    pushed (g.W.Write.contents c.loop-boundary.output) (g.W.Write.contents c.write_part.new.output) (string_bytes c.loop-boundary.text)
    (string_bytes c.push_step.new.text) (string_bytes c.write_part.new.text) (boundary_text c.args.names.now c.args.steps.cell c.loop-boundary.repl.session.now)
    c.in_ok-entry.ensures.lines c.in_ok-write_part.ensures.same in (
      one_parsed c.args.names.now c.args.steps.cell _ (c.args.steps.boundaries - (c.loop-boundary._boundary + 1)) _ _ c.in_ok-entry.entry _ _ _ _ _
          (omega (arith, c.loop-boundary-test.true)) c.in_ok-entry.ensures.entry c.in_ok-entry.ensures.now
          (sym c.is_stop.ensures ∙ c.if-is_stop.false) refl c.loop-boundary.invariant.0 line,
      sym (boundaries_on _ (c.args.steps.boundaries - (c.loop-boundary._boundary + 1)) c.loop-boundary.repl c.push_step.new.repl (omega (arith, c.loop-boundary-test.true))
          c.in_ok-entry.ensures.now c.in_ok-entry.ensures.shown) ∙ c.loop-boundary.invariant.1,
      runs_then _ _ _ c.loop-boundary.invariant.2 c.in_ok-entry.ensures.on,
      grows_then _ _ _ c.loop-boundary.invariant.3 (c.in_ok-write_part.ensures.grows (λ e. cc)),
    )

pub returns-clause-lines : goal.returns-clause-lines
returns-clause-lines g c =
    written_whole _ _ _ _ (all_taken c.args.names.now c.args.steps.cell _ c.loop-boundary.repl.session.now (omega (arith, c.loop-boundary-test.false))) c.loop-boundary.invariant.0

pub returns-then-is_stop-clause-gone : goal.returns-then-is_stop-clause-gone
returns-then-is_stop-clause-gone g c =
    sym (none_after_stop (c.args.steps.boundaries - (c.loop-boundary._boundary + 1)) c.loop-boundary.repl c.push_step.new.repl c.in_ok-entry.entry c.in_ok-entry.ensures.entry
    c.in_ok-entry.ensures.now (sym c.is_stop.ensures ∙ c.if-is_stop.true))
    ∙ sym (boundaries_on _ (c.args.steps.boundaries - (c.loop-boundary._boundary + 1)) c.loop-boundary.repl c.push_step.new.repl (omega (arith, c.loop-boundary-test.true))
    c.in_ok-entry.ensures.now c.in_ok-entry.ensures.shown) ∙ c.loop-boundary.invariant.1

pub returns-clause-gone : goal.returns-clause-gone
returns-clause-gone g c =
    sym (no_boundaries _ c.loop-boundary.repl (omega (arith, c.loop-boundary-test.false))) ∙ c.loop-boundary.invariant.1

pub returns-then-is_stop-clause-on : goal.returns-then-is_stop-clause-on
returns-then-is_stop-clause-on g c = runs_then _ _ _ c.loop-boundary.invariant.2 c.in_ok-entry.ensures.on

pub returns-then-is_stop-clause-grows : goal.returns-then-is_stop-clause-grows
returns-then-is_stop-clause-grows g c never = grows_then _ _ _ c.loop-boundary.invariant.3 (c.in_ok-write_part.ensures.grows (λ e. cc))

pub returns-in_err-entry-clause-on : goal.returns-in_err-entry-clause-on
returns-in_err-entry-clause-on g c = runs_then _ _ _ c.loop-boundary.invariant.2 c.push_step.ensures.on

pub returns-in_err-write_part-clause-on : goal.returns-in_err-write_part-clause-on
returns-in_err-write_part-clause-on g c = runs_then _ _ _ c.loop-boundary.invariant.2 c.in_ok-entry.ensures.on

pub returns-in_err-write_part-clause-grows : goal.returns-in_err-write_part-clause-grows
returns-in_err-write_part-clause-grows g c never =
    let p = err_from_is_err_and c.from_residual-in_err-write_part.result c.from_residual-in_err-write_part.ensures.1 in
    grows_then _ _ _ c.loop-boundary.invariant.3 (c.write_part.ensures.grows (λ e. never (cc (p.1, p.2, c.in_err-write_part.was, e))))

pub returns-in_err-entry-clause-begins : goal.returns-in_err-entry-clause-begins
returns-in_err-entry-clause-begins g c e =
    begun _ _ (string_bytes c.args.text.now) (string_bytes c.loop-boundary.text) _ _ c.loop-boundary.invariant.0 c.loop-boundary.invariant.3

pub returns-in_err-write_part-clause-begins : goal.returns-in_err-write_part-clause-begins
returns-in_err-write_part-clause-begins g c e =
    let p = err_from_is_err_and c.from_residual-in_err-write_part.result c.from_residual-in_err-write_part.ensures.1 in
    absurd (not_memory c.write_part.result c.write_part.ensures.fault (cc (p.1, p.2, c.in_err-write_part.was, e)))
