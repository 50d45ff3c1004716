use Rattle.std.proofs.Common.{sym, ◌∙◌, string_bytes}
use Rattle.std.proofs.lemmas.Result.{err_from_is_err_and}
use Rattle.agc_repl.proofs.Beginning.{begun, begun_kept}
use Rattle.agc_repl.proofs.Going.{runs_then, stays_run, under_way}
use Rattle.agc_repl.proofs.Runs.{came_not, came_there, followed_there, followed_up, follows, follows_on, not_hit, nothing_parsed, parsed_all, parsed_there, says_on}
use Rattle.agc_repl.proofs.Telling.{grows_then, stays_known}
use Rattle.agc_repl.proofs.commands.run_to.Goals as goal

pub loop-repl-init : goal.loop-repl-init
loop-repl-init g c = (follows _ _ _, nothing_parsed _ _ _ c.args.repl.now _, stays_run _, stays_known _)

pub advance-next-requires-clause-short : goal.advance-next-requires-clause-short
advance-next-requires-clause-short g c = sym c.is_before.ensures ∙ c.loop-repl-test.true

pub loop-repl-preserved : goal.loop-repl-preserved
loop-repl-preserved g c =
    let so_far = c.loop-repl.invariant in
    let e = c.advance-next.ensures in
    let none = not_hit c.advance-next.result.hit (sym c.has_hit.ensures ∙ c.if-has_hit.false) in (
      follows_on _ _ _ _ _ _ c.advance-next.result.hit so_far.0 (e.run, e.shown) none,
      says_on _ _ _ c.args.repl.now c.loop-repl.repl c.advance-next.new.self _ c.advance-next.result.hit _ _ _ so_far.1 (e.run, e.shown) none c.in_ok-print_write.ensures.reported,
      runs_then _ _ _ so_far.2 e.on,
      grows_then _ _ _ so_far.3 (c.in_ok-print_write.ensures.grows (λ e. cc)),
    )

pub loop-repl-smaller : goal.loop-repl-smaller
loop-repl-smaller g c = c.advance-next.ensures.advances (under_way c.args.cycle c.loop-repl.repl.session.now (sym c.is_before.ensures ∙ c.loop-repl-test.true)).1

pub returns-then-has_hit-clause-gone : goal.returns-then-has_hit-clause-gone
returns-then-has_hit-clause-gone g c =
    followed_there _ _ _ _ _ _ c.advance-next.result.hit c.loop-repl.invariant.0 (c.advance-next.ensures.run, c.advance-next.ensures.shown) (sym c.has_hit.ensures ∙ c.if-has_hit.true)

pub returns-then-has_hit-clause-hit : goal.returns-then-has_hit-clause-hit
returns-then-has_hit-clause-hit g c =
    came_there _ _ _ _ _ _ c.advance-next.result.hit c.loop-repl.invariant.0 (c.advance-next.ensures.run, c.advance-next.ensures.shown) (sym c.has_hit.ensures ∙ c.if-has_hit.true)

pub returns-then-has_hit-clause-reported : goal.returns-then-has_hit-clause-reported
returns-then-has_hit-clause-reported g c =
    parsed_there _ _ _ c.args.repl.now c.loop-repl.repl c.advance-next.new.self _ c.advance-next.result.hit _ _ _ c.loop-repl.invariant.1 (c.advance-next.ensures.run, c.advance-next.ensures.shown) (sym c.has_hit.ensures ∙ c.if-has_hit.true) c.in_ok-print_write.ensures.reported

pub returns-then-has_hit-clause-on : goal.returns-then-has_hit-clause-on
returns-then-has_hit-clause-on g c = runs_then _ _ _ c.loop-repl.invariant.2 c.advance-next.ensures.on

pub returns-then-has_hit-clause-grows : goal.returns-then-has_hit-clause-grows
returns-then-has_hit-clause-grows g c never = grows_then _ _ _ c.loop-repl.invariant.3 (c.in_ok-print_write.ensures.grows (λ e. cc))

pub returns-in_err-print_write-clause-on : goal.returns-in_err-print_write-clause-on
returns-in_err-print_write-clause-on g c = runs_then _ _ _ c.loop-repl.invariant.2 c.advance-next.ensures.on

pub returns-in_err-print_write-clause-grows : goal.returns-in_err-print_write-clause-grows
returns-in_err-print_write-clause-grows g c never =
    let p = err_from_is_err_and c.from_residual.result c.from_residual.ensures.1 in
    grows_then _ _ _ c.loop-repl.invariant.3 (c.print_write.ensures.grows (λ e. never (cc (p.1, p.2, c.in_err-print_write.was, e))))

pub returns-in_err-print_write-clause-begins : goal.returns-in_err-print_write-clause-begins
returns-in_err-print_write-clause-begins g c e =
    let p = err_from_is_err_and c.from_residual.result c.from_residual.ensures.1 in
    begun_kept _ _ _ _ (begun _ _ (string_bytes c.args.text.now) (string_bytes c.loop-repl.text) _ _ c.loop-repl.invariant.1 c.loop-repl.invariant.3)
    (c.print_write.ensures.kept (cc (p.1, p.2, c.in_err-print_write.was, e)))

pub returns-clause-gone : goal.returns-clause-gone
returns-clause-gone g c = followed_up _ _ _ _ c.loop-repl.invariant.0 (sym c.is_before.ensures ∙ c.loop-repl-test.false)

pub returns-clause-hit : goal.returns-clause-hit
returns-clause-hit g c = came_not _ _ _ _ c.loop-repl.invariant.0 (sym c.is_before.ensures ∙ c.loop-repl-test.false)

pub returns-clause-reported : goal.returns-clause-reported
returns-clause-reported g c = parsed_all _ _ _ c.args.repl.now c.loop-repl.repl _ _ c.loop-repl.invariant.1 (sym c.is_before.ensures ∙ c.loop-repl-test.false)
