use Rattle.std.proofs.Common.{rules, suc, refl, arith, ◌≡◌, ◌+◌, ◌-◌, ◌^◌, min, string_bytes}
use Rattle.std.proofs.lemmas.Result.{err_from_is_err_and}
use Rattle.agc_repl.specs.Repl.{after_run, armed_anew, run_of}
use Rattle.agc_repl.proofs.Beginning.{begun}
use Rattle.agc_repl.proofs.Going.{runs_then, stays_run}
use Rattle.agc_repl.proofs.Past.{broken_last, broken_off, came, came_not, followed, followed_up, follows, follows_anew, if_ok, nothing_parsed, on_ok, parsed_all, parsed_up, says_anew}
use Rattle.agc_repl.proofs.Telling.{grows_then, stays_known}
use Rattle.agc_repl.proofs.commands.run_limited.Goals as goal

pub loop-passed-init : goal.loop-passed-init
loop-passed-init g c = (follows _ _ _ _ _ _ (omega arith) refl, nothing_parsed _ _ _ _ _ _ c.args.repl.now _ (omega arith) refl, stays_run _, stays_known _, c.requires)

pub loop-passed-preserved : goal.loop-passed-preserved
loop-passed-preserved g c =
    let so_far = c.loop-passed.invariant in
    let e = c.in_ok-hit.ensures in
    let armed = c.loop-passed.armed.items in
    let left = c.args.limits.ignore - (c.loop-passed._passed + 1) in
    let one : c.args.limits.ignore - c.loop-passed._passed ≡ suc left = omega (arith, c.loop-passed-test.true) in
    let gone : c.run_to.new.repl ≡ after_run (run_of armed c.saturating_add-cycle.result c.loop-passed.repl) c.loop-passed.repl = rw (c.as_slice.ensures.value) at (e.gone) in
    let anew : c.in_ok-armed.armed.items ≡ armed_anew c.run_to.new.repl.session.now armed = rw (c.machine.ensures, c.as_slice-in-loop-passed.ensures.value) at (c.in_ok-armed.ensures.anew) in
    let reported = e.reported in (
      follows_anew _ _ _ _ armed _ _ left c.loop-passed.repl _ so_far.0 one gone anew,
      says_anew _ _ _ _ c.args.repl.now armed _ _ left c.loop-passed.repl c.run_to.new.repl _ _ _ so_far.1 one gone anew (rw (c.as_slice.ensures.value) at reported),
      runs_then _ _ _ so_far.2 e.on,
      grows_then _ _ _ so_far.3 (e.grows (λ never. cc)),
      c.in_ok-armed.ensures.range,
    )

pub returns-in_err-hit-clause-on : goal.returns-in_err-hit-clause-on
returns-in_err-hit-clause-on g c = runs_then _ _ _ c.loop-passed.invariant.2 c.run_to.ensures.on

pub returns-in_err-hit-clause-begins : goal.returns-in_err-hit-clause-begins
returns-in_err-hit-clause-begins g c e =
    let p = err_from_is_err_and c.from_residual.result c.from_residual.ensures.1 in
    let end : c.saturating_add-cycle.result ≡ min (c.args.repl.now.session.now.cycle + c.args.limits.within) (2 ^ 64 - 1) = search rules in
    let left = c.args.limits.ignore - (c.loop-passed._passed + 1) in
    let one : c.args.limits.ignore - c.loop-passed._passed ≡ suc left = omega (arith, c.loop-passed-test.true) in
    let begins = c.run_to.ensures.begins (cc (p.1, p.2, c.in_err-hit.was, e)) in
    let part = broken_off _ _ _ _ c.args.repl.now c.loop-passed.armed.items _ left c.loop-passed.repl _ _ _ (string_bytes c.args.text.now) (string_bytes c.loop-passed.text)
    c.loop-passed.invariant.1 c.loop-passed.invariant.3 one (rw (c.as_slice.ensures.value) at begins) in
    rw (end, c.quiet-quiet.ensures) at part

pub returns-in_err-hit-clause-grows : goal.returns-in_err-hit-clause-grows
returns-in_err-hit-clause-grows g c never =
    let p = err_from_is_err_and c.from_residual.result c.from_residual.ensures.1 in
    grows_then _ _ _ c.loop-passed.invariant.3 (c.run_to.ensures.grows (λ e. never (cc (p.1, p.2, c.in_err-hit.was, e))))

pub returns-then-is_none-clause-gone : goal.returns-then-is_none-clause-gone
returns-then-is_none-clause-gone g c =
    let e = c.in_ok-hit.ensures in
    let end : c.saturating_add-cycle.result ≡ min (c.args.repl.now.session.now.cycle + c.args.limits.within) (2 ^ 64 - 1) = search rules in
    let armed = c.loop-passed.armed.items in
    let left = c.args.limits.ignore - (c.loop-passed._passed + 1) in
    let one : c.args.limits.ignore - c.loop-passed._passed ≡ suc left = omega (arith, c.loop-passed-test.true) in
    let gone : c.run_to.new.repl ≡ after_run (run_of armed c.saturating_add-cycle.result c.loop-passed.repl) c.loop-passed.repl = rw (c.as_slice.ensures.value) at (e.gone) in
    let on = follows_anew _ _ _ _ armed _ _ left c.loop-passed.repl _ c.loop-passed.invariant.0 one gone refl in
    let part = followed_up _ _ _ c.args.repl.now _ _ _ on (e.over c.if-is_none.ensures) in
    rw (end) at part

pub returns-then-is_none-clause-hit : goal.returns-then-is_none-clause-hit
returns-then-is_none-clause-hit g c =
    let e = c.in_ok-hit.ensures in
    let end : c.saturating_add-cycle.result ≡ min (c.args.repl.now.session.now.cycle + c.args.limits.within) (2 ^ 64 - 1) = search rules in
    let armed = c.loop-passed.armed.items in
    let left = c.args.limits.ignore - (c.loop-passed._passed + 1) in
    let one : c.args.limits.ignore - c.loop-passed._passed ≡ suc left = omega (arith, c.loop-passed-test.true) in
    let gone : c.run_to.new.repl ≡ after_run (run_of armed c.saturating_add-cycle.result c.loop-passed.repl) c.loop-passed.repl = rw (c.as_slice.ensures.value) at (e.gone) in
    let on = follows_anew _ _ _ _ armed _ _ left c.loop-passed.repl _ c.loop-passed.invariant.0 one gone refl in
    let part = came_not _ _ _ c.args.repl.now _ _ _ on (e.over c.if-is_none.ensures) in
    rw (end) at part

pub returns-then-is_none-clause-reported : goal.returns-then-is_none-clause-reported
returns-then-is_none-clause-reported g c =
    let e = c.in_ok-hit.ensures in
    let end : c.saturating_add-cycle.result ≡ min (c.args.repl.now.session.now.cycle + c.args.limits.within) (2 ^ 64 - 1) = search rules in
    let armed = c.loop-passed.armed.items in
    let left = c.args.limits.ignore - (c.loop-passed._passed + 1) in
    let one : c.args.limits.ignore - c.loop-passed._passed ≡ suc left = omega (arith, c.loop-passed-test.true) in
    let gone : c.run_to.new.repl ≡ after_run (run_of armed c.saturating_add-cycle.result c.loop-passed.repl) c.loop-passed.repl = rw (c.as_slice.ensures.value) at (e.gone) in
    let reported = e.reported in
    let says = says_anew _ _ _ _ c.args.repl.now armed _ _ left c.loop-passed.repl c.run_to.new.repl _ _ _ c.loop-passed.invariant.1 one gone refl (rw (c.as_slice.ensures.value) at reported) in
    let part = parsed_up _ _ _ _ c.args.repl.now _ _ _ _ _ says (e.over c.if-is_none.ensures) in
    rw (end, c.quiet-quiet.ensures) at part

pub returns-then-is_none-clause-on : goal.returns-then-is_none-clause-on
returns-then-is_none-clause-on g c = runs_then _ _ _ c.loop-passed.invariant.2 c.in_ok-hit.ensures.on

pub returns-then-is_none-clause-grows : goal.returns-then-is_none-clause-grows
returns-then-is_none-clause-grows g c never = grows_then _ _ _ c.loop-passed.invariant.3 (c.in_ok-hit.ensures.grows (λ e. cc))

pub returns-in_err-armed-clause-on : goal.returns-in_err-armed-clause-on
returns-in_err-armed-clause-on g c = runs_then _ _ _ c.loop-passed.invariant.2 c.in_ok-hit.ensures.on

pub returns-in_err-armed-clause-begins : goal.returns-in_err-armed-clause-begins
returns-in_err-armed-clause-begins g c never =
    let e = c.in_ok-hit.ensures in
    let end : c.saturating_add-cycle.result ≡ min (c.args.repl.now.session.now.cycle + c.args.limits.within) (2 ^ 64 - 1) = search rules in
    let armed = c.loop-passed.armed.items in
    let left = c.args.limits.ignore - (c.loop-passed._passed + 1) in
    let one : c.args.limits.ignore - c.loop-passed._passed ≡ suc left = omega (arith, c.loop-passed-test.true) in
    let gone : c.run_to.new.repl ≡ after_run (run_of armed c.saturating_add-cycle.result c.loop-passed.repl) c.loop-passed.repl = rw (c.as_slice.ensures.value) at (e.gone) in
    let reported = e.reported in
    let says = says_anew _ _ _ _ c.args.repl.now armed _ _ left c.loop-passed.repl c.run_to.new.repl _ _ _ c.loop-passed.invariant.1 one gone refl (rw (c.as_slice.ensures.value) at reported) in
    let part = begun _ _ (string_bytes c.args.text.now) (string_bytes c.run_to.new.text) _ _ says (grows_then _ _ _ c.loop-passed.invariant.3 (e.grows (λ no. cc))) in
    rw (end, c.quiet-quiet.ensures) at part

pub returns-in_err-armed-clause-grows : goal.returns-in_err-armed-clause-grows
returns-in_err-armed-clause-grows g c never = grows_then _ _ _ c.loop-passed.invariant.3 (c.in_ok-hit.ensures.grows (λ e. cc))

pub returns-clause-gone : goal.returns-clause-gone
returns-clause-gone g c =
    let end : c.saturating_add-cycle.result ≡ min (c.args.repl.now.session.now.cycle + c.args.limits.within) (2 ^ 64 - 1) = search rules in
    on_ok c.run_to-2.result c.run_to-2.ensures.gone
    (λ gone. let part = followed _ _ _ c.args.repl.now c.loop-passed.armed.items _ c.loop-passed.repl _ c.loop-passed.invariant.0 (omega (arith, c.loop-passed-test.false))
    (rw (c.as_slice-2.ensures.value) at gone) in rw (end) at part)

pub returns-clause-hit : goal.returns-clause-hit
returns-clause-hit g c =
    let end : c.saturating_add-cycle.result ≡ min (c.args.repl.now.session.now.cycle + c.args.limits.within) (2 ^ 64 - 1) = search rules in
    if_ok c.run_to-2.result c.run_to-2.ensures.hit
    (λ hit e. let part = came _ _ _ c.args.repl.now c.loop-passed.armed.items _ c.loop-passed.repl hit c.loop-passed.invariant.0 (omega (arith, c.loop-passed-test.false))
    (rw (c.as_slice-2.ensures.value) at e) in rw (end) at part)

pub returns-clause-reported : goal.returns-clause-reported
returns-clause-reported g c =
    let end : c.saturating_add-cycle.result ≡ min (c.args.repl.now.session.now.cycle + c.args.limits.within) (2 ^ 64 - 1) = search rules in
    on_ok c.run_to-2.result c.run_to-2.ensures.reported
    (λ reported. let part = parsed_all _ _ _ _ c.args.repl.now c.loop-passed.armed.items _ c.loop-passed.repl _ _ _ c.loop-passed.invariant.1 (omega (arith, c.loop-passed-test.false))
    (rw (c.as_slice-2.ensures.value) at reported) in rw (end, c.quiet-quiet.ensures) at part)

pub returns-clause-on : goal.returns-clause-on
returns-clause-on g c = runs_then _ _ _ c.loop-passed.invariant.2 c.run_to-2.ensures.on

pub returns-clause-begins : goal.returns-clause-begins
returns-clause-begins g c e =
    let end : c.saturating_add-cycle.result ≡ min (c.args.repl.now.session.now.cycle + c.args.limits.within) (2 ^ 64 - 1) = search rules in
    let begins = c.run_to-2.ensures.begins e in
    let part = broken_last _ _ _ _ c.args.repl.now c.loop-passed.armed.items _ c.loop-passed.repl _ _ _ (string_bytes c.args.text.now) (string_bytes c.loop-passed.text)
    c.loop-passed.invariant.1 c.loop-passed.invariant.3 (omega (arith, c.loop-passed-test.false)) (rw (c.as_slice-2.ensures.value) at begins) in
    rw (end, c.quiet-quiet.ensures) at part

pub returns-clause-grows : goal.returns-clause-grows
returns-clause-grows g c never = grows_then _ _ _ c.loop-passed.invariant.3 (c.run_to-2.ensures.grows never)
