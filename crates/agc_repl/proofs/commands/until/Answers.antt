use Rattle.std.proofs.Common.{◌≡◌, [], ◌∷◌, ◌∙◌, ap, string_bytes}
use Rattle.std.proofs.lemmas.Result.{err_from_is_err_and}
use Rattle.agc_machine.specs.State.{State}
use Rattle.agc_session.specs.Condition.{armed_in}
use Rattle.agc_repl.proofs.Beginning.{begun_more, begun_reported}
use Rattle.agc_repl.proofs.Going.{stays_run}
use Rattle.agc_repl.proofs.commands.until.Goals as goal

pub returns-in_err-armed-clause-on : goal.returns-in_err-armed-clause-on
returns-in_err-armed-clause-on g c = stays_run c.args.repl.now

pub returns-in_err-hit-clause-begins : goal.returns-in_err-hit-clause-begins
returns-in_err-hit-clause-begins g c e =
    let armed : c.in_ok-armed.armed.items ≡ armed_in c.args.repl.now.session.now 0 c.args.what ∷ [] =
    c.in_ok-armed.ensures.armed ∙ ap (λ (s : State). armed_in s 0 c.args.what ∷ []) c.machine.ensures in
    let p = err_from_is_err_and c.from_residual-in_err-hit.result c.from_residual-in_err-hit.ensures.1 in
    let begins = c.run_limited.ensures.begins (cc (p.1, p.2, c.in_err-hit.was, e)) in
    begun_more (string_bytes c.args.text.now) _ _ _ _ (rw (armed) at begins)

pub returns-in_err-push_hit_line-clause-begins : goal.returns-in_err-push_hit_line-clause-begins
returns-in_err-push_hit_line-clause-begins g c e =
    let armed : c.in_ok-armed.armed.items ≡ armed_in c.args.repl.now.session.now 0 c.args.what ∷ [] =
    c.in_ok-armed.ensures.armed ∙ ap (λ (s : State). armed_in s 0 c.args.what ∷ []) c.machine.ensures in
    let reported = c.in_ok-hit.ensures.reported in
    begun_reported _ _ (string_bytes c.args.text.now) (string_bytes c.run_limited.new.text) _ _ (rw (armed) at reported) (c.in_ok-hit.ensures.grows (λ never. cc))
