use Rattle.std.proofs.Common.{◌≡◌, ◌++◌, ◌∙◌, ap, map, List, Option, string_bytes}
use Rattle.std.proofs.lemmas.Result.{err_from_is_err_and}
use Rattle.agc_machine.specs.State.{State}
use Rattle.agc_session.specs.declared.condition.Armed.{Armed}
use Rattle.agc_repl.specs.Repl.{all_armed}
use Rattle.agc_repl.specs.Run.{armed_by, stop_line}
use Rattle.agc_repl.specs.declared.settings.Numbered.{Numbered}
use Rattle.agc_repl.proofs.Beginning.{begun_more, begun_reported}
use Rattle.agc_repl.proofs.Going.{stays_run}
use Rattle.agc_repl.proofs.Past.{said_then}
use Rattle.agc_repl.proofs.commands.go_on_until.Goals as goal

pub returns-in_err-armed-clause-on : goal.returns-in_err-armed-clause-on
returns-in_err-armed-clause-on g c = stays_run c.args.repl.now

pub returns-in_err-hit-clause-begins : goal.returns-in_err-hit-clause-begins
returns-in_err-hit-clause-begins g c e =
    let armed : c.in_ok-armed.armed.items ≡ all_armed c.args.repl.now =
    c.in_ok-armed.ensures.armed
    ∙ ap (λ (s : State). map (armed_by s) c.breakpoints.result.now) c.machine.ensures
    ∙ ap (λ (bs : List Numbered). map (armed_by c.args.repl.now.session.now) bs) c.breakpoints.ensures.breakpoints in
    let p = err_from_is_err_and c.from_residual-in_err-hit.result c.from_residual-in_err-hit.ensures.1 in
    let begins = c.run_limited.ensures.begins (cc (p.1, p.2, c.in_err-hit.was, e)) in
    begun_more (string_bytes c.args.text.now) _ _ _ _ (rw (armed) at begins)

pub returns-in_err-push_stop_line-clause-begins : goal.returns-in_err-push_stop_line-clause-begins
returns-in_err-push_stop_line-clause-begins g c e =
    let armed : c.in_ok-armed.armed.items ≡ all_armed c.args.repl.now =
    c.in_ok-armed.ensures.armed
    ∙ ap (λ (s : State). map (armed_by s) c.breakpoints.result.now) c.machine.ensures
    ∙ ap (λ (bs : List Numbered). map (armed_by c.args.repl.now.session.now) bs) c.breakpoints.ensures.breakpoints in
    let reported = c.in_ok-hit.ensures.reported in
    begun_reported _ _ (string_bytes c.args.text.now) (string_bytes c.run_limited.new.text) _ _ (rw (armed) at reported) (c.in_ok-hit.ensures.grows (λ never. cc))

pub returns-clause-reported : goal.returns-clause-reported
returns-clause-reported g c =
    let armed : c.in_ok-armed.armed.items ≡ all_armed c.args.repl.now =
    c.in_ok-armed.ensures.armed
    ∙ ap (λ (s : State). map (armed_by s) c.breakpoints.result.now) c.machine.ensures
    ∙ ap (λ (bs : List Numbered). map (armed_by c.args.repl.now.session.now) bs) c.breakpoints.ensures.breakpoints in
    let gone = c.in_ok-hit.ensures.gone in
    let hit = c.in_ok-hit.ensures.hit in
    let reported = c.in_ok-hit.ensures.reported in (
      rw (armed) at gone,
      said_then _ _ _ (string_bytes c.run_limited.new.text) _ _ _ (rw (armed) at reported)
          (c.in_ok-push_stop_line.ensures ∙ ap (λ (h : Option Armed). string_bytes c.run_limited.new.text ++ stop_line h) (rw (armed) at hit)),
    )
