use Rattle.std.specs.Prelude.{string_bytes}
use Rattle.std.proofs.Common.{refl}
use Rattle.std.proofs.lemmas.Result.{err_from_is_err_and}
use Rattle.agc_repl.proofs.Answering.{answer_of_command, answer_of_fault, answer_of_nothing, begins_as, left_nothing, reports_end, reports_same, reports_waiting}
use Rattle.agc_repl.proofs.Beginning.{begun_more, begun_reported, nothing_begun}
use Rattle.agc_repl.proofs.Telling.{when_ok}
use Rattle.agc_repl.proofs.conversation.execute.Goals as goal

pub returns-in_ok-carry_out-in-Ok-Some-clause-parsed : goal.returns-in_ok-carry_out-in-Ok-Some-clause-parsed
returns-in_ok-carry_out-in-Ok-Some-clause-parsed g c =
    when_ok c.push_end.result c.push_end.ensures
    (λ parsed. reports_same _ _ _ _ _ (answer_of_command c.args.names.now c.args.request c.in-Ok-Some.field-0 c.in-Ok-Some.command c.args.repl.now c.in-Ok-Some.is c.in-Ok-Some.field-0-is c.requires.plain)
    (reports_end _ _ _ (g.W.Write.contents c.carry_out.new.output) (string_bytes c.carry_out.new.text) (string_bytes c.push_end.new.text) c.in_ok-carry_out-in-Ok-Some.ensures.reported parsed))

pub returns-in_ok-carry_out-in-Ok-Some-clause-begins : goal.returns-in_ok-carry_out-in-Ok-Some-clause-begins
returns-in_ok-carry_out-in-Ok-Some-clause-begins g c e =
    begins_as _ _ (string_bytes c.args.text.now) _ _ (answer_of_command c.args.names.now c.args.request c.in-Ok-Some.field-0 c.in-Ok-Some.command c.args.repl.now c.in-Ok-Some.is c.in-Ok-Some.field-0-is c.requires.plain)
    (begun_reported _ _ (string_bytes c.args.text.now) (string_bytes c.carry_out.new.text) _ _ c.in_ok-carry_out-in-Ok-Some.ensures.reported.1 (c.in_ok-carry_out-in-Ok-Some.ensures.grows (λ never. cc)))

pub returns-in_err-carry_out-in-Ok-Some-clause-begins : goal.returns-in_err-carry_out-in-Ok-Some-clause-begins
returns-in_err-carry_out-in-Ok-Some-clause-begins g c e =
    let p = err_from_is_err_and c.from_residual.result c.from_residual.ensures.1 in
    begins_as _ _ (string_bytes c.args.text.now) _ _ (answer_of_command c.args.names.now c.args.request c.in-Ok-Some.field-0 c.in-Ok-Some.command c.args.repl.now c.in-Ok-Some.is c.in-Ok-Some.field-0-is c.requires.plain)
    (begun_more (string_bytes c.args.text.now) _ _ _ _ (c.carry_out.ensures.begins (cc (p.1, p.2, c.in_err-carry_out-in-Ok-Some.was, e))))

pub returns-in-Ok-None-clause-parsed : goal.returns-in-Ok-None-clause-parsed
returns-in-Ok-None-clause-parsed g c =
    when_ok c.push_end-in-Ok-None.result c.push_end-in-Ok-None.ensures
    (λ parsed. reports_same _ _ _ _ _ (answer_of_nothing c.args.names.now c.args.request c.in-Ok-None.field-0 c.args.repl.now c.in-Ok-None.is c.in-Ok-None.field-0-is)
    (reports_waiting _ _ (g.W.Write.contents c.args.output.now) (string_bytes c.args.text.now) (string_bytes c.push_end-in-Ok-None.new.text) refl parsed))

pub returns-in-Ok-None-clause-left : goal.returns-in-Ok-None-clause-left
returns-in-Ok-None-clause-left g c = left_nothing c.args.request c.args.repl.now

pub returns-in-Ok-None-clause-begins : goal.returns-in-Ok-None-clause-begins
returns-in-Ok-None-clause-begins g c e = nothing_begun _ _

pub returns-in-Err-clause-parsed : goal.returns-in-Err-clause-parsed
returns-in-Err-clause-parsed g c =
    when_ok c.push_refusal.result c.push_refusal.ensures
    (λ parsed. reports_same _ _ _ _ _ (answer_of_fault c.args.names.now c.args.request c.in-Err.fault c.args.repl.now c.in-Err.is)
    (reports_waiting _ _ (g.W.Write.contents c.args.output.now) (string_bytes c.args.text.now) (string_bytes c.push_refusal.new.text) refl parsed))

pub returns-in-Err-clause-left : goal.returns-in-Err-clause-left
returns-in-Err-clause-left g c = left_nothing c.args.request c.args.repl.now

pub returns-in-Err-clause-begins : goal.returns-in-Err-clause-begins
returns-in-Err-clause-begins g c e = nothing_begun _ _
