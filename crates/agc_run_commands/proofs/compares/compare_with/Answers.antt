use Rattle.std.proofs.Common.{inl, inr}
use Rattle.std.proofs.lemmas.Result.{IfErr-weaker, IfOk-weaker}
use Rattle.agc_run_commands.proofs.compares.compare_with.Goals as goal

pub returns-in-Ok-clause-compared : goal.returns-in-Ok-clause-compared
returns-in-Ok-clause-compared g c =
    IfOk-weaker c.compare_as.result _ _ (λ outcome reports. (c.in-Ok.right, c.in-Ok.ensures.started, reports)) c.compare_as.ensures.reports

pub returns-in-Ok-clause-refused : goal.returns-in-Ok-clause-refused
returns-in-Ok-clause-refused g c = IfErr-weaker c.compare_as.result _ _ (λ t is. inl is) c.compare_as.ensures.refused

pub returns-in-Err-clause-refused : goal.returns-in-Err-clause-refused
returns-in-Err-clause-refused g c = inr (c.in-Err.refusal, c.of_other_run.ensures, c.in-Err.ensures.refused)
