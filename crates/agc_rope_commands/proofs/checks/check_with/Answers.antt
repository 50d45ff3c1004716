use Rattle.std.proofs.lemmas.Result.{IfOk-weaker}
use Rattle.agc_rope_commands.proofs.checks.check_with.Goals as goal

pub returns-clause-checked : goal.returns-clause-checked
returns-clause-checked g c =
    IfOk-weaker c.with_more.result _ _ (λ whole joined. record { first = c.in_ok-first.first; checked = c.in_ok-first.ensures.checked; joined = joined })
    c.with_more.ensures.whole
