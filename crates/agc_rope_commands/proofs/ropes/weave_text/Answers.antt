use Rattle.std.proofs.Common.{◌≤◌, length, arith}
use Rattle.std.proofs.lemmas.Result.{IfOk-weaker, IfErr-weaker}
use Rattle.agc_io.proofs.Whole.{of_all}
use Rattle.agc_rope_commands.specs.Listed.{IsWoven}
use Rattle.agc_rope_commands.proofs.Whole.{weave_refused}
use Rattle.agc_rope_commands.proofs.ropes.weave_text.Goals as goal

pub returns-clause-woven : goal.returns-clause-woven
returns-clause-woven g c =
    let few : length c.in-Ok.text.items ≤ 16777216 = omega (arith, c.in-Ok.text.ok.0, c.in-Ok.ensures.bound) in
    IfOk-weaker c.woven_of.result _ _
    (λ woven e. of_all _ _ c.in-Ok.text.items (λ file. IsWoven c.args.form file woven) c.in-Ok.ensures.bytes c.in-Ok.ensures.end
    (record { short = few; file = e.0; first = e.1; kept = e.2 })) c.woven_of.ensures.woven

pub returns-clause-refused : goal.returns-clause-refused
returns-clause-refused g c =
    let few : length c.in-Ok.text.items ≤ 16777216 = omega (arith, c.in-Ok.text.ok.0, c.in-Ok.ensures.bound) in
    IfErr-weaker c.woven_of.result _ _
    (λ t e. weave_refused _ _ c.in-Ok.text.items t c.in-Ok.ensures.bytes c.in-Ok.ensures.end few e) c.woven_of.ensures.refused
