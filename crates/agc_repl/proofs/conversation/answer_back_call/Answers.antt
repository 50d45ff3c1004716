use Rattle.std.proofs.Common.{ap, ◌∙◌}
use Rattle.agc_machine.specs.State.{State}
use Rattle.agc_session.specs.Calls.{back}
use Rattle.agc_repl.proofs.Answering.{when_left}
use Rattle.agc_repl.proofs.ByCalls.{back_handled}
use Rattle.agc_repl.proofs.conversation.answer_back_call.Goals as goal

pub returns : goal.returns
returns g c =
    when_left _ c.answer_search.result c.answer_search.ensures
    (λ t. back_handled c.args.names.now c.args.step c.back-what.result c.args.repl t _ _
    (c.back-what.ensures.condition ∙ ap (λ (s : State). back c.args.step.step c.args.step.job s) c.machine.ensures))
