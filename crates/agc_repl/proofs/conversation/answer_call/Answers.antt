use Rattle.std.proofs.Common.{ap, ◌∙◌}
use Rattle.agc_machine.specs.State.{State}
use Rattle.agc_session.specs.Calls.{ahead}
use Rattle.agc_repl.proofs.Answering.{when_left}
use Rattle.agc_repl.proofs.ByCalls.{call_handled, until_in_range}
use Rattle.agc_repl.proofs.conversation.answer_call.Goals as goal

pub answer_without_search-requires-clause-range : goal.answer_without_search-requires-clause-range
answer_without_search-requires-clause-range g c =
    until_in_range c.ahead-what.result c.args.step.step c.args.step.job _ c.args.step.within c.ahead-what.ensures.condition c.requires.job c.requires.within

pub returns : goal.returns
returns g c =
    when_left _ c.answer_without_search.result c.answer_without_search.ensures
    (λ t. call_handled c.args.names.now c.args.step c.ahead-what.result c.args.repl t _ _
    (c.ahead-what.ensures.condition ∙ ap (λ (s : State). ahead c.args.step.step c.args.step.job s) c.machine.ensures))
