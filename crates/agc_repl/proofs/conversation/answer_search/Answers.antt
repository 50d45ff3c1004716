use Rattle.agc_repl.proofs.Answering.{when_left}
use Rattle.agc_repl.proofs.Searching.{found_as, found_handled, missed_handled, short_handled}
use Rattle.agc_repl.proofs.conversation.answer_search.Goals as goal

pub returns-in_default : goal.returns-in_default
returns-in_default g c =
    when_left _ c.refuse.result c.refuse.ensures (λ t. short_handled c.args.names.now c.args.search c.args.repl t _ _)

pub returns-in-Some : goal.returns-in-Some
returns-in-Some g c =
    when_left _ c.rewind_to.result c.rewind_to.ensures
    (λ t. found_handled c.args.names.now c.args.search _ c.in-Some.cycle c.args.repl t _ _ c.cycle_after.ensures
    (found_as c.args.search.what c.args.search.count c.args.repl _ _ c.in-Some.is c.in-Ok.ensures))

pub returns-in-None : goal.returns-in-None
returns-in-None g c =
    when_left _ c.answer_not_found.result c.answer_not_found.ensures
    (λ t. missed_handled c.args.names.now c.args.search c.args.repl t _ _
    (found_as c.args.search.what c.args.search.count c.args.repl _ _ c.in-None.is c.in-Ok.ensures))
