use Rattle.agc_repl.proofs.Answering.{when_left}
use Rattle.agc_repl.proofs.Searching.{save_handled, save_in_range, save_itself}
use Rattle.agc_repl.proofs.conversation.answer_save.Goals as goal

pub answer_without_search-requires-clause-range : goal.answer_without_search-requires-clause-range
answer_without_search-requires-clause-range g c = save_in_range _ _ _ c.request_saved.ensures

pub answer_without_search-requires-clause-itself : goal.answer_without_search-requires-clause-itself
answer_without_search-requires-clause-itself g c = save_itself _ _ _ c.request_saved.ensures

pub returns : goal.returns
returns g c =
    when_left _ c.answer_without_search.result c.answer_without_search.ensures
    (λ t. save_handled c.args.names.now _ _ _ c.args.repl t _ _ c.request_saved.ensures)
