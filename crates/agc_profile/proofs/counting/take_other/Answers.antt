use Rattle.std.proofs.Common.{ap, ◌∙◌}
use Rattle.agc_profile.specs.Step.{is_order}
use Rattle.agc_profile.proofs.Left.{happens_reported}
use Rattle.agc_profile.proofs.Running.{none_reported}
use Rattle.agc_profile.proofs.counting.take_other.Goals as goal

pub next_passage-passage-requires-clause-reads : goal.next_passage-passage-requires-clause-reads
next_passage-passage-requires-clause-reads c = c.none.ensures ∙ none_reported c.args.happening.now _ c.requires.other

pub take_in-requires : goal.take_in-requires
take_in-requires c =
    record { other = ap is_order (happens_reported _ _ _ _ c.next_passage-passage.ensures.passage c.requires.reported) ∙ c.requires.other }
