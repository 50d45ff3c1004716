use Rattle.std.proofs.Common.{ap, ◌∙◌}
use Rattle.agc_symbols.specs.Index.{number_of}
use Rattle.agc_listing.specs.declared.location.Location.{Location}
use Rattle.agc_symbols.proofs.Firsts.{first_more}
use Rattle.agc_symbols.proofs.index.first_names.Goals as goal

pub loop-index-preserved : goal.loop-index-preserved
loop-index-preserved c =
    first_more c.loop-index.first.items c.note_first.new.first.items c.args.names.now c.loop-index.index c.index-names-index.result c.number_of.result
    c.loop-index-test.true c.index-names-index.is (c.number_of.ensures.number ∙ ap (λ (at : Location). number_of at) c.place.ensures)
    c.loop-index.invariant c.in_ok-note_first.ensures
