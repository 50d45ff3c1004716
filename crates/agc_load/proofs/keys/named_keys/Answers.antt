use Rattle.std.proofs.Common.{◌∙◌, ap, not, length, rules}
use Rattle.std.specs.Iterator.Adapters.{filter_callee, filter_source}
use Rattle.std.specs.Slice.Iter.{split_callee, split_done, split_rest}
use Rattle.std.specs.Prelude.{◌==◌}
use Rattle.std.proofs.lemmas.Iterator.{YieldsList-from_map, items_from_collect}
use Rattle.std.proofs.lemmas.Iterator.Consumers.{YieldsList-from_filter}
use Rattle.std.proofs.lemmas.Iterator.Splits.{YieldsList-from_slice_split}
use Rattle.agc_script.specs.Key.{key_named}
use Rattle.agc_load.specs.Keys.{is_white, names_in}
use Rattle.agc_load.proofs.keys.named_keys.Goals as goal

pub returns : goal.returns
unfolding names_in
returns c =
    let source = ap filter_source c.map.ensures.source ∙ c.filter.ensures.source in
    items_from_collect _ c.collect.ensures.ran
    (YieldsList-from_map _ key_named
    (YieldsList-from_filter _ (λ part. not (length part == 0))
    (YieldsList-from_slice_split _ is_white c.args.text.now (ap split_rest source ∙ c.split.ensures.rest) (ap split_done source ∙ c.split.ensures.done)
    (ap split_callee source ∙ c.split.ensures.closure) (λ x b q k. search rules))
    (ap filter_callee c.map.ensures.source ∙ c.filter.ensures.closure) (λ x b q k. search rules))
    c.map.ensures.closure (λ x r q k. search rules))
