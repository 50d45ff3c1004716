use Rattle.std.proofs.Common.{rules, tests}
use Rattle.std.proofs.lemmas.Iterator.Consumers.{nth_from_yields_List}
use Rattle.std.proofs.lemmas.Iterator.Splits.{YieldsList-from_slice_split}
use Rattle.agc_check.proofs.lines.part_at.Goals as goal

pub returns : goal.returns
returns c =
    let yields = YieldsList-from_slice_split _ _ c.args.file.now c.split.ensures.rest c.split.ensures.done c.split.ensures.closure (λ x r q k. search (rules, tests)) in
    nth_from_yields_List c.nth.result c.nth.new.self c.args.place c.nth.ensures.ran yields
