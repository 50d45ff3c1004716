use Rattle.std.proofs.Common.{◌≡◌, arith, get_or, rules, sym, ◌∙◌}
use Rattle.std.proofs.lemmas.List.{take_more_same}
use Rattle.std.proofs.lemmas.Option.{get_or_from_slice_get}
use Rattle.agc_script.specs.declared.event.Event.{Event}
use Rattle.agc_script.proofs.alike.begin_alike.Goals as goal

pub loop-i-preserved : goal.loop-i-preserved
loop-i-preserved c =
    let event : Event = c.at.result in
    let one : get_or c.args.one.now c.loop-i.i event ≡ event = get_or_from_slice_get c.args.one.now c.loop-i.i event event c.at.ensures.event in
    let other : get_or c.args.other.now c.loop-i.i event ≡ c.at-in-loop-i.result =
    get_or_from_slice_get c.args.other.now c.loop-i.i c.at-in-loop-i.result event c.at-in-loop-i.ensures.event in
    let same : event ≡ c.at-in-loop-i.result = search rules in
    take_more_same c.args.one.now c.args.other.now c.loop-i.i event (omega arith) (omega arith) c.loop-i.invariant (one ∙ same ∙ sym other)
