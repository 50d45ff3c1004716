use Rattle.std.proofs.Common.{◌+◌, ◌≤◌, length, map, ap, arith}
use Rattle.std.proofs.lemmas.List.{length-map}
use Rattle.agc_script.specs.Merge.{key_event}
use Rattle.agc_script.proofs.Merges.{joined_script}
use Rattle.agc_script.proofs.Merging.{joined_is_merge}
use Rattle.agc_script.proofs.Tapes.{keys-in_order, keys_script}
use Rattle.agc_script.proofs.script.Script.merge.Goals as goal

pub invariant_of-result : goal.invariant_of-result
invariant_of-result c =
    let room : length c.self.inside.events.items + length c.args.tape.now ≤ 65536 = omega (arith, c.self.invariant.few, ap length c.self.view_is) in
    let all : length c.self.inside.events.items + length (map key_event c.args.tape.now) ≤ 65536 = omega (arith, room, length-map c.args.tape.now key_event) in
    let few : length c.args.tape.now ≤ 65536 = omega (arith, room) in
    rw (c.in-Ok.ensures.merged, c.deref.ensures.value) (joined_script _ _ c.self.invariant (keys_script _ c.len.ensures.tape few) all)

pub returns-in-Ok-clause-both : goal.returns-in-Ok-clause-both
returns-in-Ok-clause-both c =
    let order = rw c.self.view_is at c.self.invariant.in_order in
    rw (c.in-Ok.ensures.merged, c.deref.ensures.value, c.self.view_is) (joined_is_merge _ _ order (keys-in_order _ c.len.ensures.tape.rising))
