use Rattle.std.proofs.Common.{◌+◌, ◌≤◌, length, ap, arith}
use Rattle.agc_script.proofs.Merges.{joined_script}
use Rattle.agc_script.proofs.Merging.{joined_is_merge}
use Rattle.agc_script.proofs.script.Script.join.Goals as goal

pub invariant_of-result : goal.invariant_of-result
invariant_of-result c =
    let room : length c.self.inside.events.items + length c.given.inside.events.items ≤ 65536 = omega (arith, c.self.invariant.few, ap length c.self.view_is, ap length c.given.view_is) in
    rw (c.in-Ok.ensures, c.deref.ensures.value, c.deref-2.ensures.value) (joined_script _ _ c.self.invariant c.given.invariant room)

pub returns-in-Ok-clause-both : goal.returns-in-Ok-clause-both
returns-in-Ok-clause-both c =
    let order = rw c.self.view_is at c.self.invariant.in_order in
    let given = rw c.given.view_is at c.given.invariant.in_order in
    rw (c.in-Ok.ensures, c.deref.ensures.value, c.deref-2.ensures.value, c.self.view_is, c.given.view_is) (joined_is_merge _ _ order given)
