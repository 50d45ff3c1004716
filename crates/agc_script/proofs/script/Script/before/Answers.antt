use Rattle.agc_script.proofs.ScriptMore.{script_fewer}
use Rattle.agc_script.proofs.script.Script.before.Goals as goal

pub invariant_of-result : goal.invariant_of-result
invariant_of-result c =
    rw (c.in_ok-extend_from_slice.ensures.items, c.in_ok-earlier.ensures.items, c.as_slice-events.ensures.value)
    (script_fewer c.unwrap_or-count.result _ c.self.invariant)
