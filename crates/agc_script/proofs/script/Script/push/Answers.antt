use Rattle.std.proofs.Common.{◌<◌, length, arith}
use Rattle.agc_script.proofs.ScriptMore.{script_if, script_more}
use Rattle.agc_script.proofs.script.Script.push.Goals as goal

pub invariant_of-self : goal.invariant_of-self
invariant_of-self c =
    let later = rw (← c.self.view_is) at c.requires.later in
    let room : length c.self.inside.events.items < 65536 = omega (arith, c.self.invariant.few, c.len.ensures, c.if-len-eq-MOST_EVENTS.false) in
    script_if _ _ _ _ c.push.ensures.items (script_more _ _ _ c.self.invariant later c.requires.range c.requires.what room) c.self.invariant
