use Rattle.agc_repl.proofs.settings.Settings.delete.Goals as goal

pub invariant_of-self : goal.invariant_of-self
invariant_of-self c = c.remove.ensures.range c.self.invariant
