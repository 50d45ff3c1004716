use Rattle.std.proofs.Common.{inl, inr}
use Rattle.std.proofs.KnownBytes.{Keeps-refl}
use Rattle.agc_analysis.proofs.cmd_weave.write_weave.Goals as goal

pub returns-in-Ok-clause-woven : goal.returns-in-Ok-clause-woven
returns-in-Ok-clause-woven g c done = record { woven = c.in-Ok.woven; weaves = c.in-Ok.ensures.woven; written = c.write_woven.ensures.whole done }

pub returns-in-Ok-clause-cut : goal.returns-in-Ok-clause-cut
returns-in-Ok-clause-cut g c failed = inr (record { woven = c.in-Ok.woven; weaves = c.in-Ok.ensures.woven; written = c.write_woven.ensures.cut failed })

pub returns-in-Err-clause-cut : goal.returns-in-Err-clause-cut
returns-in-Err-clause-cut g c failed = inl (Keeps-refl _)
