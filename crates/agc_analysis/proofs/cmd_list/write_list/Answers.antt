use Rattle.std.proofs.Common.{inl, inr, rules}
use Rattle.std.proofs.KnownBytes.{Keeps-refl}
use Rattle.agc_analysis.proofs.cmd_list.write_list.Goals as goal

pub returns-in-Ok-clause-listed : goal.returns-in-Ok-clause-listed
returns-in-Ok-clause-listed g c done = record { text = c.in-Ok.text.items; listed = c.in-Ok.ensures.text; written = search rules }

pub returns-in-Ok-clause-cut : goal.returns-in-Ok-clause-cut
returns-in-Ok-clause-cut g c failed = inr (record { text = c.in-Ok.text.items; listed = c.in-Ok.ensures.text; written = search rules })

pub returns-in-Err-clause-cut : goal.returns-in-Err-clause-cut
returns-in-Err-clause-cut g c failed = inl (Keeps-refl _)
