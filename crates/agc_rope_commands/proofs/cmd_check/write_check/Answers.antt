use Rattle.std.proofs.Common.{inl, inr, refl}
use Rattle.std.proofs.KnownBytes.{Keeps-refl}
use Rattle.agc_rope_commands.proofs.cmd_check.write_check.Goals as goal

pub returns-in-Ok-clause-sound : goal.returns-in-Ok-clause-sound
returns-in-Ok-clause-sound g c done = record { report = c.in-Ok.report; checked = c.in-Ok.ensures.checked; written = c.write_report.ensures.sound done }

pub returns-in-Ok-clause-faulty : goal.returns-in-Ok-clause-faulty
returns-in-Ok-clause-faulty g c faulty = record { report = c.in-Ok.report; checked = c.in-Ok.ensures.checked; written = c.write_report.ensures.faulty faulty }

pub returns-in-Ok-clause-cut : goal.returns-in-Ok-clause-cut
returns-in-Ok-clause-cut g c failed = inr (
  c.in-Ok.report.is_sound,
  record { report = c.in-Ok.report; checked = c.in-Ok.ensures.checked; written = record { sound = refl; text = c.write_report.ensures.cut failed } },
)

pub returns-in-Err-clause-cut : goal.returns-in-Err-clause-cut
returns-in-Err-clause-cut g c failed = inl (Keeps-refl _)
