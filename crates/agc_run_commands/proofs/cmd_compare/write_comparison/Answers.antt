use Rattle.std.proofs.Common.{inl, inr, refl}
use Rattle.std.proofs.KnownBytes.{Keeps-refl}
use Rattle.agc_run_commands.proofs.cmd_compare.write_comparison.Goals as goal

pub returns-in-Ok-clause-same : goal.returns-in-Ok-clause-same
returns-in-Ok-clause-same g c done = record { outcome = c.in-Ok.outcome; compared = c.in-Ok.ensures.compared; written = c.write_outcome.ensures.same done }

pub returns-in-Ok-clause-apart : goal.returns-in-Ok-clause-apart
returns-in-Ok-clause-apart g c apart = record { outcome = c.in-Ok.outcome; compared = c.in-Ok.ensures.compared; written = c.write_outcome.ensures.apart apart }

pub returns-in-Ok-clause-cut : goal.returns-in-Ok-clause-cut
returns-in-Ok-clause-cut g c failed = inr (
  c.in-Ok.outcome.is_same,
  record { outcome = c.in-Ok.outcome; compared = c.in-Ok.ensures.compared; written = record { same = refl; text = c.write_outcome.ensures.cut failed } },
)

pub returns-in-Err-clause-cut : goal.returns-in-Err-clause-cut
returns-in-Err-clause-cut g c failed = inl (Keeps-refl _)
