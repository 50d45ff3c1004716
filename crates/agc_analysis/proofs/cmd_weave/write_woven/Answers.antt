use Rattle.agc_io.proofs.Begun.{none_begun}
use Rattle.agc_analysis.proofs.cmd_weave.write_woven.Goals as goal

pub returns-then-not-has_written_names-clause-cut : goal.returns-then-not-has_written_names-clause-cut
returns-then-not-has_written_names-clause-cut g c failed = none_begun _ _
