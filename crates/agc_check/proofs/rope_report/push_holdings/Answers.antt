use Rattle.std.proofs.Common.{append_assoc}
use Rattle.agc_check.specs.RopeReport.{rope_holdings_text}
use Rattle.agc_check.proofs.rope_report.push_holdings.Goals as goal

pub returns : goal.returns
unfolding rope_holdings_text
returns c = let by_std = c.writeln.ensures.bytes in simp append_assoc by_std
