use Rattle.std.proofs.Common.{append_assoc}
use Rattle.agc_check.specs.RopeReport.{word_with_parity}
use Rattle.agc_check.proofs.rope_report.push_word.Goals as goal

pub returns : goal.returns
unfolding word_with_parity
returns c =
    let line = rw c.with_bits-digits.ensures at c.writeln.ensures.bytes in
    simp append_assoc line
