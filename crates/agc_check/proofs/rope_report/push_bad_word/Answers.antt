use Rattle.std.proofs.Common.{append_assoc}
use Rattle.agc_check.specs.RopeReport.{bad_word_text}
use Rattle.agc_check.proofs.rope_report.push_bad_word.Goals as goal

pub returns : goal.returns
unfolding bad_word_text
returns c =
    let written = rw (c.in_ok-push_place.ensures, c.in_ok-push_str.ensures.bytes) at c.push_word.ensures in
    let laid_flat = simp append_assoc at written in
    simp append_assoc laid_flat
