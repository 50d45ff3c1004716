use Rattle.std.specs.Prelude.{◌≡◌, ◌+◌, ◌≤◌, length}
use Rattle.agc_word.specs.Text.{lines_of}
use Rattle.agc_listing_check.specs.MnemonicCheck.{misnamed_from}
use Rattle.agc_listing_check.proofs.mnemonic_check.first_misnamed.Given as goal

abbrev pub invariant-loop-line : goal.invariant-loop-line
invariant-loop-line l = record {
  same : misnamed_from (l.lines + 1) (lines_of l.rest) ≡ misnamed_from 1 (lines_of l.fn.text);
  bytes : l.lines + length l.rest ≤ length l.fn.text;
}

abbrev pub decreases-loop-line : goal.decreases-loop-line
decreases-loop-line l = length l.rest
