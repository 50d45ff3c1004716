use Rattle.std.specs.Prelude.{◌≡◌, ◌++◌, length}
use Rattle.std.specs.List.{flat_map}
use Rattle.agc_word.specs.Text.{lines_of}
use Rattle.agc_quantities.specs.Sent.{sent_on}
use Rattle.agc_quantities.proofs.sent.sent_in.Given as goal

-- the words so far, and those of the lines left, are all
abbrev pub invariant-loop-line : goal.invariant-loop-line
invariant-loop-line l =
    l.words.items ++ flat_map sent_on (lines_of l.rest) ≡ flat_map sent_on (lines_of l.fn.log)

abbrev pub decreases-loop-line : goal.decreases-loop-line
decreases-loop-line l = length l.rest
