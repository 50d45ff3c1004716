use Rattle.std.specs.Prelude.{◌≡◌, length}
use Rattle.std.specs.List.{list_all}
use Rattle.agc_word.specs.Text.{lines_of}
use Rattle.agc_asm.specs.Source.{is_listing_line}
use Rattle.agc_asm.proofs.assemble_source.is_listing.Given as goal

abbrev pub invariant-loop-line : goal.invariant-loop-line
invariant-loop-line l = list_all (λ line. is_listing_line line) (lines_of l.rest) ≡ list_all (λ line. is_listing_line line) (lines_of l.fn.text)

abbrev pub decreases-loop-line : goal.decreases-loop-line
decreases-loop-line l = length l.rest
