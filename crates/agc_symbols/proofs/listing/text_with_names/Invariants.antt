use Rattle.std.specs.Prelude.{◌≡◌, ◌++◌, length}
use Rattle.std.specs.List.{flat_map}
use Rattle.agc_word.specs.Text.{lines_of}
use Rattle.agc_symbols.specs.Listing.{line_with_name}
use Rattle.agc_symbols.proofs.listing.text_with_names.Given as goal

abbrev pub invariant-loop-line : goal.invariant-loop-line
invariant-loop-line l =
    l.named.items ++ flat_map (line_with_name l.names) (lines_of l.rest) ≡ flat_map (line_with_name l.names) (lines_of l.fn.text)

abbrev pub decreases-loop-line : goal.decreases-loop-line
decreases-loop-line l = length l.rest
