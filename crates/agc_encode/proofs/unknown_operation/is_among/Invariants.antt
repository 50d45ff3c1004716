use Rattle.std.specs.Prelude.{◌≡◌, length}
use Rattle.std.specs.List.{list_any}
use Rattle.std.specs.Str.{bytes_eq}
use Rattle.agc_word.specs.Text.{words_of}
use Rattle.agc_encode.proofs.unknown_operation.is_among.Given as goal

abbrev pub invariant-loop-name : goal.invariant-loop-name
invariant-loop-name l = list_any (λ name. bytes_eq name l.fn.word) (words_of l.rest) ≡ list_any (λ name. bytes_eq name l.fn.word) (words_of l.fn.names)

abbrev pub decreases-loop-name : goal.decreases-loop-name
decreases-loop-name l = length (words_of l.rest)
