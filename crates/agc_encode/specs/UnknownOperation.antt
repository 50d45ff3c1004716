-- Operations of the listings that this assembler does not take.
use Rattle.std.specs.Prelude.{ℕ, ◌-◌, Bool, ◌&&◌, List, length, take, codes, is_some, if◌then◌else◌}
use Rattle.std.specs.List.{list_any}
use Rattle.std.specs.Str.{bytes_eq}
use Rattle.agc_word.specs.Text.{words_of}
use Rattle.agc_interpretive.specs.Operation.{ends_with_star, operation_named}
use Rattle.agc_interpretive.specs.declared.fault.Fault.TheVariants as why
use Rattle.agc_vocabulary.specs.declared.source_fault.SourceFault.{SourceFault}
use Rattle.agc_vocabulary.specs.declared.source_fault.SourceFault.TheVariants as fault

-- directives of other kinds of words
unfoldable pub unsupported_names : List ℕ
unsupported_names = codes "2BCADR 2CADR* =PLUS BANK= DNADR HEAD LOC TAIL"

-- whether a text of words has a word
abbrev pub is_among : List ℕ → List ℕ → Bool
is_among names word = list_any (λ name. bytes_eq name word) (words_of names)

-- a `*` behind an operation of the interpretive language that is never indexed
abbrev pub without_last : List ℕ → List ℕ
without_last word = take (length word - 1) word

abbrev pub is_badly_starred : List ℕ → Bool
is_badly_starred word = ends_with_star word && is_some (operation_named (without_last word))

-- the fault of a word that is neither an order nor a directive of this assembler
unfoldable pub unknown_operation : List ℕ → SourceFault
unknown_operation word =
    if is_badly_starred word then fault.Interpretive why.BadIndex
    else if is_among unsupported_names word then fault.NotSupported
    else fault.UnknownOrder
