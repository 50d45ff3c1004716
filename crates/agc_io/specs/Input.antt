-- Files as they are read: what is left of one, and why its bytes could not be read.
use Rattle.std.specs.Prelude.{ℕ, ◌<◌, List, length, Option, None, IfSome}
use Rattle.agc_io.specs.declared.input.InputFile.{InputFile}
use Rattle.agc_io.specs.declared.input.InputFile.TheVariants as input
use Rattle.agc_io.specs.declared.input.ReadFault.TheVariants as read
use Rattle.agc_io.specs.declared.input.ReadError.{ReadError}
use Rattle.agc_io.specs.declared.input.ReadError.TheVariants as unread

-- what is left of an open file; nothing is known of one that could not be opened
abbrev pub left_of : {F : Type 0} → (F → Option (List ℕ)) → InputFile F → Option (List ℕ)
left_of remaining (input.Open file) = remaining file
left_of remaining input.Refused = None

-- a file that is refused for too many bytes has more than the limit
abbrev pub ExplainsUnread : ℕ → Option (List ℕ) → ReadError → Type 0
ExplainsUnread limit known (unread.CannotRead read.TooMany) =
    IfSome known (λ file. limit < length file)
ExplainsUnread limit known (unread.CannotRead read.Failed) = Unit {0}
ExplainsUnread limit known unread.Memory = Unit {0}
