-- The names that the orders of a source take as channels.
use Rattle.std.specs.Prelude.{ℕ, ◌+◌, Bool, true, false, not, ◌&&◌, ◌||◌, List, [], ◌∷◌, Option, Some, None, codes, if◌then◌else◌}
use Rattle.std.specs.Str.{bytes_eq}
use Rattle.agc_order.specs.Row.{extracode_row}
use Rattle.agc_order.specs.declared.order.Extracode.{Extracode}
use Rattle.agc_order.specs.declared.row.Takes.{Takes}
use Rattle.agc_order.specs.declared.row.Takes.TheVariants as takes
use Rattle.agc_listing.specs.Text.{are_listed, is_name, parsed_by}
use Rattle.agc_vocabulary.specs.Body.{body_in, plain_line, spelled}
use Rattle.agc_vocabulary.specs.Mnemonic.{extracode_named}
use Rattle.agc_vocabulary.specs.Name.{Naming, with_channel}

-- an order that reads or writes a channel
abbrev pub is_channel : Takes → Bool
is_channel takes.Channel = true
is_channel t = false

abbrev pub takes_channel_by : Option Extracode → Bool
takes_channel_by (Some order) = is_channel (extracode_row order).takes
takes_channel_by None = false

-- L and Q are channels and registers, so their names are both
abbrev pub is_both : List ℕ → Bool
is_both name = bytes_eq (codes "L") name || bytes_eq (codes "Q") name

abbrev pub channel_taken : Bool → List (List ℕ) → Option (List ℕ)
channel_taken true (name ∷ words) = if is_name name && not (is_both name) then Some name else None
channel_taken takes words = None

abbrev pub channel_in : List (List ℕ) → Option (List ℕ)
channel_in [] = None
channel_in (word ∷ words) = channel_taken (takes_channel_by (extracode_named word)) words

-- the name that a line's order takes as a channel's
unfoldable pub line_channel : List ℕ → Option (List ℕ)
line_channel line = if are_listed (parsed_by line) then None else channel_in (spelled (body_in line))

abbrev pub channel_noted : Naming → ℕ → Option (List ℕ) → Naming
channel_noted naming n (Some name) = with_channel naming name n
channel_noted naming n None = naming

-- those of all lines; n is the number of the first one
unfoldable pub channels_from : ℕ → Naming → List (List ℕ) → Naming
channels_from n naming [] = naming
channels_from n naming (line ∷ lines) =
    channels_from (n + 1) (channel_noted naming n (line_channel (plain_line line))) lines
