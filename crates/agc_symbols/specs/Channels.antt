-- The names of channels in a symbol file.
use Rattle.std.specs.Prelude.{ℕ, ◌==◌, List, [], ◌∷◌, find, Option, Some, None, option_map, if◌then◌else◌}
use Rattle.std.specs.List.{flat_map}
use Rattle.agc_word.specs.Text.{lines_of}
use Rattle.agc_listing.specs.Text.{parsed_by}
use Rattle.agc_symbols.specs.Symbols.{channel_named, is_place_name}
use Rattle.agc_symbols.specs.declared.line.ParsedChannel.{ParsedChannel}

-- a name and its channel
pub record ChannelSymbol : Type 0 where
  pub channel : ℕ
  pub name : List ℕ

abbrev pub channel_and_name : Option ℕ → List ℕ → Option ChannelSymbol
channel_and_name (Some channel) name =
    if is_place_name name then Some (record { channel = channel; name = name }) else None
channel_and_name None name = None

-- the first word of a line is the channel, and the second its name
abbrev pub channel_in_words : List (List ℕ) → Option ChannelSymbol
channel_in_words (first ∷ name ∷ words) = channel_and_name (channel_named first) name
channel_in_words (first ∷ []) = None
channel_in_words [] = None

unfoldable pub channel_on : List ℕ → Option ChannelSymbol
channel_on line = channel_in_words (parsed_by line)

abbrev pub named_if : Option ChannelSymbol → List ChannelSymbol
named_if (Some named) = named ∷ []
named_if None = []

abbrev pub channels_on : List ℕ → List ChannelSymbol
channels_on line = named_if (channel_on line)

-- the names of channels in a text without a faulty line, in its order
unfoldable pub channels_in : List ℕ → List ChannelSymbol
channels_in text = flat_map channels_on (lines_of text)

-- the first name of a channel
unfoldable pub name_of_channel : List ChannelSymbol → ℕ → Option (List ℕ)
name_of_channel names channel =
    option_map (λ named. named.name) (find (λ named. named.channel == channel) names)

-- a line as the code returns it
abbrev pub channel_parsed : ParsedChannel → ChannelSymbol
channel_parsed parsed = record { channel = parsed.channel; name = parsed.name.now }
