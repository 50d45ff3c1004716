-- The text of a rope with names: those of places beside them, and those of operands in place of their digits.
use Rattle.std.specs.Prelude.{◌≡◌, ◌⊎◌, ℕ, ◌/◌, ◌==◌, ◌&&◌, not, Bool, true, false}
use Rattle.std.specs.Prelude.{List, [], ◌++◌, codes, Option, Some, None, if◌then◌else◌}
use Rattle.std.specs.List.{flat_map, range_with_len}
use Rattle.agc_word.specs.Number.{Number, pattern_of}
use Rattle.agc_word.specs.Octal.{word_digits}
use Rattle.agc_order.specs.Order.{basic_of, extracode_of}
use Rattle.agc_order.specs.Row.{Row, basic_row, extracode_row}
use Rattle.agc_order.specs.declared.order.Extracode.{Extracode}
use Rattle.agc_order.specs.declared.order.Extracode.TheVariants as extra
use Rattle.agc_store.specs.Memory.{Memory, fixed_at, selected_bank}
use Rattle.agc_store.specs.Places.{fixed_bank_size, fixed_words}
use Rattle.agc_listing.specs.SureLocation.{sure_location}
use Rattle.agc_listing.specs.List.{is_in_selected_bank, is_extracode_at, listed_place}
use Rattle.agc_listing.specs.Location.{is_fixed_fixed}
use Rattle.agc_listing.specs.Order.{operand_in, operand_text}
use Rattle.agc_listing.specs.Place.{place_text}
use Rattle.agc_listing.specs.declared.location.Location.{Location}
use Rattle.agc_listing.specs.declared.location.Location.TheVariants as location
use Rattle.agc_listing.specs.declared.order.Operand.{Operand}
use Rattle.agc_listing.specs.declared.order.Operand.TheVariants as operand
use Rattle.agc_symbols.specs.Channels.{ChannelSymbol, name_of_channel}
use Rattle.agc_symbols.specs.Column.{name_column, nearby_text}
use Rattle.agc_symbols.specs.Nearest.{Nearby}
use Rattle.agc_symbols.specs.Operand.{operand_named}
use Rattle.agc_symbols.specs.Symbols.{Symbol}
use Rattle.agc_study_args.specs.declared.named_list.ListedWord.{ListedWord}

-- the order at a place of the rope runs: in banks 02 and 03, or in the window while its bank is there
abbrev pub RunsAt : Memory → ℕ → Type 0
RunsAt m place = (is_fixed_fixed place ≡ true) ⊎ (place / fixed_bank_size ≡ selected_bank m)

-- the name of a place that is sure
abbrev pub name_if_sure : List Symbol → Option Location → Option Nearby
name_if_sure names (Some at) = operand_named names at
name_if_sure names None = None

abbrev pub named_alone : Option (List ℕ) → Option Nearby
named_alone (Some name) = Some (record { name = name; offset = 0 })
named_alone None = None

-- the name of an operand as listings show it: of a double word that of its upper word
abbrev pub operand_called : List Symbol → List ChannelSymbol → ℕ → Operand → Option Nearby
operand_called names channels place operand.Nothing = None
operand_called names channels place (operand.Address address) =
    name_if_sure names (sure_location place address)
operand_called names channels place (operand.Channel channel) =
    named_alone (name_of_channel channels channel)

-- an operand by its name or, without a name, in digits
abbrev pub called_or : Option Nearby → List ℕ → List ℕ
called_or (Some near) digits = codes " " ++ nearby_text (Some near)
called_or None digits = digits

-- EDRUPT has no channel
abbrev pub is_edrupt : Extracode → Bool
is_edrupt extra.Edrupt = true
is_edrupt _ = false

abbrev pub has_name : Bool → ℕ → Bool
has_name extracode word = not (extracode && is_edrupt (extracode_of word))

abbrev pub row_of : Bool → ℕ → Row
row_of true word = extracode_row (extracode_of word)
row_of false word = basic_row (basic_of word)

abbrev pub name_of : List Symbol → List ChannelSymbol → ℕ → Bool → ℕ → Option Nearby
name_of names channels place extracode word =
    if has_name extracode word
    then operand_called names channels place (operand_in (row_of extracode word).takes word)
    else None

-- the line of a word at a place: its place with the column of its name, its digits, its mnemonic and its operand
unfoldable pub named_line : List Symbol → List ChannelSymbol → ListedWord → List ℕ
named_line names channels listed =
    let word = pattern_of 15 listed.word in
    let row = row_of listed.extracode word in
    place_text (listed_place listed.place) ++ codes " " ++ name_column names (location.Fixed listed.place)
    ++ word_digits listed.word ++ codes " " ++ row.mnemonic
    ++ called_or (name_of names channels listed.place listed.extracode word)
    (operand_text (operand_in row.takes word))
    ++ codes "\n"

-- the line of a word, if it has one: it is not +0 and its bank is selected
abbrev pub named_if_listed : List Symbol → List ChannelSymbol → Option ℕ → ListedWord → List ℕ
named_if_listed names channels bank listed =
    if not (pattern_of 15 listed.word == 0) && is_in_selected_bank bank listed.place
    then named_line names channels listed
    else []

unfoldable pub named_line_at : List Symbol → List ChannelSymbol → Option ℕ → List Number → ℕ → List ℕ
named_line_at names channels bank words place =
    named_if_listed names channels bank
    (record { place = place; extracode = is_extracode_at words place; word = fixed_at place words })

-- the lines of the first `count` places
unfoldable pub named_lines : ℕ → List Symbol → List ChannelSymbol → Option ℕ → List Number → List ℕ
named_lines count names channels bank words =
    flat_map (named_line_at names channels bank words) (range_with_len 0 count)

-- the text of a rope, or of one of its banks
unfoldable pub named_rope_text : List Symbol → List ChannelSymbol → Option ℕ → List Number → List ℕ
named_rope_text names channels bank words = named_lines fixed_words names channels bank words
