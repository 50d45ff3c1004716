-- Operands: an address, a place or a cell, and an offset from it.
use Rattle.std.specs.Prelude.{ℕ, ◌+◌, ◌-◌, nat_lt, nat_le, ◌==◌, Bool, ◌&&◌, ◌||◌, false, List, [], ◌∷◌, length, take, drop, find}
use Rattle.std.specs.List.{range_with_len}
use Rattle.std.specs.Prelude.{Option, Some, None, is_some, Result, Ok, Err, if◌then◌else◌}
use Rattle.agc_word.specs.Numeral.{octal_number}
use Rattle.agc_order.specs.declared.row.Takes.{Takes}
use Rattle.agc_order.specs.declared.row.Takes.TheVariants as takes
use Rattle.agc_store.specs.Places.{erasable_cells, fixed_words}
use Rattle.agc_listing.specs.List.{listed_address}
use Rattle.agc_listing.specs.declared.order.Operand.{Operand}
use Rattle.agc_listing.specs.declared.order.Operand.TheVariants as operand
use Rattle.agc_listing.specs.Location.{cell_address, is_addressable, is_fixed_fixed, location_named, location_of_pseudo_address}
use Rattle.agc_vocabulary.specs.Name.{Naming, known}
use Rattle.agc_listing.specs.Number.{count_named, offset_parsed}
use Rattle.agc_listing.specs.Text.{is_name}
use Rattle.agc_vocabulary.specs.declared.source_fault.SourceFault.{SourceFault}
use Rattle.agc_vocabulary.specs.declared.source_fault.SourceFault.TheVariants as fault
use Rattle.agc_listing.specs.declared.location.Location.{Location}
use Rattle.agc_listing.specs.declared.location.Location.TheVariants as location
use Rattle.agc_listing.specs.declared.number.Signed.{Signed}
use Rattle.agc_encode.specs.declared.operand.Value.{Value}
use Rattle.agc_encode.specs.declared.operand.Value.TheVariants as value

-- a number plus an offset, if the sum is not below 0 and below a bound
abbrev pub moved : ℕ → ℕ → Signed → Option ℕ
moved bound n by =
    if by.minus
    then (if nat_le by.magnitude n && nat_lt (n - by.magnitude) bound then Some (n - by.magnitude) else None)
    else (if nat_lt (n + by.magnitude) bound then Some (n + by.magnitude) else None)

abbrev pub number_value : Option ℕ → Result Value SourceFault
number_value (Some n) = Ok (value.Number n)
number_value None = Err fault.NoSuchPlace

abbrev pub fixed_value : Option ℕ → Result Value SourceFault
fixed_value (Some place) = Ok (value.At (location.Fixed place))
fixed_value None = Err fault.NoSuchPlace

abbrev pub erasable_value : Option ℕ → Result Value SourceFault
erasable_value (Some cell) = Ok (value.At (location.Erasable cell))
erasable_value None = Err fault.NoSuchPlace

-- a value plus an offset
abbrev pub value_moved : Value → Signed → Result Value SourceFault
value_moved (value.Number n) by = number_value (moved 0o120000 n by)
value_moved (value.At (location.Fixed place)) by = fixed_value (moved fixed_words place by)
value_moved (value.At (location.Erasable cell)) by =
    erasable_value (moved erasable_cells cell by)

-- The value of a whole word: an octal number, a place with its bank, a name, or a decimal number before a letter D.
abbrev pub value_counted : Option ℕ → Option Value
value_counted (Some n) = Some (value.Number n)
value_counted None = None

abbrev pub value_named : Option Location → List ℕ → Option Value
value_named (Some place) word = Some (value.At place)
value_named None word = value_counted (count_named word)

abbrev pub value_placed : Option Location → Naming → List ℕ → Option Value
value_placed (Some place) naming word = Some (value.At place)
value_placed None naming word = value_named (known naming word) word

abbrev pub value_by : Option ℕ → Naming → List ℕ → Option Value
value_by (Some n) naming word = Some (value.Number n)
value_by None naming word = value_placed (location_named word) naming word

abbrev pub value_whole : Naming → List ℕ → Option Value
value_whole naming word = value_by (octal_number 6 word) naming word

-- A word that means nothing as a whole is cut before the offset at its end. Names may have signs.
abbrev pub no_value : List ℕ → SourceFault
no_value word = if is_name word then fault.UnknownName else fault.BadOperand

abbrev pub value_parts : List ℕ → Option Value → Option Signed → Result Value SourceFault
value_parts word (Some v) (Some by) = value_moved v by
value_parts word v by = Err (no_value word)

abbrev pub begins_offset : List ℕ → ℕ → Bool
begins_offset word at = nat_lt at (length word) && is_some (offset_parsed (drop at word))

unfoldable pub offset_place : List ℕ → Option ℕ
offset_place word = find (begins_offset word) (range_with_len 0 (length word))

abbrev pub value_cut : Naming → Option ℕ → List ℕ → Result Value SourceFault
value_cut naming (Some at) word =
    value_parts word (value_whole naming (take at word)) (offset_parsed (drop at word))
value_cut naming None word = Err (no_value word)

abbrev pub value_or_cut : Option Value → Naming → List ℕ → Result Value SourceFault
value_or_cut (Some v) naming word = Ok v
value_or_cut None naming word = value_cut naming (offset_place word) word

abbrev pub value_in : Naming → List ℕ → Result Value SourceFault
value_in naming word = value_or_cut (value_whole naming word) naming word

-- an offset alone is relative to the line itself
abbrev pub value_here : Option Signed → Naming → ℕ → List ℕ → Result Value SourceFault
value_here (Some by) naming here word = value_moved (value.At (location.Fixed here)) by
value_here None naming here word = value_in naming word

abbrev pub value_beside : Result Value SourceFault → Option Signed → Result Value SourceFault
value_beside (Err why) by = Err why
value_beside (Ok v) None = Err fault.BadOperand
value_beside (Ok v) (Some by) = value_moved v by

-- the value of an operand's words, for a line at a place
abbrev pub value_of : Naming → ℕ → List (List ℕ) → Result Value SourceFault
value_of naming here (word ∷ []) = value_here (offset_parsed word) naming here word
value_of naming here (word ∷ by ∷ []) = value_beside (value_in naming word) (offset_parsed by)
value_of naming here words = Err fault.BadOperand

-- the location of a value; a number names one as listings count all memory
abbrev pub location_of : Value → Option Location
location_of (value.Number n) = location_of_pseudo_address n
location_of (value.At place) = Some place

abbrev pub located : Option Location → Result Location SourceFault
located (Some (location.Fixed place)) =
    if nat_lt place fixed_words then Ok (location.Fixed place) else Err fault.NoSuchPlace
located (Some (location.Erasable cell)) =
    if nat_lt cell erasable_cells then Ok (location.Erasable cell) else Err fault.NoSuchPlace
located None = Err fault.NoSuchPlace

abbrev pub location_by : Result Value SourceFault → Result Location SourceFault
location_by (Ok v) = located (location_of v)
location_by (Err why) = Err why

-- the location that the operand of a directive names
abbrev pub value_apart : Naming → List (List ℕ) → Result Value SourceFault
value_apart naming (word ∷ []) = value_in naming word
value_apart naming (word ∷ by ∷ []) = value_beside (value_in naming word) (offset_parsed by)
value_apart naming words = Err fault.BadPlace

abbrev pub location_in : Naming → List (List ℕ) → Result Location SourceFault
location_in naming words = location_by (value_apart naming words)

-- a location beside another one
abbrev pub location_beside : Location → Signed → Result Location SourceFault
location_beside here by = location_by (value_moved (value.At here) by)

-- The number of a location, as listings count all memory, and the location of such a number's distance from another one.
abbrev pub number_of_location : Location → ℕ
number_of_location (location.Erasable cell) = cell
number_of_location (location.Fixed place) = if is_fixed_fixed place then place else place + 0o10000

abbrev pub location_apart : Location → Location → Result Location SourceFault
location_apart here from =
    if nat_le (number_of_location from) (number_of_location here)
    then located (location_of_pseudo_address (number_of_location here - number_of_location from))
    else Err fault.NoSuchPlace

-- the same for an address that a line at a place writes: an offset alone is relative to the line itself
abbrev pub location_for : Naming → ℕ → List (List ℕ) → Result Location SourceFault
location_for naming here words = location_by (value_of naming here words)

-- the address by which an order at a place names a value; a number below 10000 is an address
abbrev pub address_of : ℕ → Location → Result ℕ SourceFault
address_of here (location.Erasable cell) = Ok (cell_address cell)
address_of here (location.Fixed place) =
    if nat_lt place fixed_words && is_addressable here place then Ok (listed_address place) else Err fault.AnotherBank

abbrev pub address_by : ℕ → Option Location → Result ℕ SourceFault
address_by here (Some place) = address_of here place
address_by here None = Err fault.NoSuchPlace

abbrev pub address_at : ℕ → Value → Result ℕ SourceFault
address_at here (value.Number n) = if nat_lt n 0o10000 then Ok n else address_by here (location_of_pseudo_address n)
address_at here (value.At place) = address_of here place

-- The cells whose names may also be names of channels: the registers and counters below 61, and 77. Each other cell is
-- memory, and its name is no channel's.
abbrev pub is_channel_cell : ℕ → Bool
is_channel_cell cell = nat_lt cell 0o61 || (cell == 0o77)

-- the channel that a value names
abbrev pub channel_at : Value → Result ℕ SourceFault
channel_at (value.Number n) = if nat_lt n 0o1000 then Ok n else Err fault.ChannelWanted
channel_at (value.At (location.Erasable cell)) =
    if is_channel_cell cell then Ok cell else Err fault.ChannelWanted
channel_at (value.At (location.Fixed place)) = Err fault.ChannelWanted

abbrev pub as_address : ℕ → Result Value SourceFault → Result Operand SourceFault
as_address here (Err why) = Err why
as_address here (Ok v) =
    elim (address_at here v) [
      | Ok address ↦ Ok (operand.Address address)
      | Err why ↦ Err why
    ]

-- A name that an order of the source takes as a channel's is no name of a cell.
abbrev pub is_channel_name : Naming → List (List ℕ) → Bool
is_channel_name naming [] = false
is_channel_name naming (word ∷ words) = is_some (naming.channels word)

abbrev pub as_memory : Bool → ℕ → Result Value SourceFault → Result Operand SourceFault
as_memory named here (Ok (value.At (location.Erasable cell))) =
    if named && is_channel_cell cell
    then Err fault.ChannelName
    else as_address here (Ok (value.At (location.Erasable cell)))
as_memory named here v = as_address here v

abbrev pub as_channel : Result Value SourceFault → Result Operand SourceFault
as_channel (Err why) = Err why
as_channel (Ok v) =
    elim (channel_at v) [
      | Ok channel ↦ Ok (operand.Channel channel)
      | Err why ↦ Err why
    ]

abbrev pub no_operand : List (List ℕ) → Result Operand SourceFault
no_operand [] = Ok operand.Nothing
no_operand (word ∷ words) = Err fault.BadOperand

-- the operand of an order, from the words after it
abbrev pub operand_for : Takes → Naming → ℕ → List (List ℕ) → Result Operand SourceFault
operand_for takes.Nothing naming here words = no_operand words
operand_for takes.Channel naming here words = as_channel (value_of naming here words)
operand_for wanted naming here words = as_memory (is_channel_name naming words) here (value_of naming here words)
