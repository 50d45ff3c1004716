-- How orders are encoded: the first word of the row plus the operand.
use Rattle.std.specs.Prelude.{ℕ, ◌+◌, ◌%◌, ◌==◌, nat_lt, nat_le, Bool, false, ◌||◌, ◌&&◌}
use Rattle.std.specs.Prelude.{Option, Some, None, Result, Ok, Err, if◌then◌else◌}
use Rattle.agc_word.specs.Number.{Number, number_from_pattern}
use Rattle.agc_order.specs.Row.{basic_row, extracode_row}
use Rattle.agc_order.specs.declared.order.Basic.{Basic}
use Rattle.agc_order.specs.declared.order.Basic.TheVariants as basic
use Rattle.agc_order.specs.declared.order.Extracode.{Extracode}
use Rattle.agc_order.specs.declared.row.Takes.{Takes}
use Rattle.agc_order.specs.declared.row.Takes.TheVariants as takes
use Rattle.agc_store.specs.Places.{fixed_window}
use Rattle.agc_listing.specs.declared.order.Operand.{Operand}
use Rattle.agc_listing.specs.declared.order.Operand.TheVariants as operand
use Rattle.agc_vocabulary.specs.declared.source_fault.SourceFault.{SourceFault}
use Rattle.agc_vocabulary.specs.declared.source_fault.SourceFault.TheVariants as fault

-- an operand as a word holds it: for a pair, the address after the one in the source
abbrev pub field_of : Takes → Operand → Option ℕ
field_of takes.Nothing operand.Nothing = Some 0
field_of takes.Erasable (operand.Address k) = if nat_lt k 0o2000 then Some k else None
field_of takes.ErasablePair (operand.Address k) =
    if nat_lt k 0o2000 then Some ((k + 1) % 0o2000) else None
field_of takes.Fixed (operand.Address k) =
    if nat_le fixed_window k && nat_lt k 0o10000 then Some k else None
field_of takes.Memory (operand.Address k) = if nat_lt k 0o10000 then Some k else None
field_of takes.MemoryPair (operand.Address k) =
    if nat_lt k 0o10000 then Some ((k + 1) % 0o10000) else None
field_of takes.Channel (operand.Channel h) = if nat_lt h 0o1000 then Some h else None
field_of wanted given = None

-- the fault of an operand that a row rejects
abbrev pub refusal : Takes → Operand → SourceFault
refusal takes.Erasable (operand.Address k) = fault.ErasableWanted
refusal takes.ErasablePair (operand.Address k) = fault.ErasableWanted
refusal takes.Fixed (operand.Address k) = fault.FixedWanted
refusal takes.Memory (operand.Address k) = fault.NoSuchPlace
refusal takes.MemoryPair (operand.Address k) = fault.NoSuchPlace
refusal takes.Channel (operand.Channel h) = fault.ChannelWanted
refusal wanted given = fault.BadOperand

-- the word of a row with an operand
abbrev pub word_with : ℕ → Option ℕ → SourceFault → Result ℕ SourceFault
word_with first (Some field) why = Ok (first + field)
word_with first None why = Err why

abbrev pub row_word : ℕ → Takes → Operand → Result ℕ SourceFault
row_word first wanted given = word_with first (field_of wanted given) (refusal wanted given)

-- the addresses with which an order's word would be that of another order
abbrev pub is_of_another : Basic → Operand → Bool
is_of_another basic.Tc (operand.Address k) = (k == 3) || (k == 4) || (k == 6)
is_of_another basic.Index (operand.Address k) = k == 0o17
is_of_another order given = false

-- With these addresses a line writes that other order: `TC 3` is RELINT, and `INDEX 17` is RESUME.
abbrev pub other_order : Operand → Basic
other_order (operand.Address k) =
    if k == 3 then basic.Relint else if k == 4 then basic.Inhint else if k == 6 then basic.Extend else basic.Resume
other_order given = basic.Resume

abbrev pub meant : Basic → Operand → Basic
meant order given = if is_of_another order given then other_order given else order

abbrev pub meant_operand : Basic → Operand → Operand
meant_operand order given = if is_of_another order given then operand.Nothing else given

-- the word of a basic order with an operand
unfoldable pub basic_word : Basic → Operand → Result ℕ SourceFault
basic_word order given =
    if is_of_another order given
    then Err fault.OtherOrder
    else row_word (basic_row order).first (basic_row order).takes given

-- the word of an extracode with an operand
unfoldable pub extracode_word : Extracode → Operand → Result ℕ SourceFault
extracode_word order given = row_word (extracode_row order).first (extracode_row order).takes given

-- a word with this pattern
abbrev pub as_word : Result ℕ SourceFault → Result Number SourceFault
as_word (Ok bits) = Ok (number_from_pattern 15 bits)
as_word (Err why) = Err why
