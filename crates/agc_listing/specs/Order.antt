-- How listings print an order: its mnemonic, and the address or the channel after it.
use Rattle.std.specs.Prelude.{ℕ, ◌+◌, ◌%◌, ◌<◌, Bool, true, false, List, [], ◌++◌, codes}
use Rattle.agc_word.specs.Number.{Number, pattern_of}
use Rattle.agc_word.specs.Octal.{octal_digits}
use Rattle.agc_order.specs.Order.{basic_of, extracode_of, is_extend, is_extracode_index}
use Rattle.agc_order.specs.Row.{Row, basic_row, extracode_row}
use Rattle.agc_order.specs.declared.row.Takes.{Takes}
use Rattle.agc_order.specs.declared.row.Takes.TheVariants as takes
use Rattle.agc_listing.specs.declared.order.Operand.{Operand}
use Rattle.agc_listing.specs.declared.order.Operand.TheVariants as operand

-- The operand in an order's word: an address of ten or of twelve bits, or a channel of nine. The
-- word of a double-word order holds the address of the lower word, but listings show that of the
-- upper word, one less; before 0 comes the last address of as many bits.
abbrev pub operand_in : Takes → ℕ → Operand
operand_in takes.Nothing word = operand.Nothing
operand_in takes.Erasable word = operand.Address (word % 0o2000)
operand_in takes.ErasablePair word = operand.Address ((word % 0o2000 + 0o1777) % 0o2000)
operand_in takes.Fixed word = operand.Address (word % 0o10000)
operand_in takes.Memory word = operand.Address (word % 0o10000)
operand_in takes.MemoryPair word = operand.Address ((word % 0o10000 + 0o7777) % 0o10000)
operand_in takes.Channel word = operand.Channel (word % 0o1000)

-- an operand that fits its digits
abbrev pub FitsPrint : Operand → Type 0
FitsPrint operand.Nothing = Unit {0}
FitsPrint (operand.Address address) = address < 0o10000
FitsPrint (operand.Channel channel) = channel < 0o1000

-- an operand as printed, after a space: an address in four digits, a channel in three
abbrev pub operand_text : Operand → List ℕ
operand_text operand.Nothing = []
operand_text (operand.Address address) = codes " " ++ octal_digits 4 address
operand_text (operand.Channel channel) = codes " " ++ octal_digits 3 channel

-- a word printed as the order of a row
abbrev pub row_text : Row → ℕ → List ℕ
row_text row word = row.mnemonic ++ operand_text (operand_in row.takes word)

-- a word printed as a basic order, and as an extracode
unfoldable pub basic_text : ℕ → List ℕ
basic_text word = row_text (basic_row (basic_of word)) word

unfoldable pub extracode_text : ℕ → List ℕ
extracode_text word = row_text (extracode_row (extracode_of word)) word

-- a word printed as an order, either an extracode or a basic order
abbrev pub order_text : Bool → Number → List ℕ
order_text true word = extracode_text (pattern_of 15 word)
order_text false word = basic_text (pattern_of 15 word)

-- whether the next word is an extracode: after EXTEND, and after the extracode INDEX
unfoldable pub next_is_extracode : Bool → Number → Bool
next_is_extracode true word = is_extracode_index (extracode_of (pattern_of 15 word))
next_is_extracode false word = is_extend (basic_of (pattern_of 15 word))
