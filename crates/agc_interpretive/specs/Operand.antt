-- The operands of a source, and what an operand word adds to them.
use Rattle.std.specs.Prelude.{ℕ, ◌-◌, ◌/◌, nat_lt, nat_le, ◌==◌, Bool, true, false, ◌&&◌, ◌||◌, List, length, take, get_or}
use Rattle.std.specs.Prelude.{Option, Some, None, if◌then◌else◌}
use Rattle.agc_interpretive.specs.declared.operand.OperandKind.{OperandKind}
use Rattle.agc_interpretive.specs.declared.operand.OperandKind.TheVariants as kind
use Rattle.agc_interpretive.specs.declared.operand.Place.{Place}
use Rattle.agc_interpretive.specs.declared.operand.Place.TheVariants as place
use Rattle.agc_interpretive.specs.declared.operand.Index.{Index}
use Rattle.agc_interpretive.specs.declared.operand.Index.TheVariants as index

-- CCS takes 1 off an address and a store; the other words are used whole. From memory, not checked.
abbrev pub plus_one : OperandKind → ℕ
plus_one kind.Address = 1
plus_one kind.Shift = 1
plus_one kind.Store = 1
plus_one kind.Branch = 0
plus_one kind.Cadr = 0
plus_one kind.Erasable = 0
plus_one kind.Switch = 0

-- the first address that is fixed, and the number of words in fixed memory
abbrev pub first_fixed : ℕ
first_fixed = 0o4000

abbrev pub fixed_words : ℕ
fixed_words = 0o110000

-- The fifteen bits of FB and offset: banks 40 to 43 count as 30 to 33, with the superbank on.
abbrev pub cadr_of : ℕ → ℕ
cadr_of fixed = if nat_lt fixed 0o100000 then fixed else fixed - 0o20000

-- the half of fixed memory: bit 15, which is 1 from bank 20 on
abbrev pub half_of : ℕ → ℕ
half_of fixed = cadr_of fixed / 0o40000

-- a place as a word names it
abbrev pub reached : Place → Place
reached (place.Erasable cell) = place.Erasable cell
reached (place.Fixed fixed) = place.Fixed (cadr_of fixed)

-- the complement of the word for X2
abbrev pub indexed : Index → ℕ → ℕ
indexed index.Direct word = word
indexed index.X1 word = word
indexed index.X2 word = 0o77777 - word

abbrev pub has_index : Index → Bool
has_index index.Direct = false
has_index index.X1 = true
has_index index.X2 = true

-- A negative word is a complement if the operation has `*`, and else it is no operand.
abbrev pub unindexed : Bool → ℕ → Option (ℕ × Index)
unindexed false word = if nat_lt word 0o40000 then Some (word, index.Direct) else None
unindexed true word = if nat_lt word 0o40000 then Some (word, index.X1) else Some (0o77777 - word, index.X2)

-- the index behind the last word of an operand: `,1` or `,2`
abbrev pub ends_with : ℕ → List ℕ → Bool
ends_with digit word =
    nat_le 2 (length word) && (get_or word (length word - 2) 0 == 0x2C) && (get_or word (length word - 1) 0 == digit)

abbrev pub index_behind : List ℕ → Index
index_behind word =
    if ends_with 0x31 word then index.X1 else (if ends_with 0x32 word then index.X2 else index.Direct)

abbrev pub without_index : List ℕ → List ℕ
without_index word =
    if ends_with 0x31 word || ends_with 0x32 word then take (length word - 2) word else word
