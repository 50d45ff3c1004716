-- The table of orders: the first word of each, its mnemonic, its operand, and its cycles.
use Rattle.std.specs.Prelude.{ℕ, ◌+◌, List, [], ◌∷◌, codes}
use Rattle.agc_order.specs.declared.order.Basic.{Basic}
use Rattle.agc_order.specs.declared.order.Basic.TheVariants as basic
use Rattle.agc_order.specs.declared.order.Extracode.{Extracode}
use Rattle.agc_order.specs.declared.order.Extracode.TheVariants as extra
use Rattle.agc_order.specs.declared.row.Takes.{Takes}
use Rattle.agc_order.specs.declared.row.Takes.TheVariants as takes

-- The word with address or channel 0, or with no operand; the name in the instruction memos; the operand; and the
-- cycles of the order. For BZF and BZMF these are the cycles without a branch, a taken branch takes one; EDRUPT has 0,
-- because it halts the machine.
pub record Row : Type 0 where
  pub first : ℕ
  pub mnemonic : List ℕ
  pub takes : Takes
  pub cycles : ℕ

abbrev pub row_of : ℕ → List ℕ → Takes → ℕ → Row
row_of first mnemonic wanted cycles =
    record { first = first; mnemonic = mnemonic; takes = wanted; cycles = cycles }

-- the rows of the basic orders, in the order of their codes
abbrev pub basic_row : Basic → Row
basic_row basic.Tc = row_of 0o00000 (codes "TC") takes.Memory 1
basic_row basic.Relint = row_of 0o00003 (codes "RELINT") takes.Nothing 1
basic_row basic.Inhint = row_of 0o00004 (codes "INHINT") takes.Nothing 1
basic_row basic.Extend = row_of 0o00006 (codes "EXTEND") takes.Nothing 1
basic_row basic.Ccs = row_of 0o10000 (codes "CCS") takes.Erasable 2
basic_row basic.Tcf = row_of 0o10000 (codes "TCF") takes.Fixed 1
basic_row basic.Das = row_of 0o20000 (codes "DAS") takes.ErasablePair 3
basic_row basic.Lxch = row_of 0o22000 (codes "LXCH") takes.Erasable 2
basic_row basic.Incr = row_of 0o24000 (codes "INCR") takes.Erasable 2
basic_row basic.Ads = row_of 0o26000 (codes "ADS") takes.Erasable 2
basic_row basic.Ca = row_of 0o30000 (codes "CA") takes.Memory 2
basic_row basic.Cs = row_of 0o40000 (codes "CS") takes.Memory 2
basic_row basic.Index = row_of 0o50000 (codes "INDEX") takes.Erasable 2
basic_row basic.Resume = row_of 0o50017 (codes "RESUME") takes.Nothing 2
basic_row basic.Dxch = row_of 0o52000 (codes "DXCH") takes.ErasablePair 3
basic_row basic.Ts = row_of 0o54000 (codes "TS") takes.Erasable 2
basic_row basic.Xch = row_of 0o56000 (codes "XCH") takes.Erasable 2
basic_row basic.Ad = row_of 0o60000 (codes "AD") takes.Memory 2
basic_row basic.Mask = row_of 0o70000 (codes "MASK") takes.Memory 2

-- the rows of the extracodes
abbrev pub extracode_row : Extracode → Row
extracode_row extra.Read = row_of 0o00000 (codes "READ") takes.Channel 2
extracode_row extra.Write = row_of 0o01000 (codes "WRITE") takes.Channel 2
extracode_row extra.Rand = row_of 0o02000 (codes "RAND") takes.Channel 2
extracode_row extra.Wand = row_of 0o03000 (codes "WAND") takes.Channel 2
extracode_row extra.Ror = row_of 0o04000 (codes "ROR") takes.Channel 2
extracode_row extra.Wor = row_of 0o05000 (codes "WOR") takes.Channel 2
extracode_row extra.Rxor = row_of 0o06000 (codes "RXOR") takes.Channel 2
extracode_row extra.Edrupt = row_of 0o07000 (codes "EDRUPT") takes.Channel 0
extracode_row extra.Dv = row_of 0o10000 (codes "DV") takes.Erasable 6
extracode_row extra.Bzf = row_of 0o10000 (codes "BZF") takes.Fixed 2
extracode_row extra.Msu = row_of 0o20000 (codes "MSU") takes.Erasable 2
extracode_row extra.Qxch = row_of 0o22000 (codes "QXCH") takes.Erasable 2
extracode_row extra.Aug = row_of 0o24000 (codes "AUG") takes.Erasable 2
extracode_row extra.Dim = row_of 0o26000 (codes "DIM") takes.Erasable 2
extracode_row extra.Dca = row_of 0o30000 (codes "DCA") takes.MemoryPair 3
extracode_row extra.Dcs = row_of 0o40000 (codes "DCS") takes.MemoryPair 3
extracode_row extra.Index = row_of 0o50000 (codes "INDEX") takes.Memory 2
extracode_row extra.Su = row_of 0o60000 (codes "SU") takes.Erasable 2
extracode_row extra.Bzmf = row_of 0o60000 (codes "BZMF") takes.Fixed 2
extracode_row extra.Mp = row_of 0o70000 (codes "MP") takes.Memory 3

-- the least word of an order: the one with the least address
abbrev pub least_operand : Takes → ℕ
least_operand takes.Fixed = 0o2000
least_operand _ = 0

abbrev pub least_word : Row → ℕ
least_word row = row.first + least_operand row.takes

-- every basic order and every extracode, once
unfoldable pub all_basics : List Basic
all_basics =
    basic.Tc ∷ basic.Relint ∷ basic.Inhint ∷ basic.Extend ∷ basic.Ccs ∷ basic.Tcf ∷ basic.Das ∷
    basic.Lxch ∷ basic.Incr ∷ basic.Ads ∷ basic.Ca ∷ basic.Cs ∷ basic.Index ∷ basic.Resume ∷
    basic.Dxch ∷ basic.Ts ∷ basic.Xch ∷ basic.Ad ∷ basic.Mask ∷ []

unfoldable pub all_extracodes : List Extracode
all_extracodes =
    extra.Read ∷ extra.Write ∷ extra.Rand ∷ extra.Wand ∷ extra.Ror ∷ extra.Wor ∷ extra.Rxor ∷
    extra.Edrupt ∷ extra.Dv ∷ extra.Bzf ∷ extra.Msu ∷ extra.Qxch ∷ extra.Aug ∷ extra.Dim ∷
    extra.Dca ∷ extra.Dcs ∷ extra.Index ∷ extra.Su ∷ extra.Bzmf ∷ extra.Mp ∷ []
