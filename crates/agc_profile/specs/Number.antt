-- The numbers under which orders are counted.
use Rattle.std.specs.Prelude.{ℕ}
use Rattle.agc_order.specs.declared.order.Basic.{Basic}
use Rattle.agc_order.specs.declared.order.Basic.TheVariants as basic
use Rattle.agc_order.specs.declared.order.Extracode.{Extracode}
use Rattle.agc_order.specs.declared.order.Extracode.TheVariants as extra

-- the number of basic orders, extracodes and interrupts
abbrev pub basic_count : ℕ
basic_count = 19

abbrev pub extracode_count : ℕ
extracode_count = 20

abbrev pub rupt_count : ℕ
rupt_count = 10

-- the number of an order among the basic orders or the extracodes, in the sequence of their codes
abbrev pub basic_number : Basic → ℕ
basic_number basic.Tc = 0
basic_number basic.Relint = 1
basic_number basic.Inhint = 2
basic_number basic.Extend = 3
basic_number basic.Ccs = 4
basic_number basic.Tcf = 5
basic_number basic.Das = 6
basic_number basic.Lxch = 7
basic_number basic.Incr = 8
basic_number basic.Ads = 9
basic_number basic.Ca = 10
basic_number basic.Cs = 11
basic_number basic.Index = 12
basic_number basic.Resume = 13
basic_number basic.Dxch = 14
basic_number basic.Ts = 15
basic_number basic.Xch = 16
basic_number basic.Ad = 17
basic_number basic.Mask = 18

abbrev pub extracode_number : Extracode → ℕ
extracode_number extra.Read = 0
extracode_number extra.Write = 1
extracode_number extra.Rand = 2
extracode_number extra.Wand = 3
extracode_number extra.Ror = 4
extracode_number extra.Wor = 5
extracode_number extra.Rxor = 6
extracode_number extra.Edrupt = 7
extracode_number extra.Dv = 8
extracode_number extra.Bzf = 9
extracode_number extra.Msu = 10
extracode_number extra.Qxch = 11
extracode_number extra.Aug = 12
extracode_number extra.Dim = 13
extracode_number extra.Dca = 14
extracode_number extra.Dcs = 15
extracode_number extra.Index = 16
extracode_number extra.Su = 17
extracode_number extra.Bzmf = 18
extracode_number extra.Mp = 19
