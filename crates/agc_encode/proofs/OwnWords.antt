-- The word of an order with its operand has fifteen bits.
use Rattle.std.specs.Prelude.{◌≡◌, ℕ, ◌<◌, ◌≤◌, Bool, true, false, Ok, Err, if◌then◌else◌}
use Rattle.std.proofs.Common.{arith}
use Rattle.std.proofs.lemmas.Bool.Decides.{nat_tests}
use Rattle.agc_order.specs.Row.{basic_row, extracode_row}
use Rattle.agc_order.specs.declared.order.Basic.{Basic}
use Rattle.agc_order.specs.declared.order.Basic.TheVariants as basic
use Rattle.agc_order.specs.declared.order.Extracode.{Extracode}
use Rattle.agc_order.specs.declared.order.Extracode.TheVariants as extra
use Rattle.agc_order.specs.declared.row.Takes.{Takes}
use Rattle.agc_order.specs.declared.row.Takes.TheVariants as takes
use Rattle.agc_listing.specs.declared.order.Operand.{Operand}
use Rattle.agc_encode.specs.Row.{basic_word, extracode_word, is_of_another, row_word}
use Rattle.agc_vocabulary.specs.declared.source_fault.SourceFault.TheVariants as fault

-- the word of a row
row_fits : (first : ℕ) (wanted : Takes) (given : Operand) (bits : ℕ) → first ≤ 0o70000 → row_word first wanted given ≡ Ok bits → bits < 0o100000
row_fits first takes.Nothing given bits h is = grind (arith, nat_tests)
row_fits first takes.Erasable given bits h is = grind (arith, nat_tests)
row_fits first takes.ErasablePair given bits h is = grind (arith, nat_tests)
row_fits first takes.Fixed given bits h is = grind (arith, nat_tests)
row_fits first takes.Memory given bits h is = grind (arith, nat_tests)
row_fits first takes.MemoryPair given bits h is = grind (arith, nat_tests)
row_fits first takes.Channel given bits h is = grind (arith, nat_tests)

basic_first : (order : Basic) → (basic_row order).first ≤ 0o70000
basic_first basic.Tc = omega arith
basic_first basic.Relint = omega arith
basic_first basic.Inhint = omega arith
basic_first basic.Extend = omega arith
basic_first basic.Ccs = omega arith
basic_first basic.Tcf = omega arith
basic_first basic.Das = omega arith
basic_first basic.Lxch = omega arith
basic_first basic.Incr = omega arith
basic_first basic.Ads = omega arith
basic_first basic.Ca = omega arith
basic_first basic.Cs = omega arith
basic_first basic.Index = omega arith
basic_first basic.Resume = omega arith
basic_first basic.Dxch = omega arith
basic_first basic.Ts = omega arith
basic_first basic.Xch = omega arith
basic_first basic.Ad = omega arith
basic_first basic.Mask = omega arith

extracode_first : (order : Extracode) → (extracode_row order).first ≤ 0o70000
extracode_first extra.Read = omega arith
extracode_first extra.Write = omega arith
extracode_first extra.Rand = omega arith
extracode_first extra.Wand = omega arith
extracode_first extra.Ror = omega arith
extracode_first extra.Wor = omega arith
extracode_first extra.Rxor = omega arith
extracode_first extra.Edrupt = omega arith
extracode_first extra.Dv = omega arith
extracode_first extra.Bzf = omega arith
extracode_first extra.Msu = omega arith
extracode_first extra.Qxch = omega arith
extracode_first extra.Aug = omega arith
extracode_first extra.Dim = omega arith
extracode_first extra.Dca = omega arith
extracode_first extra.Dcs = omega arith
extracode_first extra.Index = omega arith
extracode_first extra.Su = omega arith
extracode_first extra.Bzmf = omega arith
extracode_first extra.Mp = omega arith

basic_by : (order : Basic) (given : Operand) (bits : ℕ) (other : Bool)
    → (if other then Err fault.OtherOrder else row_word (basic_row order).first (basic_row order).takes given) ≡ Ok bits → bits < 0o100000
basic_by order given bits true is = absurd cc
basic_by order given bits false is = row_fits (basic_row order).first (basic_row order).takes given bits (basic_first order) is

pub basic_fits : (order : Basic) (given : Operand) (bits : ℕ) → basic_word order given ≡ Ok bits → bits < 0o100000
unfolding basic_word
basic_fits order given bits is = basic_by order given bits (is_of_another order given) is

pub extracode_fits : (order : Extracode) (given : Operand) (bits : ℕ) → extracode_word order given ≡ Ok bits → bits < 0o100000
unfolding extracode_word
extracode_fits order given bits is = row_fits (extracode_row order).first (extracode_row order).takes given bits (extracode_first order) is
