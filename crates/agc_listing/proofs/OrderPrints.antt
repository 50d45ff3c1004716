-- All bytes of a printed order are printable.
use Rattle.std.specs.Prelude.{◌≡◌, ℕ, Bool, true, false, codes}
use Rattle.std.specs.List.{list_all}
use Rattle.std.proofs.Common.{refl}
use Rattle.agc_word.specs.Number.{Number, pattern_of}
use Rattle.agc_word.specs.Octal.{octal_digits}
use Rattle.agc_order.specs.Order.{basic_of, extracode_of}
use Rattle.agc_order.specs.Row.{Row, basic_row, extracode_row}
use Rattle.agc_order.specs.declared.order.Basic.{Basic}
use Rattle.agc_order.specs.declared.order.Basic.TheVariants as basic
use Rattle.agc_order.specs.declared.order.Extracode.{Extracode}
use Rattle.agc_order.specs.declared.order.Extracode.TheVariants as extra
use Rattle.agc_listing.specs.Order.{basic_text, extracode_text, operand_in, operand_text, order_text, row_text}
use Rattle.agc_listing.specs.declared.order.Operand.{Operand}
use Rattle.agc_listing.specs.declared.order.Operand.TheVariants as operand
use Rattle.agc_listing.proofs.Prints.{both, digits_print, prints}

operand_prints : (o : Operand) → list_all prints (operand_text o) ≡ true
operand_prints operand.Nothing = refl
operand_prints (operand.Address address) = both prints (codes " ") (octal_digits 4 address) refl (digits_print 4 address)
operand_prints (operand.Channel channel) = both prints (codes " ") (octal_digits 3 channel) refl (digits_print 3 channel)

basic_prints : (b : Basic) → list_all prints (basic_row b).mnemonic ≡ true
basic_prints basic.Tc = refl
basic_prints basic.Relint = refl
basic_prints basic.Inhint = refl
basic_prints basic.Extend = refl
basic_prints basic.Ccs = refl
basic_prints basic.Tcf = refl
basic_prints basic.Das = refl
basic_prints basic.Lxch = refl
basic_prints basic.Incr = refl
basic_prints basic.Ads = refl
basic_prints basic.Ca = refl
basic_prints basic.Cs = refl
basic_prints basic.Index = refl
basic_prints basic.Resume = refl
basic_prints basic.Dxch = refl
basic_prints basic.Ts = refl
basic_prints basic.Xch = refl
basic_prints basic.Ad = refl
basic_prints basic.Mask = refl

extracode_prints : (e : Extracode) → list_all prints (extracode_row e).mnemonic ≡ true
extracode_prints extra.Read = refl
extracode_prints extra.Write = refl
extracode_prints extra.Rand = refl
extracode_prints extra.Wand = refl
extracode_prints extra.Ror = refl
extracode_prints extra.Wor = refl
extracode_prints extra.Rxor = refl
extracode_prints extra.Edrupt = refl
extracode_prints extra.Dv = refl
extracode_prints extra.Bzf = refl
extracode_prints extra.Msu = refl
extracode_prints extra.Qxch = refl
extracode_prints extra.Aug = refl
extracode_prints extra.Dim = refl
extracode_prints extra.Dca = refl
extracode_prints extra.Dcs = refl
extracode_prints extra.Index = refl
extracode_prints extra.Su = refl
extracode_prints extra.Bzmf = refl
extracode_prints extra.Mp = refl

row_prints : (r : Row) (word : ℕ) → list_all prints r.mnemonic ≡ true → list_all prints (row_text r word) ≡ true
row_prints r word mnemonic =
    both prints r.mnemonic (operand_text (operand_in r.takes word)) mnemonic (operand_prints (operand_in r.takes word))

-- an order's text is printable
pub order_prints : (extracode : Bool) (word : Number) → list_all prints (order_text extracode word) ≡ true
unfolding basic_text extracode_text
order_prints true word =
    let p = pattern_of 15 word in
    row_prints (extracode_row (extracode_of p)) p (extracode_prints (extracode_of p))
order_prints false word =
    let p = pattern_of 15 word in
    row_prints (basic_row (basic_of p)) p (basic_prints (basic_of p))
