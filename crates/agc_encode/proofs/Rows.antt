-- Each order's mnemonic is a word that begins an order's line, and names the order.
use Rattle.std.specs.Prelude.{◌≡◌, ℕ, ◌<◌, false, List, Some, None, Ok, position}
use Rattle.std.proofs.Common.{refl, arith}
use Rattle.std.proofs.lemmas.Bool.Decides.{nat_tests}
use Rattle.agc_order.specs.Order.{basic_of, basic_orders, extracode_of, extracodes}
use Rattle.agc_order.specs.Row.{all_basics, all_extracodes, basic_row, extracode_row}
use Rattle.agc_order.specs.declared.order.Basic.{Basic}
use Rattle.agc_order.specs.declared.order.Basic.TheVariants as basic
use Rattle.agc_order.specs.declared.order.Extracode.{Extracode}
use Rattle.agc_order.specs.declared.order.Extracode.TheVariants as extra
use Rattle.agc_listing.specs.Order.{operand_in}
use Rattle.agc_vocabulary.specs.Mnemonic.{all_directives, basic_named, directive_name, directive_named, extracode_named}
use Rattle.agc_encode.specs.Row.{basic_word, extracode_word}
use Rattle.agc_listing.specs.Number.{begins_with_minus, offset_parsed}
use Rattle.agc_listing.specs.Text.{is_place_text}
use Rattle.agc_vocabulary.specs.Body.{alias_name, alias_named, all_aliases, is_hash_byte, without_minus}
use Rattle.agc_vocabulary.proofs.Cut.{IsWord}

-- a word that is neither a place nor a directive
pub record IsMnemonic (name : List ℕ) : Type 0 where
  pub word : IsWord name
  pub no_place : is_place_text name ≡ false
  pub no_directive : directive_named name ≡ None
  pub no_comment : position is_hash_byte name ≡ None
  pub no_adornment : offset_parsed name ≡ None
  pub plain : without_minus name ≡ name
  pub no_minus : begins_with_minus name ≡ false
  pub no_alias : alias_named name ≡ None

pub basic_mnemonic : (b : Basic) → IsMnemonic (basic_row b).mnemonic
unfolding is_place_text directive_named directive_name all_directives offset_parsed alias_named alias_name all_aliases
basic_mnemonic basic.Tc = record { word = record { solid = refl; some = refl; parsed = refl }; no_place = refl; no_directive = refl; no_comment = refl; no_adornment = refl; plain = refl; no_minus = refl; no_alias = refl }
basic_mnemonic basic.Relint = record { word = record { solid = refl; some = refl; parsed = refl }; no_place = refl; no_directive = refl; no_comment = refl; no_adornment = refl; plain = refl; no_minus = refl; no_alias = refl }
basic_mnemonic basic.Inhint = record { word = record { solid = refl; some = refl; parsed = refl }; no_place = refl; no_directive = refl; no_comment = refl; no_adornment = refl; plain = refl; no_minus = refl; no_alias = refl }
basic_mnemonic basic.Extend = record { word = record { solid = refl; some = refl; parsed = refl }; no_place = refl; no_directive = refl; no_comment = refl; no_adornment = refl; plain = refl; no_minus = refl; no_alias = refl }
basic_mnemonic basic.Ccs = record { word = record { solid = refl; some = refl; parsed = refl }; no_place = refl; no_directive = refl; no_comment = refl; no_adornment = refl; plain = refl; no_minus = refl; no_alias = refl }
basic_mnemonic basic.Tcf = record { word = record { solid = refl; some = refl; parsed = refl }; no_place = refl; no_directive = refl; no_comment = refl; no_adornment = refl; plain = refl; no_minus = refl; no_alias = refl }
basic_mnemonic basic.Das = record { word = record { solid = refl; some = refl; parsed = refl }; no_place = refl; no_directive = refl; no_comment = refl; no_adornment = refl; plain = refl; no_minus = refl; no_alias = refl }
basic_mnemonic basic.Lxch = record { word = record { solid = refl; some = refl; parsed = refl }; no_place = refl; no_directive = refl; no_comment = refl; no_adornment = refl; plain = refl; no_minus = refl; no_alias = refl }
basic_mnemonic basic.Incr = record { word = record { solid = refl; some = refl; parsed = refl }; no_place = refl; no_directive = refl; no_comment = refl; no_adornment = refl; plain = refl; no_minus = refl; no_alias = refl }
basic_mnemonic basic.Ads = record { word = record { solid = refl; some = refl; parsed = refl }; no_place = refl; no_directive = refl; no_comment = refl; no_adornment = refl; plain = refl; no_minus = refl; no_alias = refl }
basic_mnemonic basic.Ca = record { word = record { solid = refl; some = refl; parsed = refl }; no_place = refl; no_directive = refl; no_comment = refl; no_adornment = refl; plain = refl; no_minus = refl; no_alias = refl }
basic_mnemonic basic.Cs = record { word = record { solid = refl; some = refl; parsed = refl }; no_place = refl; no_directive = refl; no_comment = refl; no_adornment = refl; plain = refl; no_minus = refl; no_alias = refl }
basic_mnemonic basic.Index = record { word = record { solid = refl; some = refl; parsed = refl }; no_place = refl; no_directive = refl; no_comment = refl; no_adornment = refl; plain = refl; no_minus = refl; no_alias = refl }
basic_mnemonic basic.Resume = record { word = record { solid = refl; some = refl; parsed = refl }; no_place = refl; no_directive = refl; no_comment = refl; no_adornment = refl; plain = refl; no_minus = refl; no_alias = refl }
basic_mnemonic basic.Dxch = record { word = record { solid = refl; some = refl; parsed = refl }; no_place = refl; no_directive = refl; no_comment = refl; no_adornment = refl; plain = refl; no_minus = refl; no_alias = refl }
basic_mnemonic basic.Ts = record { word = record { solid = refl; some = refl; parsed = refl }; no_place = refl; no_directive = refl; no_comment = refl; no_adornment = refl; plain = refl; no_minus = refl; no_alias = refl }
basic_mnemonic basic.Xch = record { word = record { solid = refl; some = refl; parsed = refl }; no_place = refl; no_directive = refl; no_comment = refl; no_adornment = refl; plain = refl; no_minus = refl; no_alias = refl }
basic_mnemonic basic.Ad = record { word = record { solid = refl; some = refl; parsed = refl }; no_place = refl; no_directive = refl; no_comment = refl; no_adornment = refl; plain = refl; no_minus = refl; no_alias = refl }
basic_mnemonic basic.Mask = record { word = record { solid = refl; some = refl; parsed = refl }; no_place = refl; no_directive = refl; no_comment = refl; no_adornment = refl; plain = refl; no_minus = refl; no_alias = refl }

pub extracode_mnemonic : (e : Extracode) → IsMnemonic (extracode_row e).mnemonic
unfolding is_place_text directive_named directive_name all_directives offset_parsed alias_named alias_name all_aliases
extracode_mnemonic extra.Read = record { word = record { solid = refl; some = refl; parsed = refl }; no_place = refl; no_directive = refl; no_comment = refl; no_adornment = refl; plain = refl; no_minus = refl; no_alias = refl }
extracode_mnemonic extra.Write = record { word = record { solid = refl; some = refl; parsed = refl }; no_place = refl; no_directive = refl; no_comment = refl; no_adornment = refl; plain = refl; no_minus = refl; no_alias = refl }
extracode_mnemonic extra.Rand = record { word = record { solid = refl; some = refl; parsed = refl }; no_place = refl; no_directive = refl; no_comment = refl; no_adornment = refl; plain = refl; no_minus = refl; no_alias = refl }
extracode_mnemonic extra.Wand = record { word = record { solid = refl; some = refl; parsed = refl }; no_place = refl; no_directive = refl; no_comment = refl; no_adornment = refl; plain = refl; no_minus = refl; no_alias = refl }
extracode_mnemonic extra.Ror = record { word = record { solid = refl; some = refl; parsed = refl }; no_place = refl; no_directive = refl; no_comment = refl; no_adornment = refl; plain = refl; no_minus = refl; no_alias = refl }
extracode_mnemonic extra.Wor = record { word = record { solid = refl; some = refl; parsed = refl }; no_place = refl; no_directive = refl; no_comment = refl; no_adornment = refl; plain = refl; no_minus = refl; no_alias = refl }
extracode_mnemonic extra.Rxor = record { word = record { solid = refl; some = refl; parsed = refl }; no_place = refl; no_directive = refl; no_comment = refl; no_adornment = refl; plain = refl; no_minus = refl; no_alias = refl }
extracode_mnemonic extra.Edrupt = record { word = record { solid = refl; some = refl; parsed = refl }; no_place = refl; no_directive = refl; no_comment = refl; no_adornment = refl; plain = refl; no_minus = refl; no_alias = refl }
extracode_mnemonic extra.Dv = record { word = record { solid = refl; some = refl; parsed = refl }; no_place = refl; no_directive = refl; no_comment = refl; no_adornment = refl; plain = refl; no_minus = refl; no_alias = refl }
extracode_mnemonic extra.Bzf = record { word = record { solid = refl; some = refl; parsed = refl }; no_place = refl; no_directive = refl; no_comment = refl; no_adornment = refl; plain = refl; no_minus = refl; no_alias = refl }
extracode_mnemonic extra.Msu = record { word = record { solid = refl; some = refl; parsed = refl }; no_place = refl; no_directive = refl; no_comment = refl; no_adornment = refl; plain = refl; no_minus = refl; no_alias = refl }
extracode_mnemonic extra.Qxch = record { word = record { solid = refl; some = refl; parsed = refl }; no_place = refl; no_directive = refl; no_comment = refl; no_adornment = refl; plain = refl; no_minus = refl; no_alias = refl }
extracode_mnemonic extra.Aug = record { word = record { solid = refl; some = refl; parsed = refl }; no_place = refl; no_directive = refl; no_comment = refl; no_adornment = refl; plain = refl; no_minus = refl; no_alias = refl }
extracode_mnemonic extra.Dim = record { word = record { solid = refl; some = refl; parsed = refl }; no_place = refl; no_directive = refl; no_comment = refl; no_adornment = refl; plain = refl; no_minus = refl; no_alias = refl }
extracode_mnemonic extra.Dca = record { word = record { solid = refl; some = refl; parsed = refl }; no_place = refl; no_directive = refl; no_comment = refl; no_adornment = refl; plain = refl; no_minus = refl; no_alias = refl }
extracode_mnemonic extra.Dcs = record { word = record { solid = refl; some = refl; parsed = refl }; no_place = refl; no_directive = refl; no_comment = refl; no_adornment = refl; plain = refl; no_minus = refl; no_alias = refl }
extracode_mnemonic extra.Index = record { word = record { solid = refl; some = refl; parsed = refl }; no_place = refl; no_directive = refl; no_comment = refl; no_adornment = refl; plain = refl; no_minus = refl; no_alias = refl }
extracode_mnemonic extra.Su = record { word = record { solid = refl; some = refl; parsed = refl }; no_place = refl; no_directive = refl; no_comment = refl; no_adornment = refl; plain = refl; no_minus = refl; no_alias = refl }
extracode_mnemonic extra.Bzmf = record { word = record { solid = refl; some = refl; parsed = refl }; no_place = refl; no_directive = refl; no_comment = refl; no_adornment = refl; plain = refl; no_minus = refl; no_alias = refl }
extracode_mnemonic extra.Mp = record { word = record { solid = refl; some = refl; parsed = refl }; no_place = refl; no_directive = refl; no_comment = refl; no_adornment = refl; plain = refl; no_minus = refl; no_alias = refl }

pub basic_by_name : (b : Basic) → basic_named (basic_row b).mnemonic ≡ Some b
unfolding basic_named all_basics
basic_by_name basic.Tc = refl
basic_by_name basic.Relint = refl
basic_by_name basic.Inhint = refl
basic_by_name basic.Extend = refl
basic_by_name basic.Ccs = refl
basic_by_name basic.Tcf = refl
basic_by_name basic.Das = refl
basic_by_name basic.Lxch = refl
basic_by_name basic.Incr = refl
basic_by_name basic.Ads = refl
basic_by_name basic.Ca = refl
basic_by_name basic.Cs = refl
basic_by_name basic.Index = refl
basic_by_name basic.Resume = refl
basic_by_name basic.Dxch = refl
basic_by_name basic.Ts = refl
basic_by_name basic.Xch = refl
basic_by_name basic.Ad = refl
basic_by_name basic.Mask = refl

pub extracode_by_name : (e : Extracode) → extracode_named (extracode_row e).mnemonic ≡ Some e
unfolding extracode_named all_extracodes
extracode_by_name extra.Read = refl
extracode_by_name extra.Write = refl
extracode_by_name extra.Rand = refl
extracode_by_name extra.Wand = refl
extracode_by_name extra.Ror = refl
extracode_by_name extra.Wor = refl
extracode_by_name extra.Rxor = refl
extracode_by_name extra.Edrupt = refl
extracode_by_name extra.Dv = refl
extracode_by_name extra.Bzf = refl
extracode_by_name extra.Msu = refl
extracode_by_name extra.Qxch = refl
extracode_by_name extra.Aug = refl
extracode_by_name extra.Dim = refl
extracode_by_name extra.Dca = refl
extracode_by_name extra.Dcs = refl
extracode_by_name extra.Index = refl
extracode_by_name extra.Su = refl
extracode_by_name extra.Bzmf = refl
extracode_by_name extra.Mp = refl

-- a word is that of its own order and operand
pub own_basic : (b : Basic) (bits : ℕ) → bits < 0o100000 → basic_of bits ≡ b → basic_word b (operand_in (basic_row b).takes bits) ≡ Ok bits
unfolding basic_of basic_orders basic_word
own_basic basic.Tc bits h is = grind (arith, nat_tests)
own_basic basic.Relint bits h is = grind (arith, nat_tests)
own_basic basic.Inhint bits h is = grind (arith, nat_tests)
own_basic basic.Extend bits h is = grind (arith, nat_tests)
own_basic basic.Ccs bits h is = grind (arith, nat_tests)
own_basic basic.Tcf bits h is = grind (arith, nat_tests)
own_basic basic.Das bits h is = grind (arith, nat_tests)
own_basic basic.Lxch bits h is = grind (arith, nat_tests)
own_basic basic.Incr bits h is = grind (arith, nat_tests)
own_basic basic.Ads bits h is = grind (arith, nat_tests)
own_basic basic.Ca bits h is = grind (arith, nat_tests)
own_basic basic.Cs bits h is = grind (arith, nat_tests)
own_basic basic.Index bits h is = grind (arith, nat_tests)
own_basic basic.Resume bits h is = grind (arith, nat_tests)
own_basic basic.Dxch bits h is = grind (arith, nat_tests)
own_basic basic.Ts bits h is = grind (arith, nat_tests)
own_basic basic.Xch bits h is = grind (arith, nat_tests)
own_basic basic.Ad bits h is = grind (arith, nat_tests)
own_basic basic.Mask bits h is = grind (arith, nat_tests)

pub own_extracode : (e : Extracode) (bits : ℕ) → bits < 0o100000 → extracode_of bits ≡ e → extracode_word e (operand_in (extracode_row e).takes bits) ≡ Ok bits
unfolding extracode_of extracodes extracode_word
own_extracode extra.Read bits h is = grind (arith, nat_tests)
own_extracode extra.Write bits h is = grind (arith, nat_tests)
own_extracode extra.Rand bits h is = grind (arith, nat_tests)
own_extracode extra.Wand bits h is = grind (arith, nat_tests)
own_extracode extra.Ror bits h is = grind (arith, nat_tests)
own_extracode extra.Wor bits h is = grind (arith, nat_tests)
own_extracode extra.Rxor bits h is = grind (arith, nat_tests)
own_extracode extra.Edrupt bits h is = grind (arith, nat_tests)
own_extracode extra.Dv bits h is = grind (arith, nat_tests)
own_extracode extra.Bzf bits h is = grind (arith, nat_tests)
own_extracode extra.Msu bits h is = grind (arith, nat_tests)
own_extracode extra.Qxch bits h is = grind (arith, nat_tests)
own_extracode extra.Aug bits h is = grind (arith, nat_tests)
own_extracode extra.Dim bits h is = grind (arith, nat_tests)
own_extracode extra.Dca bits h is = grind (arith, nat_tests)
own_extracode extra.Dcs bits h is = grind (arith, nat_tests)
own_extracode extra.Index bits h is = grind (arith, nat_tests)
own_extracode extra.Su bits h is = grind (arith, nat_tests)
own_extracode extra.Bzmf bits h is = grind (arith, nat_tests)
own_extracode extra.Mp bits h is = grind (arith, nat_tests)
