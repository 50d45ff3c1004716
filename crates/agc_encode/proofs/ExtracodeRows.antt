-- The word of an extracode names it, with its operand, and no other word does.
use Rattle.std.specs.Prelude.{◌≡◌, ℕ, ◌<◌, ◌%◌, Ok, Err}
use Rattle.std.proofs.Common.{refl, arith}
use Rattle.std.proofs.lemmas.Bool.Decides.{nat_tests}
use Rattle.agc_order.specs.Order.{extracode_of, extracodes}
use Rattle.agc_order.specs.Row.{extracode_row}
use Rattle.agc_order.specs.declared.order.Extracode.{Extracode}
use Rattle.agc_order.specs.declared.order.Extracode.TheVariants as extra
use Rattle.agc_listing.specs.Order.{operand_in}
use Rattle.agc_listing.specs.declared.order.Operand.{Operand}
use Rattle.agc_encode.specs.Row.{extracode_word}
use Rattle.agc_vocabulary.specs.declared.source_fault.SourceFault.{SourceFault}
use Rattle.agc_encode.proofs.RowWords.{row_shows, words_of_row}

-- the word names the order
pub names_it : (order : Extracode) (given : Operand) (bits : ℕ) → extracode_word order given ≡ Ok bits → extracode_of bits ≡ order
unfolding extracode_of extracodes extracode_word
names_it extra.Read given bits is = grind (arith, nat_tests)
names_it extra.Write given bits is = grind (arith, nat_tests)
names_it extra.Rand given bits is = grind (arith, nat_tests)
names_it extra.Wand given bits is = grind (arith, nat_tests)
names_it extra.Ror given bits is = grind (arith, nat_tests)
names_it extra.Wor given bits is = grind (arith, nat_tests)
names_it extra.Rxor given bits is = grind (arith, nat_tests)
names_it extra.Edrupt given bits is = grind (arith, nat_tests)
names_it extra.Dv given bits is = grind (arith, nat_tests)
names_it extra.Bzf given bits is = grind (arith, nat_tests)
names_it extra.Msu given bits is = grind (arith, nat_tests)
names_it extra.Qxch given bits is = grind (arith, nat_tests)
names_it extra.Aug given bits is = grind (arith, nat_tests)
names_it extra.Dim given bits is = grind (arith, nat_tests)
names_it extra.Dca given bits is = grind (arith, nat_tests)
names_it extra.Dcs given bits is = grind (arith, nat_tests)
names_it extra.Index given bits is = grind (arith, nat_tests)
names_it extra.Su given bits is = grind (arith, nat_tests)
names_it extra.Bzmf given bits is = grind (arith, nat_tests)
names_it extra.Mp given bits is = grind (arith, nat_tests)

-- each row begins at a multiple of its number of words
row_begins : (order : Extracode) → (extracode_row order).first % words_of_row (extracode_row order).takes ≡ 0
row_begins extra.Read = refl
row_begins extra.Write = refl
row_begins extra.Rand = refl
row_begins extra.Wand = refl
row_begins extra.Ror = refl
row_begins extra.Wor = refl
row_begins extra.Rxor = refl
row_begins extra.Edrupt = refl
row_begins extra.Dv = refl
row_begins extra.Bzf = refl
row_begins extra.Msu = refl
row_begins extra.Qxch = refl
row_begins extra.Aug = refl
row_begins extra.Dim = refl
row_begins extra.Dca = refl
row_begins extra.Dcs = refl
row_begins extra.Index = refl
row_begins extra.Su = refl
row_begins extra.Bzmf = refl
row_begins extra.Mp = refl

-- and the operand
pub shows_it : (order : Extracode) (given : Operand) (bits : ℕ) → extracode_word order given ≡ Ok bits → operand_in (extracode_row order).takes bits ≡ given
unfolding extracode_word
shows_it order given bits is = row_shows (extracode_row order).first (extracode_row order).takes given bits (row_begins order) is

-- a word is that of its own order and operand
own_word : (bits : ℕ) → bits < 0o100000 → extracode_word (extracode_of bits) (operand_in (extracode_row (extracode_of bits)).takes bits) ≡ Ok bits
unfolding extracode_of extracodes extracode_word
own_word bits h = grind (arith, nat_tests)

own : (order : Extracode) (bits : ℕ) → bits < 0o100000 → extracode_of bits ≡ order → extracode_word order (operand_in (extracode_row order).takes bits) ≡ Ok bits
own order bits h is = rw is at (own_word bits h)

pub only : (order : Extracode) (given : Operand) (word bits : ℕ) → extracode_word order given ≡ Ok word → bits < 0o100000 → extracode_of bits ≡ order → operand_in (extracode_row order).takes bits ≡ given → word ≡ bits
only order given word bits is h named shown =
    let mine = rw shown at (own order bits h named) in
    cc

pub not_refused : (order : Extracode) (given : Operand) (why : SourceFault) (bits : ℕ) → extracode_word order given ≡ Err why → bits < 0o100000 → extracode_of bits ≡ order → operand_in (extracode_row order).takes bits ≡ given → ⊥
not_refused order given why bits is h named shown =
    let mine = rw shown at (own order bits h named) in
    cc
