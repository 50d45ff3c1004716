-- The word of a basic order names it, with its operand, and no other word does.
use Rattle.std.specs.Prelude.{◌≡◌, ◌≢◌, ℕ, ◌<◌, ◌%◌, Bool, true, false, Ok, Err}
use Rattle.std.proofs.Common.{refl, arith}
use Rattle.std.proofs.lemmas.Bool.Decides.{nat_tests}
use Rattle.agc_order.specs.Order.{basic_of, basic_orders}
use Rattle.agc_order.specs.Row.{basic_row}
use Rattle.agc_order.specs.declared.order.Basic.{Basic}
use Rattle.agc_order.specs.declared.order.Basic.TheVariants as basic
use Rattle.agc_listing.specs.Order.{operand_in}
use Rattle.agc_listing.specs.declared.order.Operand.{Operand}
use Rattle.agc_listing.specs.declared.order.Operand.TheVariants as operand
use Rattle.agc_encode.specs.Row.{basic_word, is_of_another, row_word}
use Rattle.agc_vocabulary.specs.declared.source_fault.SourceFault.{SourceFault}
use Rattle.agc_vocabulary.specs.declared.source_fault.SourceFault.TheVariants as fault
use Rattle.agc_encode.proofs.RowWords.{row_shows, words_of_row}

-- TC with an address that is not that of another order
tc_of : (k : ℕ) → k < 0o10000 → k ≢ 3 → k ≢ 4 → k ≢ 6 → basic_of k ≡ basic.Tc
unfolding basic_of basic_orders
tc_of k h three four six = grind (arith, nat_tests)

pub record IsTc (k bits : ℕ) : Type 0 where
  pub same : bits ≡ k
  pub range : k < 0o10000
  pub three : k ≢ 3
  pub four : k ≢ 4
  pub six : k ≢ 6

tc_word : (k bits : ℕ) → basic_word basic.Tc (operand.Address k) ≡ Ok bits → IsTc k bits
unfolding basic_word
tc_word k bits is = record {
  same = grind (arith, nat_tests);
  range = grind (arith, nat_tests);
  three = grind (arith, nat_tests);
  four = grind (arith, nat_tests);
  six = grind (arith, nat_tests);
}

-- the word names the order
pub names_it : (order : Basic) (given : Operand) (bits : ℕ) → basic_word order given ≡ Ok bits → basic_of bits ≡ order
unfolding basic_of basic_orders basic_word
names_it basic.Tc operand.Nothing bits is = grind (arith, nat_tests)
names_it basic.Tc (operand.Channel h) bits is = grind (arith, nat_tests)
names_it basic.Tc (operand.Address k) bits is =
    let t = tc_word k bits is in
    rw t.same (tc_of k t.range t.three t.four t.six)
names_it basic.Relint given bits is = grind (arith, nat_tests)
names_it basic.Inhint given bits is = grind (arith, nat_tests)
names_it basic.Extend given bits is = grind (arith, nat_tests)
names_it basic.Ccs given bits is = grind (arith, nat_tests)
names_it basic.Tcf given bits is = grind (arith, nat_tests)
names_it basic.Das given bits is = grind (arith, nat_tests)
names_it basic.Lxch given bits is = grind (arith, nat_tests)
names_it basic.Incr given bits is = grind (arith, nat_tests)
names_it basic.Ads given bits is = grind (arith, nat_tests)
names_it basic.Ca given bits is = grind (arith, nat_tests)
names_it basic.Cs given bits is = grind (arith, nat_tests)
names_it basic.Index given bits is = grind (arith, nat_tests)
names_it basic.Resume given bits is = grind (arith, nat_tests)
names_it basic.Dxch given bits is = grind (arith, nat_tests)
names_it basic.Ts given bits is = grind (arith, nat_tests)
names_it basic.Xch given bits is = grind (arith, nat_tests)
names_it basic.Ad given bits is = grind (arith, nat_tests)
names_it basic.Mask given bits is = grind (arith, nat_tests)

-- each row begins at a multiple of its number of words
row_begins : (order : Basic) → (basic_row order).first % words_of_row (basic_row order).takes ≡ 0
row_begins basic.Tc = refl
row_begins basic.Relint = refl
row_begins basic.Inhint = refl
row_begins basic.Extend = refl
row_begins basic.Ccs = refl
row_begins basic.Tcf = refl
row_begins basic.Das = refl
row_begins basic.Lxch = refl
row_begins basic.Incr = refl
row_begins basic.Ads = refl
row_begins basic.Ca = refl
row_begins basic.Cs = refl
row_begins basic.Index = refl
row_begins basic.Resume = refl
row_begins basic.Dxch = refl
row_begins basic.Ts = refl
row_begins basic.Xch = refl
row_begins basic.Ad = refl
row_begins basic.Mask = refl

-- the word of an order is that of its row
row_of : (order : Basic) (given : Operand) (bits : ℕ) (another : Bool) → is_of_another order given ≡ another → basic_word order given ≡ Ok bits → row_word (basic_row order).first (basic_row order).takes given ≡ Ok bits
unfolding basic_word
row_of order given bits true e is =
    let refused : basic_word order given ≡ Err fault.OtherOrder = rw e refl in
    absurd cc
row_of order given bits false e is = rw e at is

-- and the operand
pub shows_it : (order : Basic) (given : Operand) (bits : ℕ) → basic_word order given ≡ Ok bits → operand_in (basic_row order).takes bits ≡ given
shows_it order given bits is =
    row_shows (basic_row order).first (basic_row order).takes given bits (row_begins order) (row_of order given bits (is_of_another order given) refl is)

-- a word is that of its own order and operand
own_word : (bits : ℕ) → bits < 0o100000 → basic_word (basic_of bits) (operand_in (basic_row (basic_of bits)).takes bits) ≡ Ok bits
unfolding basic_of basic_orders basic_word
own_word bits h = grind (arith, nat_tests)

own : (order : Basic) (bits : ℕ) → bits < 0o100000 → basic_of bits ≡ order → basic_word order (operand_in (basic_row order).takes bits) ≡ Ok bits
own order bits h is = rw is at (own_word bits h)

pub only : (order : Basic) (given : Operand) (word bits : ℕ) → basic_word order given ≡ Ok word → bits < 0o100000 → basic_of bits ≡ order → operand_in (basic_row order).takes bits ≡ given → word ≡ bits
only order given word bits is h named shown =
    let mine = rw shown at (own order bits h named) in
    cc

pub not_refused : (order : Basic) (given : Operand) (why : SourceFault) (bits : ℕ) → basic_word order given ≡ Err why → bits < 0o100000 → basic_of bits ≡ order → operand_in (basic_row order).takes bits ≡ given → ⊥
not_refused order given why bits is h named shown =
    let mine = rw shown at (own order bits h named) in
    cc
