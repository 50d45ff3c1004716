-- The word of an order is the only one that names it with its operand, and a listing shows it that way.
use Rattle.std.specs.Prelude.{◌≡◌, ℕ, ◌^◌, ◌<◌, Bool, true, false, List, [], ◌∷◌, ◌++◌, find, Some, Ok}
use Rattle.std.specs.Str.{bytes_eq}
use Rattle.std.proofs.Common.{refl, sym, ◌∙◌, arith}
use Rattle.std.proofs.lemmas.Bool.Decides.{nat_tests}
use Rattle.std.proofs.lemmas.Slice.Eq.{bytes_eq-Decides}
use Rattle.agc_word.specs.Number.{Number, number_from_pattern, pattern_of}
use Rattle.agc_order.specs.Order.{basic_of, extracode_of}
use Rattle.agc_order.specs.Row.{all_extracodes, basic_row, extracode_row}
use Rattle.agc_order.specs.declared.order.Basic.{Basic}
use Rattle.agc_order.specs.declared.order.Extracode.{Extracode}
use Rattle.agc_store.specs.Memory.{fixed_at}
use Rattle.agc_listing.specs.List.{is_extracode_at, line_text, listed_line}
use Rattle.agc_listing.specs.Order.{basic_text, extracode_text, operand_in, operand_text, order_text}
use Rattle.agc_listing.specs.declared.order.Operand.{Operand}
use Rattle.agc_vocabulary.specs.Mnemonic.{basic_named, extracode_named}
use Rattle.agc_encode.specs.Row.{basic_word, extracode_word}
use Rattle.agc_asm.specs.OrderLines.{HasOrder, IsListed, IsReadAlong, Names, OrderLine, row_of}
use Rattle.agc_encode.proofs.BasicRows.{names_it as basic_names, shows_it as basic_shows}
use Rattle.agc_encode.proofs.ExtracodeRows.{names_it as extracode_names, shows_it as extracode_shows}
use Rattle.agc_encode.proofs.OwnWords.{basic_fits, extracode_fits}
use Rattle.agc_encode.proofs.Rows.{basic_by_name, extracode_by_name, own_basic, own_extracode}

-- an order by its mnemonic has this mnemonic
found_by : {X : Type 0} (test : X → Bool) (x found : X) (xs : List X) (passes : Bool) → test x ≡ passes → ((other : X) → find test xs ≡ Some other → test other ≡ true)
    → find test (x ∷ xs) ≡ Some found → test found ≡ true
found_by test x found xs true e rest is =
    let same : Some found ≡ Some x = sym is ∙ rw e refl in
    let is_x : found ≡ x = cc in
    rw is_x e
found_by test x found xs false e rest is = rest found (sym (rw e refl) ∙ is)

found_passes : {X : Type 0} (test : X → Bool) (xs : List X) (found : X) → find test xs ≡ Some found → test found ≡ true
found_passes test [] found is = absurd cc
found_passes test (x ∷ xs) found is = found_by test x found xs (test x) refl (λ other h. found_passes test xs other h) is

extracode_spelt : (name : List ℕ) (order : Extracode) → extracode_named name ≡ Some order → (extracode_row order).mnemonic ≡ name
unfolding extracode_named
extracode_spelt name order is =
    (bytes_eq-Decides (extracode_row order).mnemonic name).0 (found_passes (λ (e : Extracode). bytes_eq (extracode_row e).mnemonic name) all_extracodes order is)

-- the word of an order is the only one of its name and operand
basic_only : (name : List ℕ) (order : Basic) (given : Operand) (word bits : ℕ) → basic_named name ≡ Some order → basic_word order given ≡ Ok word → bits < 2 ^ 15
    → (basic_row (basic_of bits)).mnemonic ≡ name → operand_in (basic_row (basic_of bits)).takes bits ≡ given → bits ≡ word
basic_only name order given word bits named is small spelt shown =
    let by_name : basic_named name ≡ Some (basic_of bits) = rw spelt at (basic_by_name (basic_of bits)) in
    let same : basic_of bits ≡ order = cc (named, by_name) in
    let own = own_basic order bits small same in
    let operand : operand_in (basic_row order).takes bits ≡ given = rw same at shown in
    let mine : basic_word order given ≡ Ok bits = rw operand at own in
    cc

extracode_only : (name : List ℕ) (order : Extracode) (given : Operand) (word bits : ℕ) → extracode_named name ≡ Some order → extracode_word order given ≡ Ok word → bits < 2 ^ 15
    → (extracode_row (extracode_of bits)).mnemonic ≡ name → operand_in (extracode_row (extracode_of bits)).takes bits ≡ given → bits ≡ word
extracode_only name order given word bits named is small spelt shown =
    let by_name : extracode_named name ≡ Some (extracode_of bits) = rw spelt at (extracode_by_name (extracode_of bits)) in
    let same : extracode_of bits ≡ order = cc (named, by_name) in
    let own = own_extracode order bits small same in
    let operand : operand_in (extracode_row order).takes bits ≡ given = rw same at shown in
    let mine : extracode_word order given ≡ Ok bits = rw operand at own in
    cc

pattern_again : (bits : ℕ) → bits < 2 ^ 15 → pattern_of 15 (number_from_pattern 15 bits) ≡ bits
pattern_again bits h = grind (arith, nat_tests)

-- a listing shows a word that names the order of a line
order_parsed : (extracode : Bool) (word : Number) → order_text extracode word
    ≡ (row_of extracode (pattern_of 15 word)).mnemonic ++ operand_text (operand_in (row_of extracode (pattern_of 15 word)).takes (pattern_of 15 word))
unfolding basic_text extracode_text
order_parsed true word = refl
order_parsed false word = refl

is_listed : (words : List Number) (line : OrderLine) → Names line (pattern_of 15 (fixed_at line.place words)) → IsListed words line
unfolding listed_line line_text
is_listed words line n read has =
    let word = fixed_at line.place words in
    rw (has, read, order_parsed line.extracode word, n.mnemonic, n.operand) refl

-- all that the law claims for a line
pub record Shown (words : List Number) (line : OrderLine) : Type 0 where
  pub has : HasOrder words line
  pub listed : IsListed words line
  pub along : IsReadAlong words line

shown : (words : List Number) (line : OrderLine) → HasOrder words line → IsReadAlong words line → Shown words line
shown words line has along = record { has = has; listed = is_listed words line has.named; along = along }

pub basic_shown : (words : List Number) (since place : ℕ) (name : List ℕ) (order : Basic) (given : Operand) (bits : ℕ) (word : Number) → basic_word order given ≡ Ok bits
    → number_from_pattern 15 bits ≡ word → pattern_of 15 (fixed_at place words) ≡ pattern_of 15 word → (is_extracode_at words since ≡ false → is_extracode_at words place ≡ false)
    → Shown words (record { place = place; since = since; extracode = false; written = name; mnemonic = (basic_row order).mnemonic; operand = given })
basic_shown words since place name order given bits word is made same along =
    let own = (basic_row order).mnemonic in
    let named : basic_named own ≡ Some order = basic_by_name order in
    let fits = basic_fits order given bits is in
    let again : pattern_of 15 word ≡ bits = rw made at (pattern_again bits fits) in
    let there : pattern_of 15 (fixed_at place words) ≡ bits = same ∙ again in
    let names = basic_names order given bits is in
    let line : OrderLine = record { place = place; since = since; extracode = false; written = name; mnemonic = own; operand = given } in
    let all : Names line bits = record { mnemonic = rw names refl; operand = rw names (basic_shows order given bits is) } in
    shown words line
    (record {
      named = rw there all;
      only = λ other small read. basic_only own order given bits other named is small read.mnemonic read.operand ∙ sym there;
    })
    along

pub extracode_shown : (words : List Number) (since place : ℕ) (name : List ℕ) (order : Extracode) (given : Operand) (bits : ℕ) (word : Number) → extracode_named name ≡ Some order → extracode_word order given ≡ Ok bits
    → number_from_pattern 15 bits ≡ word → pattern_of 15 (fixed_at place words) ≡ pattern_of 15 word → (is_extracode_at words since ≡ false → is_extracode_at words place ≡ true)
    → Shown words (record { place = place; since = since; extracode = true; written = name; mnemonic = name; operand = given })
extracode_shown words since place name order given bits word named is made same along =
    let fits = extracode_fits order given bits is in
    let again : pattern_of 15 word ≡ bits = rw made at (pattern_again bits fits) in
    let there : pattern_of 15 (fixed_at place words) ≡ bits = same ∙ again in
    let names = extracode_names order given bits is in
    let spelt = extracode_spelt name order named in
    let line : OrderLine = record { place = place; since = since; extracode = true; written = name; mnemonic = name; operand = given } in
    let all : Names line bits = record { mnemonic = rw names spelt; operand = rw names (extracode_shows order given bits is) } in
    shown words line
    (record {
      named = rw there all;
      only = λ other small read. extracode_only name order given bits other named is small read.mnemonic read.operand ∙ sym there;
    })
    along
