-- The order that a line writes, when the word of the line is at its place.
use Rattle.agc_encode.specs.UnknownOperation.{unknown_operation}
use Rattle.std.specs.Prelude.{◌≡◌, ℕ, Bool, true, false, not, ◌&&◌, All, List, [], ◌∷◌, map, Option, Some, None, is_none, option_map, Result, Ok, Err, if◌then◌else◌}
use Rattle.std.proofs.Common.{refl}
use Rattle.std.proofs.lemmas.List.Elements.{All-cons, All-nil}
use Rattle.agc_word.specs.Number.{Number, number_from_pattern, pattern_of}
use Rattle.agc_order.specs.Row.{basic_row, extracode_row}
use Rattle.agc_order.specs.declared.order.Basic.{Basic}
use Rattle.agc_order.specs.declared.order.Extracode.{Extracode}
use Rattle.agc_store.specs.Memory.{fixed_at}
use Rattle.agc_listing.specs.List.{is_extracode_at}
use Rattle.agc_listing.specs.declared.order.Operand.{Operand}
use Rattle.agc_vocabulary.specs.Mnemonic.{basic_named, directive_named, extracode_named, is_order}
use Rattle.agc_vocabulary.specs.Name.{Naming}
use Rattle.agc_encode.specs.Row.{as_word, basic_word, extracode_word, meant, meant_operand}
use Rattle.agc_vocabulary.specs.declared.source_fault.SourceFault.{SourceFault}
use Rattle.agc_vocabulary.specs.declared.mnemonic.Directive.{Directive}
use Rattle.agc_vocabulary.specs.Body.{alias_in, has_minus, spelled}
use Rattle.agc_encode.specs.Encode.{basic_with, complemented_word, extracode_with, if_basic, if_extracode, is_order_by, is_order_spelled, offset_below_zero, operand_fault, order_by_offset, encode_order, plain_meaning, unless_fault, word_by, encode_word, writes_order}
use Rattle.agc_vocabulary.specs.declared.alias.Alias.{Alias}
use Rattle.agc_encode.specs.declared.encode.Banks.{Banks}
use Rattle.agc_encode.specs.Operand.{operand_for, value_of}
use Rattle.agc_asm.specs.OrderLines.{OrderLine, mnemonic_in, operand_read, order_at, order_placed, order_with, order_words, row_named}
use Rattle.agc_encode.specs.LineKind.{kind_by, kind_of}
use Rattle.agc_encode.specs.declared.line_kind.LineKind.{LineKind}
use Rattle.agc_encode.specs.declared.line_kind.LineKind.TheVariants as kind
use Rattle.agc_asm.proofs.OrderShown.{Shown, basic_shown, extracode_shown}

-- the orders of a line, and their mnemonics
pub record AreShown (words : List Number) (orders : List OrderLine) (names : List (List ℕ)) : Type 0 where
  pub shown : All (Shown words) orders
  pub named : map (λ (line : OrderLine). line.written) orders ≡ names

pub none_shown : (words : List Number) → AreShown words [] []
none_shown words = record { shown = All-nil (Shown words); named = refl }

one_shown : (words : List Number) (line : OrderLine) → Shown words line → AreShown words (line ∷ []) (line.written ∷ [])
one_shown words line h = record { shown = All-cons (Shown words) line [] h (All-nil (Shown words)); named = refl }

-- a word at its place, in consecutive lines
pub record At (words : List Number) (since : ℕ) (leads : Bool) (place : ℕ) (word : Number) : Type 0 where
  pub same : pattern_of 15 (fixed_at place words) ≡ pattern_of 15 word
  pub along : is_extracode_at words since ≡ false → is_extracode_at words place ≡ leads

basic_bits : (words : List Number) (since place : ℕ) (name : List ℕ) (order : Basic) (given : Operand) (word : Number) (bits : Result ℕ SourceFault) → basic_named name ≡ Some order → At words since false place word
    → basic_word (meant order given) (meant_operand order given) ≡ bits → as_word bits ≡ Ok word → AreShown words (order_with since place false name (Ok given)) (name ∷ [])
basic_bits words since place name order given word (Err why) named h e is = absurd cc
basic_bits words since place name order given word (Ok bits) named h e is =
    let made : number_from_pattern 15 bits ≡ word = cc in
    let line : OrderLine = record {
      place = place;
      since = since;
      extracode = false;
      written = name;
      mnemonic = (basic_row (meant order given)).mnemonic;
      operand = meant_operand order given;
    } in
    rw named (one_shown words line (basic_shown words since place name (meant order given) (meant_operand order given) bits word e made h.same h.along))

basic_given : (words : List Number) (since place : ℕ) (name : List ℕ) (order : Basic) (given : Result Operand SourceFault) (word : Number) → basic_named name ≡ Some order → At words since false place word
    → basic_with order given ≡ Ok word → AreShown words (order_with since place false name given) (name ∷ [])
basic_given words since place name order (Err why) word named h is = absurd cc
basic_given words since place name order (Ok given) word named h is =
    basic_bits words since place name order given word (basic_word (meant order given) (meant_operand order given)) named h refl is

basic_case : (words : List Number) (naming : Naming) (since place : ℕ) (name : List ℕ) (rest : List (List ℕ)) (word : Number) (order : Option Basic) → basic_named name ≡ order → At words since false place word
    → if_basic naming place order name rest ≡ Ok word → AreShown words (order_with since place false name (operand_read (option_map basic_row order) naming place rest)) (name ∷ [])
basic_case words naming since place name rest word None named h is = absurd cc
basic_case words naming since place name rest word (Some order) named h is =
    basic_given words since place name order (operand_for (basic_row order).takes naming place rest) word named h is

extracode_bits : (words : List Number) (since place : ℕ) (name : List ℕ) (order : Extracode) (given : Operand) (word : Number) (bits : Result ℕ SourceFault) → extracode_named name ≡ Some order → At words since true place word
    → extracode_word order given ≡ bits → as_word bits ≡ Ok word → AreShown words (order_with since place true name (Ok given)) (name ∷ [])
extracode_bits words since place name order given word (Err why) named h e is = absurd cc
extracode_bits words since place name order given word (Ok bits) named h e is =
    let made : number_from_pattern 15 bits ≡ word = cc in
    one_shown words (record { place = place; since = since; extracode = true; written = name; mnemonic = name; operand = given })
    (extracode_shown words since place name order given bits word named e made h.same h.along)

extracode_given : (words : List Number) (since place : ℕ) (name : List ℕ) (order : Extracode) (given : Result Operand SourceFault) (word : Number) → extracode_named name ≡ Some order → At words since true place word
    → extracode_with order given ≡ Ok word → AreShown words (order_with since place true name given) (name ∷ [])
extracode_given words since place name order (Err why) word named h is = absurd cc
extracode_given words since place name order (Ok given) word named h is = extracode_bits words since place name order given word (extracode_word order given) named h refl is

extracode_case : (words : List Number) (naming : Naming) (since place : ℕ) (name : List ℕ) (rest : List (List ℕ)) (word : Number) (order : Option Extracode) → extracode_named name ≡ order → At words since true place word
    → if_extracode naming place order name rest ≡ Ok word → AreShown words (order_with since place true name (operand_read (option_map extracode_row order) naming place rest)) (name ∷ [])
extracode_case words naming since place name rest word None named h is = absurd cc
extracode_case words naming since place name rest word (Some order) named h is =
    extracode_given words since place name order (operand_for (extracode_row order).takes naming place rest) word named h is

order_shown : (words : List Number) (naming : Naming) (since place : ℕ) (leads : Bool) (name : List ℕ) (rest : List (List ℕ)) (word : Number) → At words since leads place word
    → encode_order naming place leads name rest ≡ Ok word → AreShown words (order_with since place leads name (operand_read (row_named leads name) naming place rest)) (name ∷ [])
order_shown words naming since place true name rest word h is = extracode_case words naming since place name rest word (extracode_named name) refl h is
order_shown words naming since place false name rest word h is = basic_case words naming since place name rest word (basic_named name) refl h is

-- a line of one word that writes an order
less_shown : (words : List Number) (naming : Naming) (since place : ℕ) (leads : Bool) (less : Option ℕ) (name : List ℕ) (rest : List (List ℕ)) (word : Number) → At words since leads place word
    → is_none less ≡ true → order_by_offset naming place leads less name rest ≡ Ok word → AreShown words (order_with since place leads name (operand_read (row_named leads name) naming place rest)) (name ∷ [])
less_shown words naming since place leads None name rest word h none is = order_shown words naming since place leads name rest word h is
less_shown words naming since place leads (Some less) name rest word h none is = absurd cc

by_shown : (words : List Number) (naming : Naming) (since place : ℕ) (leads : Bool) (banks : Banks) (d : Option Directive) (name : List ℕ) (rest : List (List ℕ)) (word : Number) → At words since leads place word
    → is_order_by d rest ≡ true → word_by naming place leads banks d name rest ≡ Ok word → AreShown words (order_at naming since leads place (name ∷ rest)) (mnemonic_in (name ∷ rest))
by_shown words naming since place leads banks (Some d) name rest word h order is = absurd cc
by_shown words naming since place leads banks None name rest word h order is =
    less_shown words naming since place leads (offset_below_zero rest) name rest word h order is

unless_is : (why : Option SourceFault) (meaning : Result Number SourceFault) (word : Number) → unless_fault why meaning ≡ Ok word → meaning ≡ Ok word
unless_is (Some why) meaning word is = absurd cc
unless_is None meaning word is = is

plain_shown : (words : List Number) (naming : Naming) (since place : ℕ) (leads : Bool) (banks : Banks) (a : Option Alias) (spelt : List (List ℕ)) (word : Number) → At words since leads place word
    → is_order_spelled spelt ≡ true → plain_meaning naming place leads banks a spelt ≡ Ok word → AreShown words (order_at naming since leads place spelt) (mnemonic_in spelt)
plain_shown words naming since place leads banks a [] word h order is = absurd cc
plain_shown words naming since place leads banks a (name ∷ rest) word h order is =
    by_shown words naming since place leads banks (directive_named name) name rest word h order
    (unless_is (operand_fault a (value_of naming place rest)) (word_by naming place leads banks (directive_named name) name rest) word is)

same_word : (meaning : Result Number SourceFault) (word : Number) → complemented_word false meaning ≡ Ok word → meaning ≡ Ok word
same_word (Err why) word is = absurd cc
same_word (Ok mine) word is = is

minus_shown : (words : List Number) (naming : Naming) (since place : ℕ) (leads : Bool) (banks : Banks) (body : List (List ℕ)) (word : Number) (minus order : Bool) → At words since leads place word
    → has_minus body ≡ minus → is_order_spelled (spelled body) ≡ order → complemented_word minus (plain_meaning naming place leads banks (alias_in body) (spelled body)) ≡ Ok word
    → AreShown words (order_at naming since leads place (if order && not minus then spelled body else [])) (mnemonic_in (if order && not minus then spelled body else []))
minus_shown words naming since place leads banks body word true true h e f is = none_shown words
minus_shown words naming since place leads banks body word true false h e f is = none_shown words
minus_shown words naming since place leads banks body word false false h e f is = none_shown words
minus_shown words naming since place leads banks body word false true h e f is =
    plain_shown words naming since place leads banks (alias_in body) (spelled body) word h f (same_word (plain_meaning naming place leads banks (alias_in body) (spelled body)) word is)

pub word_shown : (words : List Number) (naming : Naming) (since place : ℕ) (leads : Bool) (banks : Banks) (body : List (List ℕ)) (word : Number) → At words since leads place word
    → encode_word naming place leads banks body ≡ Ok word → AreShown words (order_at naming since leads place (order_words body)) (mnemonic_in (order_words body))
unfolding encode_word writes_order
word_shown words naming since place leads banks body word h is =
    minus_shown words naming since place leads banks body word (has_minus body) (is_order_spelled (spelled body)) h refl refl is

-- a line that is not one word writes no order
abbrev pub IsNoWord : LineKind → Type 0
IsNoWord kind.Word = ⊥
IsNoWord s = Unit {0}

no_order_shape : (s : LineKind) (order : Bool) (why : SourceFault) → IsNoWord s → (if order then Ok kind.Word else Err why) ≡ Ok s → ⊥
no_order_shape s true why h is =
    let same : s ≡ kind.Word = cc in
    rw same at h
no_order_shape s false why h is = cc

none_placed : (words : List Number) (naming : Naming) (since : ℕ) (leads : Bool) (room : Result ℕ SourceFault) → AreShown words (order_placed naming since leads room []) (mnemonic_in [])
none_placed words naming since leads (Err why) = none_shown words
none_placed words naming since leads (Ok place) = none_shown words

not_order_by : (naming : Naming) (s : LineKind) (d : Option Directive) (name : List ℕ) (rest : List (List ℕ)) → IsNoWord s → kind_by naming d name rest ≡ Ok s → is_order_by d rest ≡ false
not_order_by naming s (Some d) name rest h is = refl
not_order_by naming s None name rest h is = absurd (no_order_shape s (is_order name) (unknown_operation name) h is)

not_order : (naming : Naming) (s : LineKind) (spelt : List (List ℕ)) → IsNoWord s → kind_of naming spelt ≡ Ok s → is_order_spelled spelt ≡ false
not_order naming s [] h is = refl
not_order naming s (name ∷ rest) h is = not_order_by naming s (directive_named name) name rest h is

pub no_order : (words : List Number) (naming : Naming) (since : ℕ) (leads : Bool) (room : Result ℕ SourceFault) (s : LineKind) (body : List (List ℕ)) → IsNoWord s → kind_of naming (spelled body) ≡ Ok s
    → AreShown words (order_placed naming since leads room (order_words body)) (mnemonic_in (order_words body))
unfolding writes_order
no_order words naming since leads room s body h is =
    let none : is_order_spelled (spelled body) ≡ false = not_order naming s (spelled body) h is in
    rw none (none_placed words naming since leads room)
