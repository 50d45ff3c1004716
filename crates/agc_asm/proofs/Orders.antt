-- The line of a word means the word, if it is read as it was written.
use Rattle.agc_encode.specs.Row.{basic_word, is_of_another}
use Rattle.std.specs.Prelude.{◌≡◌, ℕ, ◌+◌, ◌/◌, ◌%◌, ◌^◌, ◌<◌, ◌≤◌, ◌==◌, Bool, true, false, List, [], ◌∷◌, ◌++◌, codes, position, Some, None, Ok, Err}
use Rattle.std.specs.List.{list_all}
use Rattle.std.proofs.Common.{refl, arith, append-nil}
use Rattle.std.proofs.lemmas.Bool.Decides.{nat_tests}
use Rattle.agc_word.specs.Number.{Number, pattern_of}
use Rattle.agc_word.specs.Numeral.{number_of, octal_number}
use Rattle.agc_word.specs.Octal.{octal_digits}
use Rattle.agc_order.specs.Order.{basic_of, extracode_of}
use Rattle.agc_order.specs.Row.{basic_row, extracode_row}
use Rattle.agc_order.specs.declared.order.Basic.{Basic}
use Rattle.agc_order.specs.declared.order.Extracode.{Extracode}
use Rattle.agc_order.specs.declared.row.Takes.{Takes}
use Rattle.agc_order.specs.declared.row.Takes.TheVariants as takes
use Rattle.agc_listing.specs.Line.{octal_exactly}
use Rattle.agc_listing.specs.Order.{basic_text, extracode_text, operand_in, operand_text, order_text, row_text}
use Rattle.agc_listing.specs.declared.order.Operand.{Operand}
use Rattle.agc_listing.specs.declared.order.Operand.TheVariants as operand
use Rattle.agc_listing.proofs.LineBack.{narrow_back, pattern_fits}
use Rattle.agc_listing.proofs.Octals.{octal_back}
use Rattle.agc_listing.proofs.Prints.{both, digits_are_solid, digits_print, is_solid, place_passes, prints}
use Rattle.agc_encode.specs.Encode.{offset_below_zero, encode_word, writes_order}
use Rattle.agc_encode.specs.Operand.{as_channel, as_memory, located, operand_for, value_of}
use Rattle.agc_encode.specs.LineKind.{kind_of}
use Rattle.agc_encode.specs.Disassemble.{shows_order, order_or_digits}
use Rattle.agc_listing.specs.Location.{begins_with_e, location_named}
use Rattle.agc_listing.specs.declared.location.Location.TheVariants as location
use Rattle.agc_vocabulary.specs.declared.mnemonic.Directive.TheVariants as directive
use Rattle.agc_listing.specs.List.{listed_place}
use Rattle.agc_listing.specs.Place.{place_text}
use Rattle.agc_listing.proofs.OrderPrints.{order_prints}
use Rattle.agc_listing.proofs.PlaceBack.{place_back, place_is_no_comment, place_is_some}
use Rattle.agc_encode.specs.declared.line_kind.LineKind.TheVariants as kind
use Rattle.agc_vocabulary.specs.Mnemonic.{all_directives, directive_name, directive_named, is_order}
use Rattle.agc_vocabulary.specs.declared.source_fault.SourceFault.TheVariants as fault
use Rattle.agc_vocabulary.specs.Name.{Naming}
use Rattle.agc_listing.specs.Number.{begins_with_minus, is_sign, octal_word, offset_parsed, without_sign}
use Rattle.agc_listing.specs.List.{listed_address}
use Rattle.agc_vocabulary.specs.Body.{alias_in, alias_name, alias_named, all_aliases, is_hash_byte, spelled, uncommented, without_adornment}
use Rattle.agc_encode.specs.declared.encode.Banks.{Banks}
use Rattle.agc_listing.specs.Text.{are_listed, is_place_text, parsed_by}
use Rattle.agc_vocabulary.proofs.Cut.{IsWord, says_one, says_two}
use Rattle.agc_encode.proofs.Rows.{IsMnemonic, basic_by_name, basic_mnemonic, extracode_by_name, extracode_mnemonic, own_basic, own_extracode}

-- digits are a word, and neither a comment nor an offset
no_hash : (n : ℕ) → (48 + n % 8 == 0x23) ≡ false
no_hash n = grind (arith, nat_tests)

letter : (n : ℕ) → (48 + n % 8 == 0x45) ≡ false
letter n = grind (arith, nat_tests)

no_sign : (n : ℕ) → is_sign (48 + n % 8) ≡ false
no_sign n = grind (arith, nat_tests)

no_dash : (n : ℕ) → (48 + n % 8 == 0x2D) ≡ false
no_dash n = grind (arith, nat_tests)

three_digits : (n : ℕ) → IsWord (octal_digits 3 n)
unfolding octal_digits
three_digits n = record { solid = digits_are_solid 3 n; some = refl; parsed = no_hash (n / 8 / 8) }

four_digits : (n : ℕ) → IsWord (octal_digits 4 n)
unfolding octal_digits
four_digits n = record { solid = digits_are_solid 4 n; some = refl; parsed = no_hash (n / 8 / 8 / 8) }

pub five_digits : (n : ℕ) → IsWord (octal_digits 5 n)
unfolding octal_digits
five_digits n = record { solid = digits_are_solid 5 n; some = refl; parsed = no_hash (n / 8 / 8 / 8 / 8) }

no_distance-three : (n : ℕ) → offset_parsed (octal_digits 3 n) ≡ None
unfolding octal_digits offset_parsed
no_distance-three n = rw (no_sign (n / 8 / 8)) refl

no_comment-three : (n : ℕ) → position is_hash_byte (octal_digits 3 n) ≡ None
unfolding octal_digits
no_comment-three n = rw (no_hash (n / 8 / 8), no_hash (n / 8), no_hash n) refl

no_comment-four : (n : ℕ) → position is_hash_byte (octal_digits 4 n) ≡ None
unfolding octal_digits
no_comment-four n = rw (no_hash (n / 8 / 8 / 8), no_hash (n / 8 / 8), no_hash (n / 8), no_hash n) refl

no_comment-five : (n : ℕ) → position is_hash_byte (octal_digits 5 n) ≡ None
unfolding octal_digits
no_comment-five n = rw (no_hash (n / 8 / 8 / 8 / 8), no_hash (n / 8 / 8 / 8), no_hash (n / 8 / 8), no_hash (n / 8), no_hash n) refl

unsigned : (n : ℕ) → (begins_with_minus (octal_digits 5 n) ≡ false) × (without_sign (octal_digits 5 n) ≡ octal_digits 5 n)
unfolding octal_digits
unsigned n = (no_dash (n / 8 / 8 / 8 / 8), rw (no_sign (n / 8 / 8 / 8 / 8)) refl)

no_distance-four : (n : ℕ) → offset_parsed (octal_digits 4 n) ≡ None
unfolding octal_digits offset_parsed
no_distance-four n = rw (no_sign (n / 8 / 8 / 8)) refl

-- and read back as the number
longer : (width most n : ℕ) (text : List ℕ) → width ≤ most → number_of 8 width text ≡ Some n → number_of 8 most text ≡ Some n
unfolding number_of
longer width most n text h is = grind (arith, nat_tests)

exactly : (width n : ℕ) (text : List ℕ) → octal_exactly width text ≡ Some n → number_of 8 width text ≡ Some n
unfolding octal_exactly
exactly width n text is = grind (arith, nat_tests)

digits_back : (width most n : ℕ) → 0 < width → width ≤ most → n < 8 ^ width → octal_number most (octal_digits width n) ≡ Some n
digits_back width most n some room small =
    longer width most n (octal_digits width n) room (exactly width n (octal_digits width n) (octal_back width n some small))

-- the value of an operand's text
abbrev operand_words : Operand → List (List ℕ)
operand_words operand.Nothing = []
operand_words (operand.Address k) = octal_digits 4 k ∷ []
operand_words (operand.Channel h) = octal_digits 3 h ∷ []

address_back : (naming : Naming) (named : Bool) (here k : ℕ) → k < 0o10000 → as_memory named here (value_of naming here (octal_digits 4 k ∷ [])) ≡ Ok (operand.Address k)
address_back naming named here k h = rw (no_distance-four k, digits_back 4 6 k (omega arith) (omega arith) (omega arith)) (grind (arith, nat_tests))

channel_back : (naming : Naming) (here h : ℕ) → h < 0o1000 → as_channel (value_of naming here (octal_digits 3 h ∷ [])) ≡ Ok (operand.Channel h)
channel_back naming here h small = rw (no_distance-three h, digits_back 3 6 h (omega arith) (omega arith) (omega arith)) (grind (arith, nat_tests))

operand_back : (t : Takes) (bits : ℕ) (naming : Naming) (here : ℕ) → operand_for t naming here (operand_words (operand_in t bits)) ≡ Ok (operand_in t bits)
operand_back takes.Nothing bits naming here = refl
operand_back takes.Erasable bits naming here = address_back naming _ here (bits % 0o2000) (omega arith)
operand_back takes.ErasablePair bits naming here = address_back naming _ here ((bits % 0o2000 + 0o1777) % 0o2000) (omega arith)
operand_back takes.Fixed bits naming here = address_back naming _ here (bits % 0o10000) (omega arith)
operand_back takes.Memory bits naming here = address_back naming _ here (bits % 0o10000) (omega arith)
operand_back takes.MemoryPair bits naming here = address_back naming _ here ((bits % 0o10000 + 0o7777) % 0o10000) (omega arith)
operand_back takes.Channel bits naming here = channel_back naming here (bits % 0o1000) (omega arith)

-- what the line of an order means
order_says : (name : List ℕ) (o : Operand) → IsWord name → parsed_by (codes "        " ++ (name ++ operand_text o)) ≡ name ∷ operand_words o
order_says name operand.Nothing h = rw (append-nil name) (says_one name h)
order_says name (operand.Address k) h = says_two name (octal_digits 4 k) h (four_digits k)
order_says name (operand.Channel c) h = says_two name (octal_digits 3 c) h (three_digits c)

-- the words of a line before its comment
uncommented_one : (name : List ℕ) → position is_hash_byte name ≡ None → uncommented (name ∷ []) ≡ name ∷ []
unfolding uncommented
uncommented_one name h = rw h refl

uncommented_two : (name next : List ℕ) → position is_hash_byte name ≡ None → position is_hash_byte next ≡ None → uncommented (name ∷ next ∷ []) ≡ name ∷ next ∷ []
unfolding uncommented
uncommented_two name next h k = rw (h, k) refl

order_uncommented : (name : List ℕ) (o : Operand) → position is_hash_byte name ≡ None → uncommented (name ∷ operand_words o) ≡ name ∷ operand_words o
order_uncommented name operand.Nothing h = uncommented_one name h
order_uncommented name (operand.Address k) h = uncommented_two name (octal_digits 4 k) h (no_comment-four k)
order_uncommented name (operand.Channel c) h = uncommented_two name (octal_digits 3 c) h (no_comment-three c)

-- a line's own words are its operation and operand
abbrev pub IsPlain : List (List ℕ) → Type 0
IsPlain words = without_adornment (uncommented words) ≡ words

order_plain : (name : List ℕ) (o : Operand) → IsMnemonic name → IsPlain (name ∷ operand_words o)
order_plain name o m = rw (order_uncommented name o m.no_comment, m.no_adornment) refl

order_spelled : (name : List ℕ) (words : List (List ℕ)) → IsMnemonic name → spelled (name ∷ words) ≡ name ∷ words
unfolding spelled
order_spelled name words m = rw (m.plain, m.no_alias) refl

order_alias : (name : List ℕ) (words : List (List ℕ)) → IsMnemonic name → alias_in (name ∷ words) ≡ None
order_alias name words m = rw (m.plain, m.no_alias) refl

not_less : (o : Operand) → offset_below_zero (operand_words o) ≡ None
not_less operand.Nothing = refl
not_less (operand.Address k) = refl
not_less (operand.Channel c) = refl

order_writes : (name : List ℕ) (o : Operand) → IsMnemonic name → writes_order (name ∷ operand_words o) ≡ true
unfolding writes_order
order_writes name o m = rw (m.no_minus, order_spelled name (operand_words o) m, m.no_directive, not_less o) refl

-- what a line means that is read as a word
pub record Says (wanted order : Bool) (word : Number) (parsed : List (List ℕ)) : Type 0 where
  pub takes_up : (naming : Naming) → kind_of naming (spelled parsed) ≡ Ok kind.Word
  pub means : (naming : Naming) (here : ℕ) (banks : Banks) → encode_word naming here wanted banks parsed ≡ Ok word
  pub writes : writes_order parsed ≡ order
  pub plain : IsPlain parsed

-- an order with its word is no other order
meant_by : (b : Basic) (o : Operand) (bits : ℕ) (other : Bool) → is_of_another b o ≡ other → basic_word b o ≡ Ok bits → is_of_another b o ≡ false
unfolding basic_word
meant_by b o bits true e is = let wrong : basic_word b o ≡ Err fault.OtherOrder = rw e refl in absurd cc
meant_by b o bits false e is = e

own_meant : (b : Basic) (o : Operand) (bits : ℕ) → basic_word b o ≡ Ok bits → is_of_another b o ≡ false
own_meant b o bits is = meant_by b o bits (is_of_another b o) refl is

basic_line : (b : Basic) (word : Number) → word.magnitude < 2 ^ 14 → basic_of (pattern_of 15 word) ≡ b
    → Says false true word (parsed_by (codes "        " ++ row_text (basic_row b) (pattern_of 15 word)))
unfolding encode_word
basic_line b word narrow is =
    let p = pattern_of 15 word in
    let m = basic_mnemonic b in
    let o = operand_in (basic_row b).takes p in
    let own = own_basic b p (pattern_fits word narrow) is in
    let name = (basic_row b).mnemonic in
    let order : is_order name ≡ true = rw (basic_by_name b) refl in
    let spelt = order_spelled name (operand_words o) m in
    rw (order_says name o m.word)
    (record {
      takes_up = λ naming. rw (spelt, m.no_directive, order) refl;
      means = λ naming here banks.
          rw (m.no_minus, order_alias name (operand_words o) m, spelt, m.no_directive, not_less o, basic_by_name b, operand_back (basic_row b).takes p naming here, own_meant b o p own, own, narrow_back word narrow) refl;
      writes = order_writes name o m;
      plain = order_plain name o m;
    })

extracode_line : (e : Extracode) (word : Number) → word.magnitude < 2 ^ 14 → extracode_of (pattern_of 15 word) ≡ e
    → Says true true word (parsed_by (codes "        " ++ row_text (extracode_row e) (pattern_of 15 word)))
unfolding encode_word
extracode_line e word narrow is =
    let p = pattern_of 15 word in
    let m = extracode_mnemonic e in
    let o = operand_in (extracode_row e).takes p in
    let own = own_extracode e p (pattern_fits word narrow) is in
    let name = (extracode_row e).mnemonic in
    let order : is_order name ≡ true = rw (extracode_by_name e) (grind (arith, nat_tests)) in
    let spelt = order_spelled name (operand_words o) m in
    rw (order_says name o m.word)
    (record {
      takes_up = λ naming. rw (spelt, m.no_directive, order) refl;
      means = λ naming here banks.
          rw (m.no_minus, order_alias name (operand_words o) m, spelt, m.no_directive, not_less o, extracode_by_name e, operand_back (extracode_row e).takes p naming here, own, narrow_back word narrow) refl;
      writes = order_writes name o m;
      plain = order_plain name o m;
    })

octal_directive : directive_named (codes "OCT") ≡ Some directive.Oct
unfolding directive_named directive_name all_directives
octal_directive = refl

oct_spelled : (words : List (List ℕ)) → spelled (codes "OCT" ∷ words) ≡ codes "OCT" ∷ words
unfolding spelled alias_named alias_name all_aliases
oct_spelled words = refl

oct_alias : (words : List (List ℕ)) → alias_in (codes "OCT" ∷ words) ≡ None
unfolding alias_named alias_name all_aliases
oct_alias words = refl

oct_no_adornment : {words : List (List ℕ)} → without_adornment (codes "OCT" ∷ words) ≡ codes "OCT" ∷ words
unfolding offset_parsed
oct_no_adornment = refl

oct_plain : (p : ℕ) → IsPlain (codes "OCT" ∷ octal_digits 5 p ∷ [])
oct_plain p = rw (uncommented_two (codes "OCT") (octal_digits 5 p) refl (no_comment-five p)) oct_no_adornment

octal_line : (wanted : Bool) (word : Number) → word.magnitude < 2 ^ 14 → Says wanted false word (parsed_by (codes "        OCT " ++ octal_digits 5 (pattern_of 15 word)))
unfolding encode_word octal_word writes_order
octal_line wanted word narrow =
    let p = pattern_of 15 word in
    let oct : IsWord (codes "OCT") = record { solid = refl; some = refl; parsed = refl } in
    let digits = octal_digits 5 p in
    let cut : parsed_by (codes "        OCT " ++ digits) ≡ codes "OCT" ∷ digits ∷ [] = says_two (codes "OCT") digits oct (five_digits p) in
    rw cut
    (record {
      takes_up = λ naming. rw (oct_spelled (digits ∷ []), octal_directive) refl;
      means = λ naming here banks.
          rw (oct_alias (digits ∷ []), oct_spelled (digits ∷ []), octal_directive, (unsigned p).0, (unsigned p).1, digits_back 5 5 p (omega arith) (omega arith) (pattern_fits word narrow), narrow_back word narrow) refl;
      writes = rw (oct_spelled (digits ∷ []), octal_directive) refl;
      plain = oct_plain p;
    })

-- the line of a word, without its line feed
abbrev pub word_line : Bool → Bool → Number → List ℕ
word_line wanted extracode word = codes "        " ++ order_or_digits wanted extracode word

pub word_line_says : (wanted extracode : Bool) (word : Number) → word.magnitude < 2 ^ 14 → Says wanted (shows_order wanted extracode) word (parsed_by (word_line wanted extracode word))
unfolding basic_text extracode_text
word_line_says true true word narrow = extracode_line (extracode_of (pattern_of 15 word)) word narrow refl
word_line_says false false word narrow = basic_line (basic_of (pattern_of 15 word)) word narrow refl
word_line_says true false word narrow = octal_line true word narrow
word_line_says false true word narrow = octal_line false word narrow

pub word_line_prints : (wanted extracode : Bool) (word : Number) → list_all prints (word_line wanted extracode word) ≡ true
word_line_prints true true word = both prints (codes "        ") (order_text true word) refl (order_prints true word)
word_line_prints false false word = both prints (codes "        ") (order_text false word) refl (order_prints false word)
word_line_prints true false word = both prints (codes "        OCT ") (octal_digits 5 (pattern_of 15 word)) refl (digits_print 5 (pattern_of 15 word))
word_line_prints false true word = both prints (codes "        OCT ") (octal_digits 5 (pattern_of 15 word)) refl (digits_print 5 (pattern_of 15 word))

-- it is not a listing line
unlisted-row : (name : List ℕ) (o : Operand) → IsMnemonic name → are_listed (parsed_by (codes "        " ++ (name ++ operand_text o))) ≡ false
unlisted-row name o h = rw (order_says name o h.word, h.no_place) refl

no_place-oct : is_place_text (codes "OCT") ≡ false
unfolding is_place_text
no_place-oct = refl

unlisted-oct : (p : ℕ) → are_listed (parsed_by (codes "        OCT " ++ octal_digits 5 p)) ≡ false
unlisted-oct p =
    let oct : IsWord (codes "OCT") = record { solid = refl; some = refl; parsed = refl } in
    let cut : parsed_by (codes "        OCT " ++ octal_digits 5 p) ≡ codes "OCT" ∷ octal_digits 5 p ∷ [] = says_two (codes "OCT") (octal_digits 5 p) oct (five_digits p) in
    rw cut no_place-oct

pub word_line_unlisted : (wanted extracode : Bool) (word : Number) → are_listed (parsed_by (word_line wanted extracode word)) ≡ false
unfolding basic_text extracode_text
word_line_unlisted true true word =
    let p = pattern_of 15 word in
    unlisted-row (extracode_row (extracode_of p)).mnemonic (operand_in (extracode_row (extracode_of p)).takes p) (extracode_mnemonic (extracode_of p))
word_line_unlisted false false word =
    let p = pattern_of 15 word in
    unlisted-row (basic_row (basic_of p)).mnemonic (operand_in (basic_row (basic_of p)).takes p) (basic_mnemonic (basic_of p))
word_line_unlisted true false word = unlisted-oct (pattern_of 15 word)
word_line_unlisted false true word = unlisted-oct (pattern_of 15 word)

-- the SETLOC line of a place, without its line feed
abbrev pub place_line : ℕ → List ℕ
place_line place = codes "        SETLOC " ++ place_text (listed_place place)

no_e : (place : ℕ) → begins_with_e (place_text (listed_place place)) ≡ false
unfolding octal_digits
no_e place = letter (place / 0o2000 / 8)

not_alone : (place : ℕ) → octal_number 4 (place_text (listed_place place)) ≡ None
unfolding octal_digits number_of
not_alone place = refl

no_number : (place : ℕ) → octal_number 6 (place_text (listed_place place)) ≡ None
unfolding octal_digits number_of
no_number place = refl

no_comment-place : (place : ℕ) → position is_hash_byte (place_text (listed_place place)) ≡ None
unfolding octal_digits
no_comment-place place =
    let bank = place / 0o2000 in
    let address = listed_address place in
    rw (no_hash (bank / 8), no_hash bank, no_hash (address / 8 / 8 / 8), no_hash (address / 8 / 8), no_hash (address / 8), no_hash address) refl

location_back : (place : ℕ) → place < 0o110000 → location_named (place_text (listed_place place)) ≡ Some (location.Fixed place)
unfolding location_named
location_back place h = rw (no_e place, not_alone place, place_back place h) refl

place_word : (place : ℕ) → IsWord (place_text (listed_place place))
place_word place = record { solid = place_passes is_solid digits_are_solid refl place; some = place_is_some place; parsed = place_is_no_comment place }

goes_to : directive_named (codes "SETLOC") ≡ Some directive.SetLoc
unfolding directive_named directive_name all_directives
goes_to = refl

no_place-setloc : is_place_text (codes "SETLOC") ≡ false
unfolding is_place_text
no_place-setloc = refl

place_line_says : (place : ℕ) → parsed_by (place_line place) ≡ codes "SETLOC" ∷ place_text (listed_place place) ∷ []
place_line_says place =
    let setloc : IsWord (codes "SETLOC") = record { solid = refl; some = refl; parsed = refl } in
    says_two (codes "SETLOC") (place_text (listed_place place)) setloc (place_word place)

setloc_spelled : (words : List (List ℕ)) → spelled (codes "SETLOC" ∷ words) ≡ codes "SETLOC" ∷ words
unfolding spelled alias_named alias_name all_aliases
setloc_spelled words = refl

in_rope : (place : ℕ) → place < 0o110000 → located (Some (location.Fixed place)) ≡ Ok (location.Fixed place)
in_rope place h = grind (arith, nat_tests)

pub place_line_moves : (place : ℕ) → place < 0o110000 → (naming : Naming) → kind_of naming (spelled (parsed_by (place_line place))) ≡ Ok (kind.Moves (location.Fixed place))
place_line_moves place h naming =
    rw (place_line_says place, setloc_spelled (place_text (listed_place place) ∷ []), goes_to, no_number place, location_back place h, in_rope place h) refl

no_adornment-setloc : (words : List (List ℕ)) → without_adornment (codes "SETLOC" ∷ words) ≡ codes "SETLOC" ∷ words
unfolding offset_parsed
no_adornment-setloc words = refl

pub place_line_plain : (place : ℕ) → IsPlain (parsed_by (place_line place))
place_line_plain place =
    let text = place_text (listed_place place) in
    rw (place_line_says place, uncommented_two (codes "SETLOC") text refl (no_comment-place place)) (no_adornment-setloc (text ∷ []))

pub place_line_unlisted : (place : ℕ) → are_listed (parsed_by (place_line place)) ≡ false
place_line_unlisted place = rw (place_line_says place, no_place-setloc) refl

pub place_line_prints : (place : ℕ) → list_all prints (place_line place) ≡ true
place_line_prints place = both prints (codes "        SETLOC ") (place_text (listed_place place)) refl (place_passes prints digits_print refl place)
