-- The words of a source have fifteen bits.
use Rattle.std.specs.Prelude.{◌≡◌, ℕ, ◌+◌, ◌-◌, ◌*◌, ◌/◌, ◌%◌, ◌^◌, ◌<◌, Bool, true, false, List, [], ◌∷◌, codes, Option, Some, None, Result, Ok, Err, IfOk, IfSome}
use Rattle.std.proofs.Common.{arith}
use Rattle.std.proofs.lemmas.Bool.Decides.{nat_tests}
use Rattle.agc_word.specs.Number.{Number, number_from_pattern, pattern_of}
use Rattle.agc_word.specs.Numeral.{decimal_number, octal_number}
use Rattle.agc_order.specs.Row.{basic_row, extracode_row}
use Rattle.agc_order.specs.declared.order.Basic.{Basic}
use Rattle.agc_order.specs.declared.order.Extracode.{Extracode}
use Rattle.agc_listing.specs.declared.order.Operand.{Operand}
use Rattle.agc_listing.specs.Location.{bank_register, complete_address}
use Rattle.agc_vocabulary.specs.Mnemonic.{basic_named, directive_named, extracode_named}
use Rattle.agc_vocabulary.specs.Name.{Naming}
use Rattle.agc_listing.specs.Number.{begins_with_minus, octal_word, without_sign, word_of_pattern}
use Rattle.agc_encode.specs.Row.{as_word, basic_word, extracode_word, meant, meant_operand}
use Rattle.agc_listing.specs.Text.{only_of}
use Rattle.agc_vocabulary.specs.declared.source_fault.SourceFault.{SourceFault}
use Rattle.agc_vocabulary.specs.declared.mnemonic.Directive.{Directive}
use Rattle.agc_vocabulary.specs.declared.mnemonic.Directive.TheVariants as directive
use Rattle.agc_listing.specs.declared.number.Signed.{Signed}
use Rattle.agc_encode.specs.Encode.{channel_of, downlink_word, list_address, pair_for_fb, starred_bank_word, adres_word, any_address, bank_word, basic_with, bbcon_word, cadr_word, cell_in, complemented, complemented_pair, complemented_some, complemented_word, directive_meaning, ecadr_word, extracode_with, if_basic, if_extracode, offset_below_zero, lowered, major_mode, major_mode_in, operand_fault, number_word, octal_in, octal_pair_in, or_bad_number, order_by_offset, encode_order, pair_by, pair_by_word, encode_pair, pair_of_number, pair_of_octal, pair_of_place, pair_spelled, place_in, plain_meaning, unless_fault, verb_noun, verb_noun_in, word_by, encode_word}
use Rattle.agc_vocabulary.specs.Body.{alias_in, has_minus, spelled}
use Rattle.agc_vocabulary.specs.Numeral.{number_in}
use Rattle.agc_vocabulary.specs.declared.alias.Alias.{Alias}
use Rattle.agc_encode.specs.declared.encode.Banks.{Banks}
use Rattle.agc_listing.specs.declared.location.Location.{Location}
use Rattle.agc_listing.specs.List.{listed_address}
use Rattle.agc_encode.specs.Operand.{operand_for, value_of, location_for}
use Rattle.agc_encode.specs.declared.encode.Pair.{Pair}

abbrev pub Fits : Number → Type 0
Fits word = word.magnitude < 2 ^ 14

fits_pattern : (minus : Bool) (magnitude : ℕ) → magnitude < 2 ^ 14 → pattern_of 15 (record { minus = minus; magnitude = magnitude }) < 2 ^ 15
fits_pattern true magnitude h = omega arith
fits_pattern false magnitude h = omega arith

complemented_fits : (minus : Bool) (word : Number) → Fits word → Fits (complemented minus word)
complemented_fits true word h = h
complemented_fits false word h = h

abbrev pub BothFit : Pair → Type 0
BothFit pair = Fits pair.upper × Fits pair.lower

pattern_fits : (bits : ℕ) → Fits (number_from_pattern 15 bits)
pattern_fits bits = grind (arith, nat_tests)

signed_fits : (minus : Bool) (magnitude : ℕ) → magnitude < 2 ^ 14 → Fits (record { minus = minus; magnitude = magnitude })
signed_fits minus magnitude h = h

-- of orders
as_word_fits : (bits : Result ℕ SourceFault) → IfOk (as_word bits) Fits
as_word_fits (Ok bits) = pattern_fits bits
as_word_fits (Err why) = tt

basic_fits : (order : Basic) (given : Result Operand SourceFault) → IfOk (basic_with order given) Fits
basic_fits order (Ok given) = as_word_fits (basic_word (meant order given) (meant_operand order given))
basic_fits order (Err why) = tt

extracode_fits : (order : Extracode) (given : Result Operand SourceFault) → IfOk (extracode_with order given) Fits
extracode_fits order (Ok given) = as_word_fits (extracode_word order given)
extracode_fits order (Err why) = tt

if_basic_fits : (naming : Naming) (here : ℕ) (order : Option Basic) (word : List ℕ) (words : List (List ℕ)) → IfOk (if_basic naming here order word words) Fits
if_basic_fits naming here (Some order) word words = basic_fits order (operand_for (basic_row order).takes naming here words)
if_basic_fits naming here None word words = tt

if_extracode_fits : (naming : Naming) (here : ℕ) (order : Option Extracode) (word : List ℕ) (words : List (List ℕ)) → IfOk (if_extracode naming here order word words) Fits
if_extracode_fits naming here (Some order) word words = extracode_fits order (operand_for (extracode_row order).takes naming here words)
if_extracode_fits naming here None word words = tt

order_fits : (naming : Naming) (here : ℕ) (leads : Bool) (word : List ℕ) (words : List (List ℕ)) → IfOk (encode_order naming here leads word words) Fits
order_fits naming here true word words = if_extracode_fits naming here (extracode_named word) word words
order_fits naming here false word words = if_basic_fits naming here (basic_named word) word words

-- of directives
number_fits : (word : Option Number) → IfSome word Fits → IfOk (or_bad_number word) Fits
number_fits (Some word) h = h
number_fits None h = tt

octal_fits : (bits : Option ℕ) → IfSome (word_of_pattern bits) Fits
octal_fits (Some bits) = pattern_fits bits
octal_fits None = tt

some_fits : (minus : Bool) (word : Option Number) → IfSome word Fits → IfSome (complemented_some minus word) Fits
some_fits minus (Some word) h = complemented_fits minus word h
some_fits minus None h = tt

octal_in_fits : (word : Option (List ℕ)) → IfSome (octal_in word) Fits
unfolding octal_word
octal_in_fits (Some word) = some_fits (begins_with_minus word) (octal_word (without_sign word)) (octal_fits (octal_number 5 (without_sign word)))
octal_in_fits None = tt

decimal_fits : (n : Result Signed SourceFault) → IfOk (number_word n) Fits
decimal_fits (Ok n) = omega arith
decimal_fits (Err why) = tt

adres_fits : (place : Result Location SourceFault) → IfOk (adres_word place) Fits
adres_fits (Ok place) = pattern_fits (any_address place)
adres_fits (Err why) = tt

cadr_fits : (place : Result ℕ SourceFault) → IfOk (cadr_word place) Fits
cadr_fits (Ok place) = pattern_fits (complete_address place)
cadr_fits (Err why) = tt

ecadr_fits : (cell : Result ℕ SourceFault) → IfOk (ecadr_word cell) Fits
ecadr_fits (Ok cell) = pattern_fits cell
ecadr_fits (Err why) = tt

bbcon_fits : (banks : Banks) (place : Result ℕ SourceFault) → IfOk (bbcon_word banks place) Fits
bbcon_fits banks (Ok place) = pattern_fits (bank_word banks place)
bbcon_fits banks (Err why) = tt

verb_number : (n : Option ℕ) → IfOk (verb_noun n) Fits
verb_number (Some n) = omega arith
verb_number None = tt

verb_fits : (word : Option (List ℕ)) → IfOk (verb_noun_in word) Fits
verb_fits (Some word) = verb_number (decimal_number 4 word)
verb_fits None = tt

mode_number : (n : Option ℕ) → IfOk (major_mode n) Fits
mode_number (Some n) = omega arith
mode_number None = tt

mode_fits : (word : Option (List ℕ)) → IfOk (major_mode_in word) Fits
mode_fits (Some word) = mode_number (decimal_number 2 word)
mode_fits None = tt

downlink_fits : (code : ℕ) (address : Result ℕ SourceFault) → IfOk (downlink_word code address) Fits
downlink_fits code (Ok address) = pattern_fits (code + address)
downlink_fits code (Err why) = tt

starred_fits : (words : List (List ℕ)) → IfOk (starred_bank_word words) Fits
starred_fits [] = pattern_fits 0o66100
starred_fits (word ∷ words) = tt

directive_fits : (naming : Naming) (here : ℕ) (banks : Banks) (d : Directive) (words : List (List ℕ)) → IfOk (directive_meaning naming here banks d words) Fits
directive_fits naming here banks directive.SetLoc words = tt
directive_fits naming here banks directive.Bank words = tt
directive_fits naming here banks directive.Block words = tt
directive_fits naming here banks directive.Oct words = number_fits (octal_in (only_of words)) (octal_in_fits (only_of words))
directive_fits naming here banks directive.Octal words = number_fits (octal_in (only_of words)) (octal_in_fits (only_of words))
directive_fits naming here banks directive.Dec words = decimal_fits (number_in 14 false words)
directive_fits naming here banks directive.DecStarred words = decimal_fits (number_in 14 true words)
directive_fits naming here banks directive.PairOct words = tt
directive_fits naming here banks directive.PairDec words = tt
directive_fits naming here banks directive.PairDecStarred words = tt
directive_fits naming here banks directive.Adres words = adres_fits (location_for naming here words)
directive_fits naming here banks directive.Remadr words = adres_fits (location_for naming here words)
directive_fits naming here banks directive.Genadr words = adres_fits (location_for naming here words)
directive_fits naming here banks directive.Cadr words = cadr_fits (place_in (location_for naming here words))
directive_fits naming here banks directive.Fcadr words = cadr_fits (place_in (location_for naming here words))
directive_fits naming here banks directive.Ecadr words = ecadr_fits (cell_in (location_for naming here words))
directive_fits naming here banks directive.Bbcon words = bbcon_fits banks (place_in (location_for naming here words))
directive_fits naming here banks directive.PairCadr words = tt
directive_fits naming here banks directive.VerbNoun words = verb_fits (only_of words)
directive_fits naming here banks directive.MajorMode words = mode_fits (only_of words)
directive_fits naming here banks directive.Is words = tt
directive_fits naming here banks directive.Equals words = tt
directive_fits naming here banks directive.Erase words = tt
directive_fits naming here banks directive.Ebank words = tt
directive_fits naming here banks directive.Sbank words = tt
directive_fits naming here banks directive.Count words = tt
directive_fits naming here banks directive.CountStarred words = tt
directive_fits naming here banks directive.Memory words = tt
directive_fits naming here banks directive.BankSum words = tt
directive_fits naming here banks directive.PairFcadr words = tt
directive_fits naming here banks directive.NounVerb words = verb_fits (only_of words)
directive_fits naming here banks directive.BbconStarred words = starred_fits words
directive_fits naming here banks directive.Dnadr1 words = downlink_fits 0 (cell_in (location_for naming here words))
directive_fits naming here banks directive.Dnadr2 words = downlink_fits 0o4000 (cell_in (location_for naming here words))
directive_fits naming here banks directive.Dnadr3 words = downlink_fits 0o10000 (cell_in (location_for naming here words))
directive_fits naming here banks directive.Dnadr4 words = downlink_fits 0o14000 (cell_in (location_for naming here words))
directive_fits naming here banks directive.Dnadr5 words = downlink_fits 0o20000 (cell_in (location_for naming here words))
directive_fits naming here banks directive.Dnadr6 words = downlink_fits 0o24000 (cell_in (location_for naming here words))
directive_fits naming here banks directive.Dnptr words = downlink_fits 0o30000 (list_address (location_for naming here words))
directive_fits naming here banks directive.Dnchan words = downlink_fits 0o34000 (channel_of (value_of naming here words))
directive_fits naming here banks directive.IsMinus words = tt
directive_fits naming here banks directive.IsEcadr words = tt
directive_fits naming here banks directive.Subro words = tt
directive_fits naming here banks directive.Check words = tt

lowered_fits : (less : ℕ) (word : Result Number SourceFault) → IfOk (lowered less word) Fits
lowered_fits less (Ok word) = pattern_fits ((pattern_of 15 word + (2 ^ 17 - less)) % 2 ^ 15)
lowered_fits less (Err why) = tt

offset_fits : (naming : Naming) (here : ℕ) (leads : Bool) (less : Option ℕ) (word : List ℕ) (words : List (List ℕ)) → IfOk (order_by_offset naming here leads less word words) Fits
offset_fits naming here leads None word words = order_fits naming here leads word words
offset_fits naming here leads (Some less) word words = lowered_fits less (encode_order naming here leads word (codes "0" ∷ []))

by_fits : (naming : Naming) (here : ℕ) (leads : Bool) (banks : Banks) (d : Option Directive) (word : List ℕ) (words : List (List ℕ)) → IfOk (word_by naming here leads banks d word words) Fits
by_fits naming here leads banks (Some d) word words = directive_fits naming here banks d words
by_fits naming here leads banks None word words = offset_fits naming here leads (offset_below_zero words) word words

misfit_fits : (why : Option SourceFault) (word : Result Number SourceFault) → IfOk word Fits → IfOk (unless_fault why word) Fits
misfit_fits (Some why) word h = tt
misfit_fits None word h = h

plain_fits : (naming : Naming) (here : ℕ) (leads : Bool) (banks : Banks) (a : Option Alias) (words : List (List ℕ)) → IfOk (plain_meaning naming here leads banks a words) Fits
plain_fits naming here leads banks a [] = tt
plain_fits naming here leads banks a (word ∷ words) =
    misfit_fits (operand_fault a (value_of naming here words)) (word_by naming here leads banks (directive_named word) word words) (by_fits naming here leads banks (directive_named word) word words)

minus_fits : (minus : Bool) (word : Result Number SourceFault) → IfOk word Fits → IfOk (complemented_word minus word) Fits
minus_fits minus (Ok word) h = complemented_fits minus word h
minus_fits minus (Err why) h = tt

meaning_fits : (naming : Naming) (here : ℕ) (leads : Bool) (banks : Banks) (words : List (List ℕ)) → IfOk (encode_word naming here leads banks words) Fits
unfolding encode_word
meaning_fits naming here leads banks words =
    minus_fits (has_minus words) (plain_meaning naming here leads banks (alias_in words) (spelled words)) (plain_fits naming here leads banks (alias_in words) (spelled words))

pub word_fits : (naming : Naming) (here : ℕ) (leads : Bool) (banks : Banks) (words : List (List ℕ)) (word : Number) → encode_word naming here leads banks words ≡ Ok word → pattern_of 15 word < 2 ^ 15
word_fits naming here leads banks words word is =
    let all = meaning_fits naming here leads banks words in
    let fits : Fits word = rw is at all in
    fits_pattern word.minus word.magnitude fits

-- and both words of a pair
number_pair : (n : Result Signed SourceFault) → IfOk (pair_of_number n) BothFit
number_pair (Ok n) = (omega arith, omega arith)
number_pair (Err why) = tt

octal_pair : (bits : Option ℕ) → IfOk (pair_of_octal bits) BothFit
octal_pair (Some bits) = (pattern_fits (bits / 2 ^ 15), pattern_fits (bits % 2 ^ 15))
octal_pair None = tt

octal_pair_word : (word : Option (List ℕ)) → IfOk (octal_pair_in word) BothFit
octal_pair_word (Some word) = octal_pair (octal_number 10 word)
octal_pair_word None = tt

place_pair : (banks : Banks) (place : Result ℕ SourceFault) → IfOk (pair_of_place banks place) BothFit
place_pair banks (Ok place) = (pattern_fits (listed_address place), pattern_fits (bank_word banks place))
place_pair banks (Err why) = tt

fb_pair : (place : Result ℕ SourceFault) → IfOk (pair_for_fb place) BothFit
fb_pair (Ok place) = (pattern_fits (0o2000 * bank_register place), pattern_fits (listed_address place))
fb_pair (Err why) = tt

pair_word_fits : (naming : Naming) (here : ℕ) (banks : Banks) (d : Directive) (words : List (List ℕ)) → IfOk (pair_by_word naming here banks d words) BothFit
pair_word_fits naming here banks directive.SetLoc words = tt
pair_word_fits naming here banks directive.Bank words = tt
pair_word_fits naming here banks directive.Block words = tt
pair_word_fits naming here banks directive.Oct words = tt
pair_word_fits naming here banks directive.Octal words = tt
pair_word_fits naming here banks directive.Dec words = tt
pair_word_fits naming here banks directive.DecStarred words = tt
pair_word_fits naming here banks directive.PairOct words = octal_pair_word (only_of words)
pair_word_fits naming here banks directive.PairDec words = number_pair (number_in 28 false words)
pair_word_fits naming here banks directive.PairDecStarred words = number_pair (number_in 28 true words)
pair_word_fits naming here banks directive.Adres words = tt
pair_word_fits naming here banks directive.Remadr words = tt
pair_word_fits naming here banks directive.Genadr words = tt
pair_word_fits naming here banks directive.Cadr words = tt
pair_word_fits naming here banks directive.Fcadr words = tt
pair_word_fits naming here banks directive.Ecadr words = tt
pair_word_fits naming here banks directive.Bbcon words = tt
pair_word_fits naming here banks directive.PairCadr words = place_pair banks (place_in (location_for naming here words))
pair_word_fits naming here banks directive.VerbNoun words = tt
pair_word_fits naming here banks directive.MajorMode words = tt
pair_word_fits naming here banks directive.Is words = tt
pair_word_fits naming here banks directive.Equals words = tt
pair_word_fits naming here banks directive.Erase words = tt
pair_word_fits naming here banks directive.Ebank words = tt
pair_word_fits naming here banks directive.Sbank words = tt
pair_word_fits naming here banks directive.Count words = tt
pair_word_fits naming here banks directive.CountStarred words = tt
pair_word_fits naming here banks directive.Memory words = tt
pair_word_fits naming here banks directive.BankSum words = tt
pair_word_fits naming here banks directive.PairFcadr words = fb_pair (place_in (location_for naming here words))
pair_word_fits naming here banks directive.NounVerb words = tt
pair_word_fits naming here banks directive.BbconStarred words = tt
pair_word_fits naming here banks directive.Dnadr1 words = tt
pair_word_fits naming here banks directive.Dnadr2 words = tt
pair_word_fits naming here banks directive.Dnadr3 words = tt
pair_word_fits naming here banks directive.Dnadr4 words = tt
pair_word_fits naming here banks directive.Dnadr5 words = tt
pair_word_fits naming here banks directive.Dnadr6 words = tt
pair_word_fits naming here banks directive.Dnptr words = tt
pair_word_fits naming here banks directive.Dnchan words = tt
pair_word_fits naming here banks directive.IsMinus words = tt
pair_word_fits naming here banks directive.IsEcadr words = tt
pair_word_fits naming here banks directive.Subro words = tt
pair_word_fits naming here banks directive.Check words = tt

pair_by_fits : (naming : Naming) (here : ℕ) (banks : Banks) (d : Option Directive) (words : List (List ℕ)) → IfOk (pair_by naming here banks d words) BothFit
pair_by_fits naming here banks (Some d) words = pair_word_fits naming here banks d words
pair_by_fits naming here banks None words = tt

pair_spelled_fits : (naming : Naming) (here : ℕ) (banks : Banks) (words : List (List ℕ)) → IfOk (pair_spelled naming here banks words) BothFit
pair_spelled_fits naming here banks [] = tt
pair_spelled_fits naming here banks (word ∷ words) = pair_by_fits naming here banks (directive_named word) words

pair_minus_fits : (minus : Bool) (pair : Result Pair SourceFault) → IfOk pair BothFit → IfOk (complemented_pair minus pair) BothFit
pair_minus_fits minus (Ok pair) h = (complemented_fits minus pair.upper h.0, complemented_fits minus pair.lower h.1)
pair_minus_fits minus (Err why) h = tt

pair_all_fit : (naming : Naming) (here : ℕ) (banks : Banks) (words : List (List ℕ)) → IfOk (encode_pair naming here banks words) BothFit
unfolding encode_pair
pair_all_fit naming here banks words = pair_minus_fits (has_minus words) (pair_spelled naming here banks (spelled words)) (pair_spelled_fits naming here banks (spelled words))

pub pair_fits : (naming : Naming) (here : ℕ) (banks : Banks) (words : List (List ℕ)) (pair : Pair) → encode_pair naming here banks words ≡ Ok pair → (pattern_of 15 pair.upper < 2 ^ 15) × (pattern_of 15 pair.lower < 2 ^ 15)
pair_fits naming here banks words pair is =
    let all = pair_all_fit naming here banks words in
    let both : BothFit pair = rw is at all in
    (fits_pattern pair.upper.minus pair.upper.magnitude both.0, fits_pattern pair.lower.minus pair.lower.magnitude both.1)
