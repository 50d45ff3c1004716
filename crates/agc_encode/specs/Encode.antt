-- How a line is encoded into its words.
use Rattle.std.specs.Prelude.{ℕ, ◌+◌, ◌-◌, ◌*◌, ◌/◌, ◌%◌, ◌^◌, nat_lt, Bool, true, false, not, ◌&&◌, List, [], ◌∷◌, codes}
use Rattle.std.specs.Prelude.{Option, Some, None, Result, Ok, Err, is_some, is_none, if◌then◌else◌}
use Rattle.agc_word.specs.Number.{Number, number_from_pattern, pattern_of}
use Rattle.agc_word.specs.Numeral.{decimal_number, octal_number}
use Rattle.agc_order.specs.Row.{basic_row, extracode_row}
use Rattle.agc_order.specs.declared.order.Basic.{Basic}
use Rattle.agc_order.specs.declared.order.Extracode.{Extracode}
use Rattle.agc_store.specs.Places.{fixed_bank_size}
use Rattle.agc_listing.specs.List.{listed_address}
use Rattle.agc_listing.specs.declared.order.Operand.{Operand}
use Rattle.agc_listing.specs.Location.{bank_register, cell_address, complete_address}
use Rattle.agc_listing.specs.declared.location.Location.{Location}
use Rattle.agc_listing.specs.declared.location.Location.TheVariants as location
use Rattle.agc_vocabulary.specs.Body.{alias_in, has_minus, spelled}
use Rattle.agc_vocabulary.specs.Mnemonic.{basic_named, directive_named, extracode_named}
use Rattle.agc_vocabulary.specs.Name.{Naming}
use Rattle.agc_listing.specs.Number.{begins_with_minus, octal_word, offset_parsed, without_sign}
use Rattle.agc_vocabulary.specs.Numeral.{number_in}
use Rattle.agc_encode.specs.Operand.{channel_at, location_for, operand_for, value_of}
use Rattle.agc_encode.specs.Row.{as_word, basic_word, extracode_word, meant, meant_operand}
use Rattle.agc_listing.specs.Text.{only_of}
use Rattle.agc_vocabulary.specs.declared.alias.Alias.{Alias}
use Rattle.agc_vocabulary.specs.declared.alias.Alias.TheVariants as alias
use Rattle.agc_encode.specs.declared.encode.Banks.{Banks}
use Rattle.agc_vocabulary.specs.declared.source_fault.SourceFault.{SourceFault}
use Rattle.agc_vocabulary.specs.declared.source_fault.SourceFault.TheVariants as fault
use Rattle.agc_encode.specs.declared.encode.Pair.{Pair}
use Rattle.agc_vocabulary.specs.declared.mnemonic.Directive.{Directive}
use Rattle.agc_vocabulary.specs.declared.mnemonic.Directive.TheVariants as directive
use Rattle.agc_listing.specs.declared.number.Signed.{Signed}
use Rattle.agc_encode.specs.declared.operand.Value.{Value}
use Rattle.agc_encode.specs.declared.operand.Value.TheVariants as value

-- the word of an order with its operand, or the reason that there is none
abbrev pub basic_with : Basic → Result Operand SourceFault → Result Number SourceFault
basic_with order (Ok given) = as_word (basic_word (meant order given) (meant_operand order given))
basic_with order (Err why) = Err why

abbrev pub extracode_with : Extracode → Result Operand SourceFault → Result Number SourceFault
extracode_with order (Ok given) = as_word (extracode_word order given)
extracode_with order (Err why) = Err why

-- a basic order with the words after it
abbrev pub basic_meaning : Naming → ℕ → Basic → List (List ℕ) → Result Number SourceFault
basic_meaning naming here order words =
    basic_with order (operand_for (basic_row order).takes naming here words)

abbrev pub extracode_meaning : Naming → ℕ → Extracode → List (List ℕ) → Result Number SourceFault
extracode_meaning naming here order words =
    extracode_with order (operand_for (extracode_row order).takes naming here words)

abbrev pub if_basic : Naming → ℕ → Option Basic → List ℕ → List (List ℕ) → Result Number SourceFault
if_basic naming here (Some order) word words = basic_meaning naming here order words
if_basic naming here None word words =
    Err (if is_some (extracode_named word) then fault.ExtracodeAlone else fault.UnknownOrder)

abbrev pub if_extracode : Naming → ℕ → Option Extracode → List ℕ → List (List ℕ) → Result Number SourceFault
if_extracode naming here (Some order) word words = extracode_meaning naming here order words
if_extracode naming here None word words =
    Err (if is_some (basic_named word) then fault.BasicAfterExtend else fault.UnknownOrder)

-- the word of an order: of an extracode if one is expected, otherwise of a basic order
abbrev pub encode_order : Naming → ℕ → Bool → List ℕ → List (List ℕ) → Result Number SourceFault
encode_order naming here true word words =
    if_extracode naming here (extracode_named word) word words
encode_order naming here false word words = if_basic naming here (basic_named word) word words

abbrev pub or_bad_number : Option Number → Result Number SourceFault
or_bad_number (Some word) = Ok word
or_bad_number None = Err fault.BadNumber

-- the complement of a word
abbrev pub complemented : Bool → Number → Number
complemented minus word = if minus then record { minus = not word.minus; magnitude = word.magnitude } else word

-- up to five octal digits, with or without a sign: a minus complements the word
abbrev pub complemented_some : Bool → Option Number → Option Number
complemented_some minus (Some word) = Some (complemented minus word)
complemented_some minus None = None

abbrev pub octal_in : Option (List ℕ) → Option Number
octal_in (Some word) = complemented_some (begins_with_minus word) (octal_word (without_sign word))
octal_in None = None

-- a number of fourteen bits and a sign
abbrev pub number_word : Result Signed SourceFault → Result Number SourceFault
number_word (Ok n) = Ok (record { minus = n.minus; magnitude = n.magnitude % 2 ^ 14 })
number_word (Err why) = Err why

-- the address of a location, whatever its bank
abbrev pub any_address : Location → ℕ
any_address (location.Erasable cell) = cell_address cell
any_address (location.Fixed place) = listed_address place

abbrev pub adres_word : Result Location SourceFault → Result Number SourceFault
adres_word (Ok place) = Ok (number_from_pattern 15 (any_address place))
adres_word (Err why) = Err why

-- a place in fixed memory
abbrev pub place_in : Result Location SourceFault → Result ℕ SourceFault
place_in (Ok (location.Fixed place)) = Ok place
place_in (Ok (location.Erasable cell)) = Err fault.FixedWanted
place_in (Err why) = Err why

-- a cell
abbrev pub cell_in : Result Location SourceFault → Result ℕ SourceFault
cell_in (Ok (location.Erasable cell)) = Ok cell
cell_in (Ok (location.Fixed place)) = Err fault.ErasableWanted
cell_in (Err why) = Err why

abbrev pub cadr_word : Result ℕ SourceFault → Result Number SourceFault
cadr_word (Ok place) = Ok (number_from_pattern 15 (complete_address place))
cadr_word (Err why) = Err why

-- 400 octal times the bank, plus the offset
abbrev pub ecadr_word : Result ℕ SourceFault → Result Number SourceFault
ecadr_word (Ok cell) = Ok (number_from_pattern 15 cell)
ecadr_word (Err why) = Err why

-- A downlink word: a code and the address of a cell, of a list, or a channel. The codes are from memory.
abbrev pub downlink_word : ℕ → Result ℕ SourceFault → Result Number SourceFault
downlink_word code (Ok address) = Ok (number_from_pattern 15 (code + address))
downlink_word code (Err why) = Err why

-- of a list: an address below 4000
abbrev pub list_by : ℕ → Result ℕ SourceFault
list_by address = if nat_lt address 0o4000 then Ok address else Err fault.AnotherBank

abbrev pub list_address : Result Location SourceFault → Result ℕ SourceFault
list_address (Ok place) = list_by (any_address place)
list_address (Err why) = Err why

abbrev pub channel_of : Result Value SourceFault → Result ℕ SourceFault
channel_of (Ok v) = channel_at v
channel_of (Err why) = Err why

-- BBCON* takes no operand; the word is from memory
abbrev pub starred_bank_word : List (List ℕ) → Result Number SourceFault
starred_bank_word [] = Ok (number_from_pattern 15 0o66100)
starred_bank_word words = Err fault.BadOperand

-- the superbank that channel 7 holds for a place, in bits 7 to 5: 3 for banks 30 to 37, and 4 for 40 to 43
abbrev pub superbank_by : ℕ → ℕ → ℕ
superbank_by parsed bank =
    if nat_lt bank 0o30 then parsed else if nat_lt bank 0o40 then 3 else 4

abbrev pub superbank : ℕ → ℕ → ℕ
superbank parsed place = superbank_by parsed (place / fixed_bank_size)

-- A word for BB: the bank that FB holds for a place in bits 15 to 11, the superbank in bits 7 to 5, and the erasable
-- bank in bits 3 to 1.
abbrev pub bank_word : Banks → ℕ → ℕ
bank_word banks place =
    fixed_bank_size * bank_register place + 0o20 * superbank banks.superbank place + banks.erasable

abbrev pub bbcon_word : Banks → Result ℕ SourceFault → Result Number SourceFault
bbcon_word banks (Ok place) = Ok (number_from_pattern 15 (bank_word banks place))
bbcon_word banks (Err why) = Err why

-- a verb in bits 14 to 8, and a noun in bits 7 to 1
abbrev pub verb_noun : Option ℕ → Result Number SourceFault
verb_noun (Some n) = Ok (record { minus = false; magnitude = (0o200 * (n / 100) + n % 100) % 2 ^ 14 })
verb_noun None = Err fault.BadNumber

abbrev pub verb_noun_in : Option (List ℕ) → Result Number SourceFault
verb_noun_in (Some word) = verb_noun (decimal_number 4 word)
verb_noun_in None = Err fault.BadNumber

abbrev pub major_mode : Option ℕ → Result Number SourceFault
major_mode (Some n) = Ok (record { minus = false; magnitude = n % 2 ^ 14 })
major_mode None = Err fault.BadNumber

abbrev pub major_mode_in : Option (List ℕ) → Result Number SourceFault
major_mode_in (Some word) = major_mode (decimal_number 2 word)
major_mode_in None = Err fault.BadNumber

-- the word of a directive, with the words after it
abbrev pub directive_meaning : Naming → ℕ → Banks → Directive → List (List ℕ) → Result Number SourceFault
directive_meaning naming here banks directive.Oct words = or_bad_number (octal_in (only_of words))
directive_meaning naming here banks directive.Octal words = or_bad_number (octal_in (only_of words))
directive_meaning naming here banks directive.Dec words = number_word (number_in 14 false words)
directive_meaning naming here banks directive.DecStarred words = number_word (number_in 14 true words)
directive_meaning naming here banks directive.Adres words = adres_word (location_for naming here words)
directive_meaning naming here banks directive.Remadr words = adres_word (location_for naming here words)
directive_meaning naming here banks directive.Genadr words = adres_word (location_for naming here words)
directive_meaning naming here banks directive.Cadr words = cadr_word (place_in (location_for naming here words))
directive_meaning naming here banks directive.Fcadr words = cadr_word (place_in (location_for naming here words))
directive_meaning naming here banks directive.Ecadr words = ecadr_word (cell_in (location_for naming here words))
directive_meaning naming here banks directive.Bbcon words =
    bbcon_word banks (place_in (location_for naming here words))
directive_meaning naming here banks directive.VerbNoun words = verb_noun_in (only_of words)
directive_meaning naming here banks directive.MajorMode words = major_mode_in (only_of words)
directive_meaning naming here banks directive.NounVerb words = verb_noun_in (only_of words)
directive_meaning naming here banks directive.BbconStarred words = starred_bank_word words
directive_meaning naming here banks directive.Dnadr1 words = downlink_word 0 (cell_in (location_for naming here words))
directive_meaning naming here banks directive.Dnadr2 words =
    downlink_word 0o4000 (cell_in (location_for naming here words))
directive_meaning naming here banks directive.Dnadr3 words =
    downlink_word 0o10000 (cell_in (location_for naming here words))
directive_meaning naming here banks directive.Dnadr4 words =
    downlink_word 0o14000 (cell_in (location_for naming here words))
directive_meaning naming here banks directive.Dnadr5 words =
    downlink_word 0o20000 (cell_in (location_for naming here words))
directive_meaning naming here banks directive.Dnadr6 words =
    downlink_word 0o24000 (cell_in (location_for naming here words))
directive_meaning naming here banks directive.Dnptr words =
    downlink_word 0o30000 (list_address (location_for naming here words))
directive_meaning naming here banks directive.Dnchan words =
    downlink_word 0o34000 (channel_of (value_of naming here words))
directive_meaning naming here banks d words = Err fault.UnknownOrder

-- An offset that takes a number below zero is added to the order's word: `LXCH 0 -1` is one less than LXCH 0.
abbrev pub less_by : Option ℕ → Option Signed → Option ℕ
less_by (Some n) (Some by) =
    if by.minus && nat_lt n by.magnitude then Some (by.magnitude - n) else None
less_by n by = None

abbrev pub offset_below_zero : List (List ℕ) → Option ℕ
offset_below_zero (word ∷ by ∷ []) = less_by (octal_number 6 word) (offset_parsed by)
offset_below_zero words = None

abbrev pub lowered : ℕ → Result Number SourceFault → Result Number SourceFault
lowered less (Ok word) =
    Ok (number_from_pattern 15 ((pattern_of 15 word + (2 ^ 17 - less)) % 2 ^ 15))
lowered less (Err why) = Err why

abbrev pub order_by_offset : Naming → ℕ → Bool → Option ℕ → List ℕ → List (List ℕ) → Result Number SourceFault
order_by_offset naming here leads None word words = encode_order naming here leads word words
order_by_offset naming here leads (Some less) word words =
    lowered less (encode_order naming here leads word (codes "0" ∷ []))

abbrev pub word_by : Naming → ℕ → Bool → Banks → Option Directive → List ℕ → List (List ℕ) → Result Number SourceFault
word_by naming here leads banks (Some d) word words = directive_meaning naming here banks d words
word_by naming here leads banks None word words =
    order_by_offset naming here leads (offset_below_zero words) word words

-- CAF takes no name in erasable memory, and CAE none in fixed memory.
abbrev pub operand_fault : Option Alias → Result Value SourceFault → Option SourceFault
operand_fault (Some alias.Caf) (Ok (value.At (location.Erasable cell))) = Some fault.FixedWanted
operand_fault (Some alias.Cae) (Ok (value.At (location.Fixed place))) = Some fault.ErasableWanted
operand_fault a v = None

abbrev pub unless_fault : Option SourceFault → Result Number SourceFault → Result Number SourceFault
unless_fault (Some why) word = Err why
unless_fault None word = word

abbrev pub plain_meaning : Naming → ℕ → Bool → Banks → Option Alias → List (List ℕ) → Result Number SourceFault
plain_meaning naming here leads banks a [] = Err fault.UnknownOrder
plain_meaning naming here leads banks a (word ∷ words) =
    unless_fault (operand_fault a (value_of naming here words))
    (word_by naming here leads banks (directive_named word) word words)

abbrev pub complemented_word : Bool → Result Number SourceFault → Result Number SourceFault
complemented_word minus (Ok word) = Ok (complemented minus word)
complemented_word minus (Err why) = Err why

-- the word of a one-word line
unfoldable pub encode_word : Naming → ℕ → Bool → Banks → List (List ℕ) → Result Number SourceFault
encode_word naming here leads banks words =
    complemented_word (has_minus words)
    (plain_meaning naming here leads banks (alias_in words) (spelled words))

-- Whether a line writes an order, and not data: its operation is neither a directive nor complemented, and no offset
-- takes its operand below zero. Only an order can be EXTEND or INDEX, so that an extracode follows it.
abbrev pub is_order_by : Option Directive → List (List ℕ) → Bool
is_order_by (Some d) words = false
is_order_by None words = is_none (offset_below_zero words)

abbrev pub is_order_spelled : List (List ℕ) → Bool
is_order_spelled [] = false
is_order_spelled (word ∷ words) = is_order_by (directive_named word) words

unfoldable pub writes_order : List (List ℕ) → Bool
writes_order words = is_order_spelled (spelled words) && not (has_minus words)

-- whether a line's words hold the banks that EBANK= and SBANK= name
abbrev pub is_banked_by : Option Directive → Bool
is_banked_by (Some directive.Bbcon) = true
is_banked_by (Some directive.PairCadr) = true
is_banked_by d = false

abbrev pub is_banked_spelled : List (List ℕ) → Bool
is_banked_spelled [] = false
is_banked_spelled (word ∷ words) = is_banked_by (directive_named word)

unfoldable pub is_banked : List (List ℕ) → Bool
is_banked words = is_banked_spelled (spelled words)

-- An EBANK= right before such a line holds for this line alone: after it the bank before that EBANK= is back. Before
-- any other word it stays.
abbrev pub erasable_after : Bool → ℕ → Option ℕ → ℕ
erasable_after true erasable (Some before) = before
erasable_after banked erasable before = erasable

abbrev pub banks_after : Bool → Banks → Banks
banks_after banked banks = record {
  erasable = erasable_after banked banks.erasable banks.before;
  before = None;
  superbank = banks.superbank;
}

-- a number as two words: fourteen digits each, both with its sign
abbrev pub pair_of_number : Result Signed SourceFault → Result Pair SourceFault
pair_of_number (Ok n) =
    Ok (record {
      upper = record { minus = n.minus; magnitude = n.magnitude / 2 ^ 14 % 2 ^ 14 };
      lower = record { minus = n.minus; magnitude = n.magnitude % 2 ^ 14 };
    })
pair_of_number (Err why) = Err why

-- ten octal digits as two words
abbrev pub pair_of_octal : Option ℕ → Result Pair SourceFault
pair_of_octal (Some bits) =
    Ok (record {
      upper = number_from_pattern 15 (bits / 2 ^ 15);
      lower = number_from_pattern 15 (bits % 2 ^ 15);
    })
pair_of_octal None = Err fault.BadNumber

abbrev pub octal_pair_in : Option (List ℕ) → Result Pair SourceFault
octal_pair_in (Some word) = pair_of_octal (octal_number 10 word)
octal_pair_in None = Err fault.BadNumber

-- an address, and the word for BB
abbrev pub pair_of_place : Banks → Result ℕ SourceFault → Result Pair SourceFault
pair_of_place banks (Ok place) =
    Ok (record {
      upper = number_from_pattern 15 (listed_address place);
      lower = number_from_pattern 15 (bank_word banks place);
    })
pair_of_place banks (Err why) = Err why

-- the bank for FB, and an address; from memory
abbrev pub pair_for_fb : Result ℕ SourceFault → Result Pair SourceFault
pair_for_fb (Ok place) =
    Ok (record {
      upper = number_from_pattern 15 (fixed_bank_size * bank_register place);
      lower = number_from_pattern 15 (listed_address place);
    })
pair_for_fb (Err why) = Err why

abbrev pub pair_by_word : Naming → ℕ → Banks → Directive → List (List ℕ) → Result Pair SourceFault
pair_by_word naming here banks directive.PairDec words = pair_of_number (number_in 28 false words)
pair_by_word naming here banks directive.PairDecStarred words = pair_of_number (number_in 28 true words)
pair_by_word naming here banks directive.PairOct words = octal_pair_in (only_of words)
pair_by_word naming here banks directive.PairCadr words =
    pair_of_place banks (place_in (location_for naming here words))
pair_by_word naming here banks directive.PairFcadr words = pair_for_fb (place_in (location_for naming here words))
pair_by_word naming here banks d words = Err fault.BadNumber

abbrev pub pair_by : Naming → ℕ → Banks → Option Directive → List (List ℕ) → Result Pair SourceFault
pair_by naming here banks (Some d) words = pair_by_word naming here banks d words
pair_by naming here banks None words = Err fault.BadNumber

abbrev pub pair_spelled : Naming → ℕ → Banks → List (List ℕ) → Result Pair SourceFault
pair_spelled naming here banks [] = Err fault.BadNumber
pair_spelled naming here banks (word ∷ words) = pair_by naming here banks (directive_named word) words

abbrev pub complemented_pair : Bool → Result Pair SourceFault → Result Pair SourceFault
complemented_pair minus (Ok pair) =
    Ok (record { upper = complemented minus pair.upper; lower = complemented minus pair.lower })
complemented_pair minus (Err why) = Err why

-- the two words of a two-word line
unfoldable pub encode_pair : Naming → ℕ → Banks → List (List ℕ) → Result Pair SourceFault
encode_pair naming here banks words =
    complemented_pair (has_minus words) (pair_spelled naming here banks (spelled words))
