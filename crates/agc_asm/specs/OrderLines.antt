-- The orders that the lines of a source write, and how the assembled rope and its listing show them.
use Rattle.agc_order.specs.declared.order.Basic.{Basic}
use Rattle.agc_encode.specs.Row.{meant, meant_operand}
use Rattle.agc_interpretive.specs.declared.pending.Pending.{Pending}
use Rattle.std.specs.Prelude.{◌≡◌, ℕ, ◌^◌, ◌<◌, Bool, true, false, ◌||◌, List, [], ◌∷◌, ◌++◌, codes}
use Rattle.std.specs.Prelude.{Option, Some, None, option_map, Result, Ok, Err, if◌then◌else◌}
use Rattle.agc_word.specs.Number.{Number, pattern_of}
use Rattle.agc_word.specs.Octal.{word_digits}
use Rattle.agc_order.specs.Order.{basic_of, extracode_of}
use Rattle.agc_order.specs.Row.{Row, basic_row, extracode_row}
use Rattle.agc_store.specs.Places.{fixed_fixed}
use Rattle.agc_store.specs.Memory.{fixed_at}
use Rattle.agc_word.specs.Text.{lines_of}
use Rattle.agc_listing.specs.Laws.{has_line}
use Rattle.agc_listing.specs.List.{is_extracode_at, listed_line, listed_place}
use Rattle.agc_listing.specs.Order.{operand_in, operand_text}
use Rattle.agc_listing.specs.Place.{place_text}
use Rattle.agc_listing.specs.declared.order.Operand.{Operand}
use Rattle.agc_vocabulary.specs.Mnemonic.{basic_named, extracode_named}
use Rattle.agc_vocabulary.specs.Name.{Naming}
use Rattle.agc_listing.specs.Text.{are_listed, parsed_by}
use Rattle.agc_vocabulary.specs.Body.{body_in, plain_line, spelled}
use Rattle.agc_encode.specs.Encode.{writes_order}
use Rattle.agc_encode.specs.Interpretive.{role_of}
use Rattle.agc_encode.specs.declared.role.Role.{Role}
use Rattle.agc_encode.specs.declared.role.Role.TheVariants as role
use Rattle.agc_vocabulary.specs.declared.source_fault.SourceFault.{SourceFault}
use Rattle.agc_vocabulary.specs.declared.source_fault.SourceFault.TheVariants as fault
use Rattle.agc_asm.specs.declared.fault.AssemblyFault.{AssemblyFault}
use Rattle.agc_listing.specs.declared.location.Location.{Location}
use Rattle.agc_listing.specs.declared.location.Location.TheVariants as location
use Rattle.agc_encode.specs.LocationCounter.{location_at, room_at}
use Rattle.agc_encode.specs.Operand.{operand_for}
use Rattle.agc_encode.specs.LineKind.{kind_of}
use Rattle.agc_asm.specs.Source.{first_state, assemble_line, names_in, stays_put}
use Rattle.agc_encode.specs.declared.location_counter.At.{At}
use Rattle.agc_encode.specs.declared.location_counter.At.TheVariants as at
use Rattle.agc_encode.specs.declared.location_counter.LocationCounter.{LocationCounter}
use Rattle.agc_encode.specs.declared.line_kind.LineKind.{LineKind}
use Rattle.agc_encode.specs.declared.line_kind.LineKind.TheVariants as kind
use Rattle.agc_asm.specs.declared.pass2.State.{State}

-- An order that a line writes: its place, the mnemonic as the line has it, but the order's own one if the line has
-- another name of it, and the order that this is with this operand, which for `TC 3` is RELINT: its mnemonic and its
-- operand's value; and whether an extracode is expected there. From `since` on, the lines before it are consecutive orders: that
-- is where the last line that moved to another place went, or the place behind the last data, or where the text began.
pub record OrderLine : Type 0 where
  pub place : ℕ
  pub since : ℕ
  pub extracode : Bool
  pub written : List ℕ
  pub mnemonic : List ℕ
  pub operand : Operand

-- the row of a mnemonic, as an extracode or as a basic order
abbrev pub row_named : Bool → List ℕ → Option Row
row_named true name = option_map extracode_row (extracode_named name)
row_named false name = option_map basic_row (basic_named name)

abbrev pub operand_read : Option Row → Naming → ℕ → List (List ℕ) → Result Operand SourceFault
operand_read (Some row) naming place words = operand_for row.takes naming place words
operand_read None naming place words = Err fault.UnknownOrder

-- the mnemonic of the order that one with an operand is
abbrev pub mnemonic_meant : Option Basic → List ℕ → Operand → List ℕ
mnemonic_meant (Some order) name given = (basic_row (meant order given)).mnemonic
mnemonic_meant None name given = name

abbrev pub operand_meant : Option Basic → Operand → Operand
operand_meant (Some order) given = meant_operand order given
operand_meant None given = given

-- only a basic order can be another one
abbrev pub basic_read : Bool → List ℕ → Option Basic
basic_read true name = None
basic_read false name = basic_named name

abbrev pub order_with : ℕ → ℕ → Bool → List ℕ → Result Operand SourceFault → List OrderLine
order_with since place extracode name (Err why) = []
order_with since place extracode name (Ok given) = record {
  place = place;
  since = since;
  extracode = extracode;
  written = name;
  mnemonic = mnemonic_meant (basic_read extracode name) name given;
  operand = operand_meant (basic_read extracode name) given;
} ∷ []

-- the order that words write at a place
abbrev pub order_at : Naming → ℕ → Bool → ℕ → List (List ℕ) → List OrderLine
order_at naming since extracode place [] = []
order_at naming since extracode place (word ∷ words) =
    order_with since place extracode word (operand_read (row_named extracode word) naming place words)

-- the words of a line that writes an order, and none of another line
abbrev pub order_words : List (List ℕ) → List (List ℕ)
order_words body = if writes_order body then spelled body else []

abbrev pub order_placed : Naming → ℕ → Bool → Result ℕ SourceFault → List (List ℕ) → List OrderLine
order_placed naming since extracode (Err why) words = []
order_placed naming since extracode (Ok place) words = order_at naming since extracode place words

-- lines of the interpretive language write no orders, and those of a listing neither
abbrev pub is_interpretive : Role → Bool
is_interpretive role.Basic = false
is_interpretive r = true

unfoldable pub is_other : Pending → List ℕ → Bool
is_other due line = is_interpretive (role_of due line) || are_listed (parsed_by line)

-- the order that a line writes, if it writes one
unfoldable pub order_of : Naming → ℕ → State → List ℕ → List OrderLine
order_of naming since state line =
    if is_other state.counter.due line
    then []
    else order_placed naming since state.leads (room_at state.counter state.counter.at 1) (order_words (body_in line))

-- where the next line goes; no word goes into erasable memory
abbrev pub place_of : Location → ℕ
place_of (location.Fixed place) = place
place_of (location.Erasable cell) = 0

abbrev pub kind_stays : Bool → LineKind → Bool
kind_stays order kind.Word = order
kind_stays order kind.Pair = false
kind_stays order s = stays_put s

abbrev pub shape_stays : Bool → Result LineKind SourceFault → Bool
shape_stays order (Ok s) = kind_stays order s
shape_stays order (Err why) = true

-- whether a line neither moves to another place nor writes data, as an interpretive one does
abbrev pub basic_stays : Naming → List ℕ → Role → Bool
basic_stays naming line role.Basic =
    are_listed (parsed_by line)
    || shape_stays (writes_order (body_in line)) (kind_of naming (spelled (body_in line)))
basic_stays naming line r = false

abbrev pub stays : Naming → Pending → List ℕ → Bool
stays naming due line = basic_stays naming line (role_of due line)

abbrev pub since_after : Naming → Pending → ℕ → List ℕ → LocationCounter → ℕ
since_after naming due since line counter =
    if stays naming due line then since else place_of (location_at counter counter.at)

-- the orders that lines write
unfoldable pub orders_from : Naming → ℕ → State → List (List ℕ) → List OrderLine
orders_from naming since state [] = []
orders_from naming since state (line ∷ lines) =
    elim (assemble_line naming state (plain_line line)) [
      | Ok step ↦ order_of naming since state (plain_line line)
          ++ orders_from naming (since_after naming state.counter.due since (plain_line line) step.state.counter) step.state lines
      | Err why ↦ []
    ]

abbrev pub orders_by : Result Naming AssemblyFault → List (List ℕ) → List OrderLine
orders_by (Ok naming) lines = orders_from naming fixed_fixed first_state lines
orders_by (Err why) lines = []

-- the orders that a source writes, in the order of its lines
unfoldable pub orders_in : List ℕ → List OrderLine
orders_in text = orders_by (names_in (lines_of text)) (lines_of text)

-- the mnemonic of a line that writes an order
abbrev pub mnemonic_in : List (List ℕ) → List (List ℕ)
mnemonic_in [] = []
mnemonic_in (word ∷ words) = word ∷ []

unfoldable pub mnemonic_of : Pending → List ℕ → List (List ℕ)
mnemonic_of due line = if is_other due line then [] else mnemonic_in (order_words (body_in line))

-- the mnemonics of lines in fixed memory; orders in erasable memory are not in the rope
abbrev pub mnemonic_at : Pending → At → List ℕ → List (List ℕ)
mnemonic_at due (at.Bank bank) line = mnemonic_of due line
mnemonic_at due (at.Cell cell) line = []

unfoldable pub mnemonics_from : Naming → State → List (List ℕ) → List (List ℕ)
mnemonics_from naming state [] = []
mnemonics_from naming state (line ∷ lines) =
    elim (assemble_line naming state (plain_line line)) [
      | Ok step ↦ mnemonic_at state.counter.due state.counter.at (plain_line line) ++ mnemonics_from naming step.state lines
      | Err why ↦ []
    ]

abbrev pub mnemonics_by : Result Naming AssemblyFault → List (List ℕ) → List (List ℕ)
mnemonics_by (Ok naming) lines = mnemonics_from naming first_state lines
mnemonics_by (Err why) lines = []

-- the mnemonics of a source, in the order of its lines
unfoldable pub mnemonics_in : List ℕ → List (List ℕ)
mnemonics_in text = mnemonics_by (names_in (lines_of text)) (lines_of text)

-- the row of the order that a word names
abbrev pub row_of : Bool → ℕ → Row
row_of true bits = extracode_row (extracode_of bits)
row_of false bits = basic_row (basic_of bits)

-- a word names the order of a line, with its operand
pub record Names (line : OrderLine) (bits : ℕ) : Type 0 where
  pub mnemonic : (row_of line.extracode bits).mnemonic ≡ line.mnemonic
  pub operand : operand_in (row_of line.extracode bits).takes bits ≡ line.operand

-- at the place of a line the rope has the word that names its order with its operand, which is the only such word
pub record HasOrder (words : List Number) (line : OrderLine) : Type 0 where
  pub named : Names line (pattern_of 15 (fixed_at line.place words))
  pub only : (bits : ℕ) → bits < 2 ^ 15 → Names line bits → bits ≡ pattern_of 15 (fixed_at line.place words)

-- the listing line of a place and a word, with the order and the operand of a source's line
abbrev pub line_with : OrderLine → Number → List ℕ
line_with line word =
    place_text (listed_place line.place)
    ++ codes " " ++ word_digits word
    ++ codes " " ++ (line.mnemonic ++ operand_text line.operand)
    ++ codes "\n"

-- whether a listing reads a word as its line was written, as an extracode or not
abbrev pub IsReadSo : List Number → OrderLine → Type 0
IsReadSo words line = is_extracode_at words line.place ≡ line.extracode

-- a listing of a rope shows the order of a line, if it reads it that way and the word is not +0
abbrev pub IsListed : List Number → OrderLine → Type 0
IsListed words line = IsReadSo words line → has_line words line.place ≡ true
    → listed_line None words line.place ≡ line_with line (fixed_at line.place words)

-- it reads it that way if it reads no extracode at the place from which on the lines are consecutive orders
abbrev pub IsReadAlong : List Number → OrderLine → Type 0
IsReadAlong words line = is_extracode_at words line.since ≡ false → IsReadSo words line
