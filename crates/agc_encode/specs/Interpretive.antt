-- Lines of the interpretive language: which lines they are, the operands that are due behind them, and their words.
use Rattle.std.specs.Prelude.{ℕ, ◌+◌, ◌-◌, ◌*◌, ◌/◌, ◌==◌, nat_le, nat_lt, Bool, true, false, ◌&&◌, ◌||◌, List, [], ◌∷◌}
use Rattle.std.specs.Prelude.{Option, Some, None, is_none, is_some, Result, Ok, Err, if◌then◌else◌}
use Rattle.agc_interpretive.specs.Jump.{is_store}
use Rattle.agc_interpretive.specs.Operand.{index_behind, without_index}
use Rattle.agc_interpretive.specs.Operation.{operation_named}
use Rattle.agc_interpretive.specs.Pending.{behind, fault_at_end, operand_column, operand_line, pair_line, rest_of, store_line, takes_line}
use Rattle.agc_interpretive.specs.declared.due.Due.{Due}
use Rattle.agc_interpretive.specs.declared.due.Due.TheVariants as due
use Rattle.agc_interpretive.specs.declared.due.Value.{Value as Meant}
use Rattle.agc_interpretive.specs.declared.due.Value.TheVariants as meant
use Rattle.agc_interpretive.specs.declared.fault.Fault.{Fault}
use Rattle.agc_interpretive.specs.declared.fault.Fault.TheVariants as why
use Rattle.agc_interpretive.specs.declared.operand.Index.{Index}
use Rattle.agc_interpretive.specs.declared.operand.Place.TheVariants as place
use Rattle.agc_interpretive.specs.declared.operation.Operation.{Operation}
use Rattle.agc_interpretive.specs.declared.pending.Pending.{Pending}
use Rattle.agc_listing.specs.Location.{location_of_pseudo_address}
use Rattle.agc_listing.specs.Number.{offset_parsed}
use Rattle.agc_listing.specs.Text.{after_first, are_listed, body_of, label_of, parsed_by}
use Rattle.agc_listing.specs.declared.location.Location.{Location}
use Rattle.agc_listing.specs.declared.location.Location.TheVariants as location
use Rattle.agc_listing.specs.declared.number.Signed.{Signed}
use Rattle.agc_vocabulary.specs.Body.{body_in, is_include, spelled, uncommented}
use Rattle.agc_vocabulary.specs.Mnemonic.{directive_named, is_order}
use Rattle.agc_vocabulary.specs.Name.{Naming}
use Rattle.agc_encode.specs.Operand.{located, value_in, value_moved}
use Rattle.agc_vocabulary.specs.declared.source_fault.SourceFault.{SourceFault}
use Rattle.agc_vocabulary.specs.declared.source_fault.SourceFault.TheVariants as fault
use Rattle.agc_vocabulary.specs.declared.mnemonic.Directive.{Directive}
use Rattle.agc_encode.specs.declared.operand.Value.{Value}
use Rattle.agc_encode.specs.declared.operand.Value.TheVariants as value
use Rattle.agc_encode.specs.declared.role.Role.{Role}
use Rattle.agc_encode.specs.declared.role.Role.TheVariants as role

-- The words of a line behind its name. A sign and digits mean nothing before other words, and alone are an operand.
abbrev pub unadorned : List (List ℕ) → List (List ℕ)
unadorned [] = []
unadorned (word ∷ []) = word ∷ []
unadorned (word ∷ next ∷ words) = if is_some (offset_parsed word) then next ∷ words else word ∷ next ∷ words

abbrev pub spoken_by : Option (List ℕ) → List (List ℕ) → List (List ℕ)
spoken_by (Some label) words = words
spoken_by None words = unadorned words

unfoldable pub spoken_words : List ℕ → List (List ℕ)
spoken_words line = spoken_by (label_of line) (uncommented (body_of line))

-- The column at which they begin, counted from 0 with tabs of eight. Behind the operand's column it is not counted.
unfoldable pub column_from : Bool → ℕ → List ℕ → ℕ
column_from named at [] = at
column_from named at (b ∷ bs) =
    if nat_le operand_column at then at
    else (if b == 0x09 then column_from false ((at / 8 + 1) * 8) bs
    else (if b == 0x20 then column_from false (at + 1) bs
    else (if named then column_from true (at + 1) bs else at)))

unfoldable pub column_of : List ℕ → ℕ
column_of line = column_from true 0 line

-- whether a line's operation is an order or a directive
abbrev pub is_basic_word : Option Directive → List ℕ → Bool
is_basic_word (Some d) word = true
is_basic_word None word = is_order word

abbrev pub is_basic : List (List ℕ) → Bool
is_basic [] = false
is_basic (word ∷ words) = is_basic_word (directive_named word) word

-- What a line is: an operand if one is due, else an operation if it is no line of the basic language or of a listing. Any
-- other word at the operand's column is an operand too many.
abbrev pub role_named : ℕ → Option Operation → Role
role_named column (Some operation) = role.Operation operation
role_named column None = if nat_le operand_column column then role.Operand else role.Basic

abbrev pub role_by : Pending → ℕ → Bool → Bool → List (List ℕ) → Role
role_by p column basic listed [] = role.Basic
role_by p column basic listed (word ∷ words) =
    if takes_line p column word basic then role.Operand
    else (if basic || listed then role.Basic else role_named column (operation_named word))

unfoldable pub role_of : Pending → List ℕ → Role
role_of p line =
    if is_include line then role.Basic
    else role_by p (column_of line) (is_basic (spelled (body_in line))) (are_listed (parsed_by line)) (spoken_words line)

-- what is due behind an interpretive line
abbrev pub right_named : List (List ℕ) → Option Operation
right_named [] = None
right_named (word ∷ words) = operation_named word

abbrev pub due_behind : Pending → Role → List (List ℕ) → Pending
due_behind p role.Basic words = p
due_behind p role.Operand words = rest_of p
due_behind p (role.Operation o) words =
    if is_store o.form then behind o None else behind o (right_named (after_first words))

-- an interpretive fault of a source
abbrev pub stated : Result ℕ Fault → Result ℕ SourceFault
stated (Ok word) = Ok word
stated (Err w) = Err (fault.Interpretive w)

-- a number with its sign, of fifteen bits
abbrev pub sized : Bool → ℕ → Result Meant SourceFault
sized minus n =
    if nat_lt n 0o100000
    then Ok (meant.Number (record { minus = minus; places = n }))
    else Err (fault.Interpretive why.BadNumber)

abbrev pub at_location : Result Location SourceFault → Result Meant SourceFault
at_location (Ok (location.Erasable cell)) = Ok (meant.At (place.Erasable cell))
at_location (Ok (location.Fixed fixed)) = Ok (meant.At (place.Fixed fixed))
at_location (Err w) = Err w

-- Numbers from 10000 on are places, as listings count all memory, but not where a constant is due.
abbrev pub meaning : Bool → Result Value SourceFault → Result Meant SourceFault
meaning constant (Ok (value.Number n)) =
    if constant || nat_lt n 0o10000 then sized false n else at_location (located (location_of_pseudo_address n))
meaning constant (Ok (value.At given)) = at_location (located (Some given))
meaning constant (Err w) = Err w

-- a sign and digits alone are a number
abbrev pub alone : Bool → Option Signed → Naming → List ℕ → Result Meant SourceFault
alone constant (Some by) naming word = sized by.minus by.magnitude
alone constant None naming word = meaning constant (value_in naming word)

-- an offset may take a number below 0
abbrev pub beside : Bool → Result Value SourceFault → Option Signed → Result Meant SourceFault
beside constant (Ok (value.Number n)) (Some by) =
    if by.minus && nat_lt n by.magnitude
    then sized true (by.magnitude - n)
    else meaning constant (value_moved (value.Number n) by)
beside constant (Ok (value.At given)) (Some by) = meaning constant (value_moved (value.At given) by)
beside constant (Ok v) None = Err fault.BadOperand
beside constant (Err w) by = Err w

-- the operand that words write, with the index behind the last one
abbrev pub with_index : Index → Result Meant SourceFault → Result (Meant × Index) SourceFault
with_index i (Ok v) = Ok (v, i)
with_index i (Err w) = Err w

abbrev pub operand_in : Bool → Naming → List (List ℕ) → Result (Meant × Index) SourceFault
operand_in constant naming [] = Err fault.BadOperand
operand_in constant naming (word ∷ []) =
    with_index (index_behind word) (alone constant (offset_parsed (without_index word)) naming (without_index word))
operand_in constant naming (word ∷ by ∷ []) =
    with_index (index_behind by) (beside constant (value_in naming word) (offset_parsed (without_index by)))
operand_in constant naming (word ∷ by ∷ more ∷ words) = Err fault.BadOperand

abbrev pub is_constant : Option Due → Bool
is_constant (Some due.Constant) = true
is_constant other = false

-- an operand that is due, in code at a place
abbrev pub operand_meaning : Pending → ℕ → Result (Meant × Index) SourceFault → Result ℕ SourceFault
operand_meaning p here (Ok given) = stated (operand_line p here given.0 given.1)
operand_meaning p here (Err w) = Err w

-- a store with its cell
abbrev pub store_meaning : Pending → Operation → Result (Meant × Index) SourceFault → Result ℕ SourceFault
store_meaning p o (Ok given) = stated (store_line p o given.0 given.1)
store_meaning p o (Err w) = Err w

-- an operation, alone or with another one
abbrev pub with_right : Operation → Option Operation → Result ℕ SourceFault
with_right o (Some right) = stated (pair_line o (Some right))
with_right o None = Err (fault.Interpretive why.BadPair)

abbrev pub pair_meaning : Operation → List (List ℕ) → Result ℕ SourceFault
pair_meaning o [] = stated (pair_line o None)
pair_meaning o (word ∷ []) = with_right o (operation_named word)
pair_meaning o (word ∷ more ∷ words) = Err (fault.Interpretive why.BadPair)

-- unless an operand is missing before it
abbrev pub unless_short : Option Fault → Result ℕ SourceFault → Result ℕ SourceFault
unless_short (Some w) word = Err (fault.Interpretive w)
unless_short None word = word

abbrev pub operation_meaning : Naming → Pending → Operation → List (List ℕ) → Result ℕ SourceFault
operation_meaning naming p o words =
    unless_short (fault_at_end p (is_store o.form))
    (if is_store o.form then store_meaning p o (operand_in false naming words) else pair_meaning o words)

-- the word of an interpretive line in code at a place
unfoldable pub spoken_meaning : Naming → ℕ → Pending → Role → List (List ℕ) → Result ℕ SourceFault
spoken_meaning naming here p role.Basic words = Err fault.UnknownOrder
spoken_meaning naming here p role.Operand words =
    if is_none p.first
    then Err (fault.Interpretive why.TooMany)
    else operand_meaning p here (operand_in (is_constant p.first) naming words)
spoken_meaning naming here p (role.Operation o) words = operation_meaning naming p o (after_first words)
