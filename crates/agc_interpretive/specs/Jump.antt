-- The decoder of a pair, after the interpreter's own steps. It does not use the table of operations.
use Rattle.std.specs.Prelude.{ℕ, ◌+◌, ◌-◌, ◌/◌, ◌%◌, ◌*◌, ◌==◌, nat_lt, Bool, true, false, not, ◌&&◌, ◌||◌, List, [], ◌∷◌, get_or, codes}
use Rattle.std.specs.Prelude.{Option, Some, None, if◌then◌else◌}
use Rattle.std.specs.Str.{bytes_eq}
use Rattle.agc_interpretive.specs.declared.form.Form.{Form}
use Rattle.agc_interpretive.specs.declared.form.Form.TheVariants as form
use Rattle.agc_interpretive.specs.Operation.{Row, can_be_indexed}

-- INDJUMP: the operations with an address, by bits 7 to 3 of the code
unfoldable pub indjump : List (List ℕ)
indjump =
    codes "VLOAD" ∷ codes "TAD" ∷ codes "SIGN" ∷ codes "VXSC" ∷ codes "CGOTO" ∷ codes "TLOAD" ∷ codes "DLOAD" ∷
    codes "V/SC" ∷ codes "SLOAD" ∷ codes "SSP" ∷ codes "PDDL" ∷ codes "MXV" ∷ codes "PDVL" ∷ codes "CCALL" ∷
    codes "VXM" ∷ codes "NORM" ∷ codes "DMPR" ∷ codes "DDV" ∷ codes "BDDV" ∷ codes "GSHIFT" ∷ codes "VAD" ∷
    codes "VSU" ∷ codes "BVSU" ∷ codes "DOT" ∷ codes "VXV" ∷ codes "VPROJ" ∷ codes "DSU" ∷ codes "BDSU" ∷
    codes "DAD" ∷ [] ∷ codes "DMP" ∷ codes "SETPD" ∷ []

-- UNAJUMP: the operations without an operand, by bits 7 to 4
unfoldable pub unajump : List (List ℕ)
unajump =
    codes "EXIT" ∷ codes "SQRT" ∷ codes "SINE" ∷ codes "COSINE" ∷ codes "ARCSIN" ∷ codes "ARCCOS" ∷ codes "DSQ" ∷
    codes "ROUND" ∷ codes "DCOMP" ∷ codes "VDEF" ∷ codes "UNIT" ∷ codes "ABVAL" ∷ codes "VSQ" ∷ codes "STADR" ∷
    codes "RVQ" ∷ codes "PUSH" ∷ []

-- SHORTT: bits 7 and 6 are the places less 1, bit 5 is 0 for rounding, bit 4 is 1 to the right
unfoldable pub shortt : List (List ℕ)
shortt =
    codes "SL1R" ∷ codes "SR1R" ∷ codes "SL1" ∷ codes "SR1" ∷ codes "SL2R" ∷ codes "SR2R" ∷ codes "SL2" ∷ codes "SR2" ∷
    codes "SL3R" ∷ codes "SR3R" ∷ codes "SL3" ∷ codes "SR3" ∷ codes "SL4R" ∷ codes "SR4R" ∷ codes "SL4" ∷ codes "SR4" ∷
    []

-- MISCJUMP: index registers (bit 3 is 0 for X2), branches and switches, by bits 7 to 3
unfoldable pub miscjump : List (List ℕ)
miscjump =
    codes "AXT,2" ∷ codes "AXT,1" ∷ codes "AXC,2" ∷ codes "AXC,1" ∷ codes "LXA,2" ∷ codes "LXA,1" ∷ codes "LXC,2" ∷
    codes "LXC,1" ∷ codes "SXA,2" ∷ codes "SXA,1" ∷ codes "XCHX,2" ∷ codes "XCHX,1" ∷ codes "INCR,2" ∷ codes "INCR,1" ∷
    codes "TIX,2" ∷ codes "TIX,1" ∷ codes "XAD,2" ∷ codes "XAD,1" ∷ codes "XSU,2" ∷ codes "XSU,1" ∷ codes "BZE" ∷
    codes "GOTO" ∷ codes "BPL" ∷ codes "BMN" ∷ codes "RTB" ∷ codes "BHIZ" ∷ codes "CALL" ∷ codes "STQ" ∷ codes "SW/" ∷
    [] ∷ codes "BOVB" ∷ codes "BOV" ∷ []

unfoldable pub entry_in : List (List ℕ) → ℕ → List ℕ
entry_in table place = get_or table place []

-- OPJUMP: bits 1, 2 and 3 of the code choose the table.
unfoldable pub name_in : ℕ → List ℕ
name_in code =
    if code % 2 == 1
    then entry_in indjump (code / 4)
    else (if code / 2 % 2 == 1
    then entry_in miscjump (code / 4)
    else (if code / 4 % 2 == 1 then entry_in shortt (code / 8) else entry_in unajump (code / 8)))

-- With bit 1, bit 2 says that the first operand is indexed.
abbrev pub indexes : ℕ → Bool
indexes code = (code % 2 == 1) && (code / 2 % 2 == 1)

-- The right code less 1: CCS EDOP. Without one EDOP is empty.
abbrev pub right_in : ℕ → Option ℕ
right_in edop = if edop == 0 then None else Some (edop - 1)

-- A pair is negative: CCS leaves its magnitude less 1, EDOP keeps bits 14 to 8 of that, and LOW7 the left code.
abbrev pub pair_in : ℕ → Option (ℕ × Option ℕ)
pair_in word =
    if nat_lt word 0o40000 || (word == 0o77777)
    then None
    else Some ((0o77777 - word - 1) % 0o200, right_in ((0o77777 - word - 1) / 0o200))

-- The word of a pair: the complement of both codes, each plus 1.
abbrev pub pair_word : ℕ → Option ℕ → Option ℕ
pair_word left (Some right) =
    if nat_lt left 0o177 && nat_lt right 0o177 then Some (0o77777 - (0o200 * (right + 1) + left + 1)) else None
pair_word left None = if nat_lt left 0o177 then Some (0o77777 - (left + 1)) else None

-- the entry of the jump tables that does an operation: one for all general shifts, and one for all switches
abbrev pub entry_of : Row → Form → List ℕ
entry_of r (form.Shift kind) = codes "GSHIFT"
entry_of r (form.Switch action condition) = codes "SW/"
entry_of r other = r.name

abbrev pub is_decoded : Row → Bool
is_decoded r = bytes_eq (name_in r.code) (entry_of r r.form) && not (indexes r.code)

abbrev pub is_decoded_indexed : Row → Bool
is_decoded_indexed r = bytes_eq (name_in (r.code + 2)) (entry_of r r.form) && indexes (r.code + 2)

-- the rows that decode to their own names, also with `*` if it may follow; a store is no pair
abbrev pub is_store : Form → Bool
is_store (form.Store kind) = true
is_store other = false

abbrev pub decodes : Row → Bool
decodes r = is_store r.form || (is_decoded r && (not (can_be_indexed r.form) || is_decoded_indexed r))
