-- The operations by their names in a source: the table by which an assembler encodes.
use Rattle.std.specs.Prelude.{ℕ, ◌-◌, ◌==◌, nat_lt, Bool, true, false, not, ◌&&◌, List, [], ◌∷◌, length, take, find, get_or}
use Rattle.std.specs.Prelude.{Option, Some, None, codes, if◌then◌else◌}
use Rattle.std.specs.Borrow.{Bor}
use Rattle.std.specs.List.{range_with_len}
use Rattle.std.specs.Str.{bytes_eq}
use Rattle.agc_interpretive.specs.declared.form.Form.{Form}
use Rattle.agc_interpretive.specs.declared.form.Form.TheVariants as form
use Rattle.agc_interpretive.specs.declared.form.Pops.TheVariants as pops
use Rattle.agc_interpretive.specs.declared.form.ShiftKind.TheVariants as kind
use Rattle.agc_interpretive.specs.declared.form.StoreKind.TheVariants as stores
use Rattle.agc_interpretive.specs.declared.form.Action.TheVariants as action
use Rattle.agc_interpretive.specs.declared.form.When.TheVariants as condition
use Rattle.agc_interpretive.specs.declared.operation.Operation.{Operation}

-- A name, its seven-bit code without `*`, and its operands.
pub record Row : Type 0 where
  pub name : List ℕ
  pub code : ℕ
  pub form : Form

abbrev pub row : List ℕ → ℕ → Form → Row
row name code form = record { name = name; code = code; form = form }

-- the rows of a table in the code
abbrev pub seen_row : Bor (List ℕ) × ℕ × Form → Row
seen_row r = row r.0.now r.1 r.2

abbrev pub seen_pair : Bor (List ℕ) × Bor (List ℕ) → List ℕ × List ℕ
seen_pair r = (r.0.now, r.1.now)

abbrev pub seen_text : Bor (List ℕ) → List ℕ
seen_text r = r.now

abbrev pub no_row : Row
no_row = row [] 0 form.Bare

abbrev pub no_pair : List ℕ × List ℕ
no_pair = ([], [])

-- The codes are from memory of the interpreter's jump tables, not checked against a listing.
unfoldable pub operations : List Row
operations =
    row (codes "VLOAD") 0o001 (form.Address pops.Vector) ∷ row (codes "TAD") 0o005 (form.Address pops.Triple) ∷
    row (codes "SIGN") 0o011 (form.Address pops.Double) ∷ row (codes "VXSC") 0o015 (form.Address pops.OtherMode) ∷
    row (codes "CGOTO") 0o021 form.AddressCadr ∷ row (codes "TLOAD") 0o025 (form.Address pops.Triple) ∷
    row (codes "DLOAD") 0o031 (form.Address pops.Double) ∷ row (codes "V/SC") 0o035 (form.Address pops.OtherMode) ∷
    row (codes "SLOAD") 0o041 (form.Address pops.Mode) ∷ row (codes "SSP") 0o045 form.AddressConstant ∷
    row (codes "PDDL") 0o051 (form.Address pops.Mode) ∷ row (codes "MXV") 0o055 (form.Address pops.Mode) ∷
    row (codes "PDVL") 0o061 (form.Address pops.Mode) ∷ row (codes "CCALL") 0o065 form.AddressCadr ∷
    row (codes "VXM") 0o071 (form.Address pops.Mode) ∷ row (codes "NORM") 0o075 (form.Address pops.Never) ∷
    row (codes "DMPR") 0o101 (form.Address pops.Mode) ∷ row (codes "DDV") 0o105 (form.Address pops.Mode) ∷
    row (codes "BDDV") 0o111 (form.Address pops.Mode) ∷ row (codes "SL") 0o115 (form.Shift kind.Left) ∷
    row (codes "SR") 0o115 (form.Shift kind.Right) ∷ row (codes "SLR") 0o115 (form.Shift kind.LeftRounded) ∷
    row (codes "SRR") 0o115 (form.Shift kind.RightRounded) ∷ row (codes "VAD") 0o121 (form.Address pops.Mode) ∷
    row (codes "VSU") 0o125 (form.Address pops.Mode) ∷ row (codes "BVSU") 0o131 (form.Address pops.Mode) ∷
    row (codes "DOT") 0o135 (form.Address pops.Mode) ∷ row (codes "VXV") 0o141 (form.Address pops.Mode) ∷
    row (codes "VPROJ") 0o145 (form.Address pops.Mode) ∷ row (codes "DSU") 0o151 (form.Address pops.Mode) ∷
    row (codes "BDSU") 0o155 (form.Address pops.Mode) ∷ row (codes "DAD") 0o161 (form.Address pops.Mode) ∷
    row (codes "DMP") 0o171 (form.Address pops.Mode) ∷ row (codes "SETPD") 0o175 form.DirectAddress ∷
    row (codes "EXIT") 0o000 form.Bare ∷ row (codes "SQRT") 0o010 form.Bare ∷ row (codes "SINE") 0o020 form.Bare ∷
    row (codes "COSINE") 0o030 form.Bare ∷ row (codes "ARCSIN") 0o040 form.Bare ∷
    row (codes "ARCCOS") 0o050 form.Bare ∷ row (codes "DSQ") 0o060 form.Bare ∷ row (codes "ROUND") 0o070 form.Bare ∷
    row (codes "DCOMP") 0o100 form.Bare ∷ row (codes "VDEF") 0o110 form.Bare ∷ row (codes "UNIT") 0o120 form.Bare ∷
    row (codes "ABVAL") 0o130 form.Bare ∷ row (codes "VSQ") 0o140 form.Bare ∷ row (codes "STADR") 0o150 form.Bare ∷
    row (codes "RVQ") 0o160 form.Bare ∷ row (codes "PUSH") 0o170 form.Bare ∷ row (codes "SL1R") 0o004 form.Bare ∷
    row (codes "SR1R") 0o014 form.Bare ∷ row (codes "SL1") 0o024 form.Bare ∷ row (codes "SR1") 0o034 form.Bare ∷
    row (codes "SL2R") 0o044 form.Bare ∷ row (codes "SR2R") 0o054 form.Bare ∷ row (codes "SL2") 0o064 form.Bare ∷
    row (codes "SR2") 0o074 form.Bare ∷ row (codes "SL3R") 0o104 form.Bare ∷ row (codes "SR3R") 0o114 form.Bare ∷
    row (codes "SL3") 0o124 form.Bare ∷ row (codes "SR3") 0o134 form.Bare ∷ row (codes "SL4R") 0o144 form.Bare ∷
    row (codes "SR4R") 0o154 form.Bare ∷ row (codes "SL4") 0o164 form.Bare ∷ row (codes "SR4") 0o174 form.Bare ∷
    row (codes "AXT,2") 0o002 form.Constant ∷ row (codes "AXT,1") 0o006 form.Constant ∷
    row (codes "AXC,2") 0o012 form.Constant ∷ row (codes "AXC,1") 0o016 form.Constant ∷
    row (codes "LXA,2") 0o022 form.Erasable ∷ row (codes "LXA,1") 0o026 form.Erasable ∷
    row (codes "LXC,2") 0o032 form.Erasable ∷ row (codes "LXC,1") 0o036 form.Erasable ∷
    row (codes "SXA,2") 0o042 form.Erasable ∷ row (codes "SXA,1") 0o046 form.Erasable ∷
    row (codes "XCHX,2") 0o052 form.Erasable ∷ row (codes "XCHX,1") 0o056 form.Erasable ∷
    row (codes "INCR,2") 0o062 form.Constant ∷ row (codes "INCR,1") 0o066 form.Constant ∷
    row (codes "TIX,2") 0o072 form.Branch ∷ row (codes "TIX,1") 0o076 form.Branch ∷
    row (codes "XAD,2") 0o102 form.Erasable ∷ row (codes "XAD,1") 0o106 form.Erasable ∷
    row (codes "XSU,2") 0o112 form.Erasable ∷ row (codes "XSU,1") 0o116 form.Erasable ∷
    row (codes "BZE") 0o122 form.Branch ∷ row (codes "GOTO") 0o126 form.Branch ∷ row (codes "BPL") 0o132 form.Branch ∷
    row (codes "BMN") 0o136 form.Branch ∷ row (codes "RTB") 0o142 form.Cadr ∷ row (codes "BHIZ") 0o146 form.Branch ∷
    row (codes "CALL") 0o152 form.Branch ∷ row (codes "STQ") 0o156 form.Erasable ∷
    row (codes "BONSET") 0o162 (form.Switch action.Set condition.IfOn) ∷
    row (codes "SETGO") 0o162 (form.Switch action.Set condition.Always) ∷
    row (codes "BOFSET") 0o162 (form.Switch action.Set condition.IfOff) ∷
    row (codes "SET") 0o162 (form.Switch action.Set condition.Never) ∷
    row (codes "BONINV") 0o162 (form.Switch action.Invert condition.IfOn) ∷
    row (codes "INVGO") 0o162 (form.Switch action.Invert condition.Always) ∷
    row (codes "BOFINV") 0o162 (form.Switch action.Invert condition.IfOff) ∷
    row (codes "INVERT") 0o162 (form.Switch action.Invert condition.Never) ∷
    row (codes "BONCLR") 0o162 (form.Switch action.Clear condition.IfOn) ∷
    row (codes "CLRGO") 0o162 (form.Switch action.Clear condition.Always) ∷
    row (codes "BOFCLR") 0o162 (form.Switch action.Clear condition.IfOff) ∷
    row (codes "CLEAR") 0o162 (form.Switch action.Clear condition.Never) ∷
    row (codes "BON") 0o162 (form.Switch action.Keep condition.IfOn) ∷
    row (codes "BOFF") 0o162 (form.Switch action.Keep condition.IfOff) ∷ row (codes "BOVB") 0o172 form.Cadr ∷
    row (codes "BOV") 0o176 form.Branch ∷ row (codes "STORE") 0o000 (form.Store stores.Store) ∷
    row (codes "STODL") 0o000 (form.Store stores.Stodl) ∷ row (codes "STOVL") 0o000 (form.Store stores.Stovl) ∷
    row (codes "STCALL") 0o000 (form.Store stores.Stcall) ∷
    []

-- other names of operations, each with the name in the table
unfoldable pub synonyms : List (List ℕ × List ℕ)
synonyms =
    (codes "SIN", codes "SINE") ∷ (codes "COS", codes "COSINE") ∷ (codes "ASIN", codes "ARCSIN") ∷
    (codes "ACOS", codes "ARCCOS") ∷ (codes "VCOMP", codes "DCOMP") ∷ (codes "ABS", codes "ABVAL") ∷
    (codes "ITCQ", codes "RVQ") ∷ (codes "CALRB", codes "CALL") ∷ (codes "ITA", codes "STQ") ∷
    (codes "VSL", codes "SL") ∷ (codes "VSR", codes "SR") ∷ (codes "VSL1", codes "SL1R") ∷
    (codes "VSR1", codes "SR1R") ∷ (codes "VSL2", codes "SL1") ∷ (codes "VSR2", codes "SR1") ∷
    (codes "VSL3", codes "SL2R") ∷ (codes "VSR3", codes "SR2R") ∷ (codes "VSL4", codes "SL2") ∷
    (codes "VSR4", codes "SR2") ∷ (codes "VSL5", codes "SL3R") ∷ (codes "VSR5", codes "SR3R") ∷
    (codes "VSL6", codes "SL3") ∷ (codes "VSR6", codes "SR3") ∷ (codes "VSL7", codes "SL4R") ∷
    (codes "VSR7", codes "SR4R") ∷ (codes "VSL8", codes "SL4") ∷ (codes "VSR8", codes "SR4") ∷
    []

abbrev pub operation_count : ℕ
operation_count = 114

abbrev pub synonym_count : ℕ
synonym_count = 27

unfoldable pub row_at : ℕ → Row
row_at place = get_or operations place no_row

unfoldable pub synonym_at : ℕ → List ℕ × List ℕ
synonym_at place = get_or synonyms place no_pair

abbrev pub row_has_name : List ℕ → ℕ → Bool
row_has_name name place = nat_lt place operation_count && bytes_eq (row_at place).name name

unfoldable pub row_place : List ℕ → Option ℕ
row_place name = find (row_has_name name) (range_with_len 0 operation_count)

abbrev pub synonym_has_name : List ℕ → ℕ → Bool
synonym_has_name name place = nat_lt place synonym_count && bytes_eq (synonym_at place).0 name

unfoldable pub synonym_place : List ℕ → Option ℕ
synonym_place name = find (synonym_has_name name) (range_with_len 0 synonym_count)

abbrev pub synonym_or : Option ℕ → List ℕ → List ℕ
synonym_or (Some place) name = (synonym_at place).1
synonym_or None name = name

abbrev pub own_name : List ℕ → List ℕ
own_name name = synonym_or (synonym_place name) name

-- the forms whose first operand `*` indexes
abbrev pub can_be_indexed : Form → Bool
can_be_indexed (form.Address pops) = true
can_be_indexed form.AddressConstant = true
can_be_indexed form.AddressCadr = true
can_be_indexed (form.Shift kind) = true
can_be_indexed (form.Store stores.Stodl) = true
can_be_indexed (form.Store stores.Stovl) = true
can_be_indexed other = false

abbrev pub coded : ℕ → Form → Bool → Option Operation
coded code form is_indexed =
    if is_indexed && not (can_be_indexed form)
    then None
    else Some (record { code = code; form = form; is_indexed = is_indexed })

abbrev pub coded_at : Option ℕ → Bool → Option Operation
coded_at (Some place) is_indexed = coded (row_at place).code (row_at place).form is_indexed
coded_at None is_indexed = None

abbrev pub operation_of : List ℕ → Bool → Option Operation
operation_of name is_indexed = coded_at (row_place name) is_indexed

-- the operation that a word of a source names; a `*` behind it indexes its first operand
abbrev pub ends_with_star : List ℕ → Bool
ends_with_star name = get_or name (length name - 1) 0 == 0x2A

unfoldable pub operation_named : List ℕ → Option Operation
operation_named name =
    if ends_with_star name
    then operation_of (own_name (take (length name - 1) name)) true
    else operation_of (own_name name) false
