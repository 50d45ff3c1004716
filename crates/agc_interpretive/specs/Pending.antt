-- Lines of the interpretive language: their words, and the operands that are due behind them.
use Rattle.std.specs.Prelude.{ℕ, ◌+◌, ◌-◌, ◌==◌, nat_lt, nat_le, Bool, true, false, not, ◌&&◌, ◌||◌, List}
use Rattle.std.specs.Prelude.{Option, Some, None, is_none, is_some, Result, Ok, Err, if◌then◌else◌}
use Rattle.agc_interpretive.specs.declared.fault.Fault.{Fault}
use Rattle.agc_interpretive.specs.declared.fault.Fault.TheVariants as fault
use Rattle.agc_interpretive.specs.declared.form.When.TheVariants as condition
use Rattle.agc_interpretive.specs.declared.form.Form.{Form}
use Rattle.agc_interpretive.specs.declared.form.Form.TheVariants as form
use Rattle.agc_interpretive.specs.declared.form.Pops.TheVariants as pops
use Rattle.agc_interpretive.specs.declared.form.StoreKind.TheVariants as stores
use Rattle.agc_interpretive.specs.declared.operand.Count.{Count}
use Rattle.agc_interpretive.specs.declared.operand.Index.{Index}
use Rattle.agc_interpretive.specs.declared.operand.Index.TheVariants as index
use Rattle.agc_interpretive.specs.declared.operand.Place.{Place}
use Rattle.agc_interpretive.specs.declared.operand.Place.TheVariants as place
use Rattle.agc_interpretive.specs.declared.operation.Operation.{Operation}
use Rattle.agc_interpretive.specs.declared.store.Store.{Store}
use Rattle.agc_interpretive.specs.declared.store.Store.TheVariants as store
use Rattle.agc_interpretive.specs.declared.due.Due.{Due}
use Rattle.agc_interpretive.specs.declared.due.Due.TheVariants as due
use Rattle.agc_interpretive.specs.declared.due.Value.{Value}
use Rattle.agc_interpretive.specs.declared.due.Value.TheVariants as value
use Rattle.agc_interpretive.specs.declared.pending.Pending.{Pending}
use Rattle.agc_interpretive.specs.Jump.{is_store, pair_word}
use Rattle.agc_interpretive.specs.Operand.{cadr_of, first_fixed, fixed_words, has_index}
use Rattle.agc_interpretive.specs.Operation.{operation_named}
use Rattle.agc_interpretive.specs.Words.{address_word, branch_word, cadr_word, cell_word, shift_word, store_word, switch_word}

-- A number below 4000 is a cell, and one below 10000 a place in bank 02 or 03. A minus before 0 means nothing.
abbrev pub place_of : Value → Result Place Fault
place_of (value.At p) = Ok p
place_of (value.Number count) =
    if count.minus && not (count.places == 0) then Err fault.OutOfReach
    else (if nat_lt count.places first_fixed then Ok (place.Erasable count.places)
    else (if nat_lt count.places 0o10000 then Ok (place.Fixed count.places) else Err fault.OutOfReach))

-- a number, or the number of a cell whose name stands for it
abbrev pub number_of : Value → Result Count Fault
number_of (value.Number count) = Ok count
number_of (value.At (place.Erasable cell)) = Ok (record { minus = false; places = cell })
number_of (value.At (place.Fixed fixed)) = Err fault.BadNumber

-- a constant as it is, minus complemented; of a name its address
abbrev pub constant_of : Count → Result ℕ Fault
constant_of count =
    if nat_le 0o100000 count.places then Err fault.BadNumber
    else Ok (if count.minus then 0o77777 - count.places else count.places)

abbrev pub constant_word : Value → Result ℕ Fault
constant_word (value.Number count) = constant_of count
constant_word (value.At (place.Erasable cell)) = if nat_lt cell first_fixed then Ok cell else Err fault.OutOfReach
constant_word (value.At (place.Fixed fixed)) =
    if nat_lt fixed fixed_words then Ok (cadr_of fixed) else Err fault.OutOfReach

abbrev pub is_odd_index : Bool → Index → Bool
is_odd_index true given = not (has_index given)
is_odd_index false given = has_index given

abbrev pub at_place : (Place → Result ℕ Fault) → Result Place Fault → Result ℕ Fault
at_place word (Ok p) = word p
at_place word (Err why) = Err why

abbrev pub at_number : (Count → Result ℕ Fault) → Result Count Fault → Result ℕ Fault
at_number word (Ok n) = word n
at_number word (Err why) = Err why

abbrev pub takes_index : Due → Bool
takes_index due.Popped = false
takes_index (due.Address is_indexed) = is_indexed
takes_index (due.Shift kind is_indexed) = is_indexed
takes_index other = false

-- the word of an operand that is due
abbrev pub word_due : Due → ℕ → Value → Index → Result ℕ Fault
word_due due.Popped here v i = at_place (λ p. address_word here p i) (place_of v)
word_due (due.Address is_indexed) here v i = at_place (λ p. address_word here p i) (place_of v)
word_due (due.Shift kind is_indexed) here v i = at_number (λ n. shift_word kind n i) (number_of v)
word_due due.Constant here v i = constant_word v
word_due due.Cell here v i = at_place cell_word (place_of v)
word_due due.Branch here v i = at_place branch_word (place_of v)
word_due due.Cadr here v i = at_place cadr_word (place_of v)
word_due (due.Switch does when) here v i =
    at_number (λ n. if n.minus && not (n.places == 0) then Err fault.BadNumber else switch_word does when n.places) (number_of v)

unfoldable pub operand_word : Due → ℕ → Value → Index → Result ℕ Fault
operand_word d here v i = if is_odd_index (takes_index d) i then Err fault.BadIndex else word_due d here v i

-- the operands of an operation, in order
abbrev pub no_dues : Option Due × Option Due
no_dues = (None, None)

-- what is loaded may be left out without `*`
abbrev pub load_due : Bool → Due
load_due is_indexed = if is_indexed then due.Address true else due.Popped

abbrev pub dues_of : Operation → Form → Option Due × Option Due
dues_of o form.Bare = no_dues
dues_of o (form.Address pops.Never) = (Some (due.Address o.is_indexed), None)
dues_of o (form.Address other) = (Some (load_due o.is_indexed), None)
dues_of o form.AddressConstant = (Some (due.Address o.is_indexed), Some due.Constant)
dues_of o form.AddressCadr = (Some (due.Address o.is_indexed), Some due.Cadr)
dues_of o form.DirectAddress = (Some (due.Address false), None)
dues_of o (form.Shift kind) = (Some (due.Shift kind o.is_indexed), None)
dues_of o form.Constant = (Some due.Constant, None)
dues_of o form.Erasable = (Some due.Cell, None)
dues_of o form.Branch = (Some due.Branch, None)
dues_of o form.Cadr = (Some due.Cadr, None)
dues_of o (form.Store stores.Store) = no_dues
dues_of o (form.Store stores.Stcall) = (Some due.Branch, None)
dues_of o (form.Store loads) = (Some (load_due o.is_indexed), None)
dues_of o (form.Switch does condition.Never) = (Some (due.Switch does condition.Never), None)
dues_of o (form.Switch does when) = (Some (due.Switch does when), Some due.Branch)

abbrev pub made : Option Due → Option Due → Option Due → Option Due → Bool → Pending
made a b c d stadr = record { first = a; second = b; third = c; fourth = d; is_behind_stadr = stadr }

abbrev pub nothing_due : Pending
nothing_due = made None None None None false

-- first all operands of the left operation, then those of the right one
abbrev pub in_order : Option Due × Option Due → Option Due × Option Due → Bool → Pending
in_order l r stadr =
    if is_none l.0 then made r.0 r.1 None None stadr
    else (if is_none l.1 then made l.0 r.0 r.1 None stadr else made l.0 l.1 r.0 r.1 stadr)

-- the code of STADR, whose store is complemented
abbrev pub stadr_code : ℕ
stadr_code = 0o150

-- `*` adds 2 to the code
abbrev pub code_of : Operation → ℕ
code_of o = if o.is_indexed then o.code + 2 else o.code

abbrev pub right_code : Option Operation → Option ℕ
right_code None = None
right_code (Some r) = Some (code_of r)

abbrev pub has_store : Operation → Option Operation → Bool
has_store l None = is_store l.form
has_store l (Some r) = is_store l.form || is_store r.form

-- the store behind STADR comes first, so an operation at its right would never be done
abbrev pub has_stadr_first : Operation → Option Operation → Bool
has_stadr_first l r = l.code == stadr_code && is_some r

abbrev pub coded_pair : Option ℕ → Result ℕ Fault
coded_pair (Some word) = Ok word
coded_pair None = Err fault.BadPair

-- a line of one or two operations; a store is none, and STADR is the last one
unfoldable pub pair_line : Operation → Option Operation → Result ℕ Fault
pair_line l r =
    if has_store l r then Err fault.BadPair
    else (if has_stadr_first l r then Err fault.StoreWanted else coded_pair (pair_word (code_of l) (right_code r)))

-- what is due behind such a line, or behind a store
abbrev pub behind : Operation → Option Operation → Pending
behind l None = in_order (dues_of l l.form) no_dues (l.code == stadr_code)
behind l (Some r) = in_order (dues_of l l.form) (dues_of r r.form) (r.code == stadr_code)

-- The store of a name, its `*` and the index of its cell, which only STORE may have.
abbrev pub store_of : Form → Bool → Index → Result Store Fault
store_of (form.Store stores.Store) false index.Direct = Ok store.Store
store_of (form.Store stores.Store) false index.X1 = Ok store.StoreX1
store_of (form.Store stores.Store) false index.X2 = Ok store.StoreX2
store_of (form.Store stores.Stodl) false index.Direct = Ok store.Stodl
store_of (form.Store stores.Stodl) true index.Direct = Ok store.StodlIndexed
store_of (form.Store stores.Stovl) false index.Direct = Ok store.Stovl
store_of (form.Store stores.Stovl) true index.Direct = Ok store.StovlIndexed
store_of (form.Store stores.Stcall) false index.Direct = Ok store.Stcall
store_of other is_indexed given = Err fault.BadIndex

abbrev pub stored_by : Result Store Fault → Result Place Fault → Result ℕ Fault
stored_by (Ok s) (Ok p) = store_word s p
stored_by (Ok s) (Err why) = Err why
stored_by (Err why) p = Err why

abbrev pub complemented : Bool → Result ℕ Fault → Result ℕ Fault
complemented is_behind_stadr (Ok word) = Ok (if is_behind_stadr then 0o77777 - word else word)
complemented is_behind_stadr (Err why) = Err why

-- a store, complemented behind STADR
unfoldable pub store_line : Pending → Operation → Value → Index → Result ℕ Fault
store_line p o v i = complemented p.is_behind_stadr (stored_by (store_of o.form o.is_indexed i) (place_of v))

-- an operand takes the first that is due
abbrev pub rest_of : Pending → Pending
rest_of p = made p.second p.third p.fourth None p.is_behind_stadr

abbrev pub taken_by : Option Due → ℕ → Value → Index → Result ℕ Fault
taken_by (Some d) here v i = operand_word d here v i
taken_by None here v i = Err fault.TooMany

abbrev pub operand_line : Pending → ℕ → Value → Index → Result ℕ Fault
operand_line p here v i = taken_by p.first here v i

-- Operands may be missing if all that are due are popped; nothing follows them then.
abbrev pub may_miss : Option Due → Bool
may_miss None = true
may_miss (Some due.Popped) = true
may_miss other = false

abbrev pub missing : Option Due → Fault
missing (Some (due.Address is_indexed)) = fault.NoPushUp
missing other = fault.TooFew

-- Behind them comes a pair, for a store is positive: without STADR the store would be their address. STADR wants a store.
unfoldable pub fault_at_end : Pending → Bool → Option Fault
fault_at_end p is_store_next =
    if not (may_miss p.first && may_miss p.second && may_miss p.third && may_miss p.fourth) then Some (missing p.first)
    else (if is_some p.first && is_store_next && not p.is_behind_stadr then Some fault.NoStadr
    else (if p.is_behind_stadr && not is_store_next then Some fault.StoreWanted else None))

-- Before a word of the basic language nothing is popped: the interpreter wants a negative word there, a pair.
abbrev pub fault_before_basic : Pending → Option Fault
fault_before_basic p =
    if is_some p.first then Some (missing p.first)
    else (if p.is_behind_stadr then Some fault.StoreWanted else None)

-- A line is an operand if one is due and its first word stands at the operand's column or is no operation, basic or
-- interpretive. The column, counted from 0 with tabs of eight, is from memory, not checked.
abbrev pub operand_column : ℕ
operand_column = 24

unfoldable pub takes_line : Pending → ℕ → List ℕ → Bool → Bool
takes_line p column word is_basic =
    is_some p.first && (nat_le operand_column column || not (is_basic || is_some (operation_named word)))
