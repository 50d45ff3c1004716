-- Operand words: how they are encoded, and how the interpreter takes them apart.
use Rattle.std.specs.Prelude.{ℕ, ◌+◌, ◌-◌, ◌*◌, ◌/◌, ◌%◌, ◌==◌, nat_lt, nat_le, Bool, true, false, not, ◌&&◌, ◌||◌}
use Rattle.std.specs.Prelude.{Option, Some, None, Result, Ok, Err, if◌then◌else◌}
use Rattle.agc_interpretive.specs.declared.fault.Fault.{Fault}
use Rattle.agc_interpretive.specs.declared.fault.Fault.TheVariants as fault
use Rattle.agc_interpretive.specs.declared.form.ShiftKind.{ShiftKind}
use Rattle.agc_interpretive.specs.declared.form.ShiftKind.TheVariants as shift
use Rattle.agc_interpretive.specs.declared.form.Action.{Action}
use Rattle.agc_interpretive.specs.declared.form.Action.TheVariants as action
use Rattle.agc_interpretive.specs.declared.form.When.{When}
use Rattle.agc_interpretive.specs.declared.form.When.TheVariants as condition
use Rattle.agc_interpretive.specs.declared.operand.Count.{Count}
use Rattle.agc_interpretive.specs.declared.operand.Index.{Index}
use Rattle.agc_interpretive.specs.declared.operand.OperandKind.TheVariants as kind
use Rattle.agc_interpretive.specs.declared.operand.Place.{Place}
use Rattle.agc_interpretive.specs.declared.operand.Place.TheVariants as place
use Rattle.agc_interpretive.specs.declared.store.Store.{Store}
use Rattle.agc_interpretive.specs.declared.store.Store.TheVariants as store
use Rattle.agc_interpretive.specs.Operand.{cadr_of, first_fixed, fixed_words, half_of, has_index, indexed, plus_one, unindexed}

-- a cell
abbrev pub cell_of : Place → Result ℕ Fault
cell_of (place.Erasable cell) = if nat_lt cell first_fixed then Ok cell else Err fault.OutOfReach
cell_of (place.Fixed fixed) = Err fault.ErasableWanted

-- The fourteen bits of an address in fixed memory, for code at a place: bit 15 is that of the code.
abbrev pub fixed_address : ℕ → ℕ → Result ℕ Fault
fixed_address here fixed =
    if nat_le fixed_words fixed then Err fault.OutOfReach
    else (if not (half_of here == half_of fixed) then Err fault.OtherHalf
    else (if nat_lt (cadr_of fixed % 0o40000) first_fixed then Err fault.UnreachedBank
    else (if fixed % 0o2000 == 0o1777 then Err fault.LastWord
    else Ok (cadr_of fixed % 0o40000))))

abbrev pub address_of : ℕ → Place → Result ℕ Fault
address_of here (place.Erasable cell) = if nat_lt cell first_fixed then Ok cell else Err fault.OutOfReach
address_of here (place.Fixed fixed) = fixed_address here fixed

-- a word with what its kind adds, if it fits
abbrev pub word_with : ℕ → Result ℕ Fault → Result ℕ Fault
word_with added (Ok field) = if nat_lt (field + added) 0o100000 then Ok (field + added) else Err fault.OutOfReach
word_with added (Err why) = Err why

abbrev pub indexed_word : Index → ℕ → Result ℕ Fault → Result ℕ Fault
indexed_word index added (Ok field) = Ok (indexed index (field + added))
indexed_word index added (Err why) = Err why

unfoldable pub address_word : ℕ → Place → Index → Result ℕ Fault
address_word here given index = indexed_word index (plus_one kind.Address) (address_of here given)

-- DIRADRES and INDEX: addresses below 4000 are erasable; to the others bit 15 of the code's own bank is added.
abbrev pub place_at : ℕ → ℕ → Place
place_at here address =
    if nat_lt address first_fixed then place.Erasable address else place.Fixed (address + 0o40000 * half_of here)

abbrev pub place_taken : ℕ → Option (ℕ × Index) → Option (Place × Index)
place_taken here (Some t) = if t.0 == 0 then None else Some (place_at here (t.0 - plus_one kind.Address), t.1)
place_taken here None = None

unfoldable pub address_in : ℕ → Bool → ℕ → Option (Place × Index)
address_in here is_indexed word = place_taken here (unindexed is_indexed word)

-- A branch has the CADR, or a cell that has it.
abbrev pub branch_of : Place → Result ℕ Fault
branch_of (place.Erasable cell) = if nat_lt cell first_fixed then Ok cell else Err fault.OutOfReach
branch_of (place.Fixed fixed) =
    if nat_le fixed_words fixed then Err fault.OutOfReach
    else (if nat_lt fixed first_fixed then Err fault.UnreachedBank else Ok (cadr_of fixed))

unfoldable pub branch_word : Place → Result ℕ Fault
branch_word given = word_with (plus_one kind.Branch) (branch_of given)

abbrev pub branch_taken : ℕ → Place
branch_taken word = if nat_lt word first_fixed then place.Erasable word else place.Fixed word

unfoldable pub branch_in : ℕ → Place
branch_in word = branch_taken (word - plus_one kind.Branch)

-- RTB, BOVB, and the list of CGOTO and CCALL have the CADR, of any bank.
abbrev pub cadr_in_fixed : Place → Result ℕ Fault
cadr_in_fixed (place.Erasable cell) = Err fault.FixedWanted
cadr_in_fixed (place.Fixed fixed) = if nat_lt fixed fixed_words then Ok (cadr_of fixed) else Err fault.OutOfReach

unfoldable pub cadr_word : Place → Result ℕ Fault
cadr_word given = word_with (plus_one kind.Cadr) (cadr_in_fixed given)

unfoldable pub cadr_in : ℕ → Place
cadr_in word = place.Fixed (word - plus_one kind.Cadr)

-- the cell of LXA and its like, and of STQ
unfoldable pub cell_word : Place → Result ℕ Fault
cell_word given = word_with (plus_one kind.Erasable) (cell_of given)

unfoldable pub cell_in : ℕ → Place
cell_in word = place.Erasable (word - plus_one kind.Erasable)

-- General shifts: a fixed "address" with the kind in bits 10 and 9 and the places in bits 8 to 1, where 0 is 200. From
-- memory, not checked.
abbrev pub shift_base : ℕ
shift_base = 0o20000

abbrev pub kind_bits : ShiftKind → ℕ
kind_bits shift.Left = 0o200
kind_bits shift.Right = 0o600
kind_bits shift.LeftRounded = 0o1200
kind_bits shift.RightRounded = 0o1600

abbrev pub moved : ℕ → Count → ℕ
moved bits count = if count.minus then bits - count.places else bits + count.places

abbrev pub has_sign : Count → Bool
has_sign count = count.minus && not (count.places == 0)

-- up to 177 places, below 0 only with an index
unfoldable pub shift_word : ShiftKind → Count → Index → Result ℕ Fault
shift_word given count index =
    if nat_lt 0o177 count.places || (has_sign count && not (has_index index))
    then Err fault.BadNumber
    else Ok (indexed index (shift_base + moved (kind_bits given) count + plus_one kind.Shift))

-- GSHIFT: bit 10 rounds, bit 9 is to the right.
abbrev pub kind_at : ℕ → ShiftKind
kind_at bits =
    if bits / 0o1000 % 2 == 1
    then (if bits / 0o400 % 2 == 1 then shift.RightRounded else shift.LeftRounded)
    else (if bits / 0o400 % 2 == 1 then shift.Right else shift.Left)

-- without bit 8 the places are below 0
abbrev pub count_at : ℕ → Count
count_at bits =
    if nat_lt bits 0o200
    then record { minus = true; places = 0o200 - bits }
    else record { minus = false; places = bits - 0o200 }

abbrev pub shift_at : ℕ → Index → ShiftKind × Count × Index
shift_at bits index = (kind_at bits, count_at (bits % 0o400), index)

abbrev pub shift_taken : Option (ℕ × Index) → Option (ShiftKind × Count × Index)
shift_taken (Some t) =
    if nat_lt t.0 (shift_base + plus_one kind.Shift)
    then None
    else Some (shift_at (t.0 - plus_one kind.Shift - shift_base) t.1)
shift_taken None = None

unfoldable pub shift_in : Bool → ℕ → Option (ShiftKind × Count × Index)
shift_in is_indexed word = shift_taken (unindexed is_indexed word)

-- the places without a sign before 0
abbrev pub plain_count : Count → Count
plain_count count = record { minus = has_sign count; places = count.places }

-- Switches: the word of STATE, what is done, when it branches, and the bit. From memory, not checked.
abbrev pub action_bits : Action → ℕ
action_bits action.Set = 0o000
action_bits action.Invert = 0o100
action_bits action.Clear = 0o200
action_bits action.Keep = 0o300

abbrev pub condition_bits : When → ℕ
condition_bits condition.IfOn = 0o00
condition_bits condition.Always = 0o20
condition_bits condition.IfOff = 0o40
condition_bits condition.Never = 0o60

-- Switch 0 is bit 15 of STATE, 15 is bit 15 of the next word.
abbrev pub switch_bits : ℕ → ℕ
switch_bits number = 0o400 * (number / 15) + number % 15

-- switches in 64 words of STATE
abbrev pub switch_count : ℕ
switch_count = 960

unfoldable pub switch_word : Action → When → ℕ → Result ℕ Fault
switch_word does when number =
    if nat_lt number switch_count
    then Ok (switch_bits number + action_bits does + condition_bits when + plus_one kind.Switch)
    else Err fault.BadNumber

-- SW/: bits 8 and 7, bits 6 and 5, bits 4 to 1, and the bits above
abbrev pub action_at : ℕ → Action
action_at bits =
    if bits == 0 then action.Set else (if bits == 1 then action.Invert else (if bits == 2 then action.Clear else action.Keep))

abbrev pub condition_at : ℕ → When
condition_at bits =
    if bits == 0 then condition.IfOn
    else (if bits == 1 then condition.Always else (if bits == 2 then condition.IfOff else condition.Never))

abbrev pub switch_taken : ℕ → Action × When × ℕ
switch_taken word =
    (action_at (word / 0o100 % 4), condition_at (word / 0o20 % 4), 15 * (word / 0o400) + word % 0o20)

unfoldable pub switch_in : ℕ → Action × When × ℕ
switch_in word = switch_taken (word - plus_one kind.Switch)

-- The codes of stores, bits 14 to 12. From memory, not checked.
abbrev pub store_code : Store → ℕ
store_code store.Store = 0
store_code store.StoreX1 = 1
store_code store.StoreX2 = 2
store_code store.Stodl = 3
store_code store.StodlIndexed = 4
store_code store.Stovl = 5
store_code store.StovlIndexed = 6
store_code store.Stcall = 7

-- A store word is positive, so the last one is out of reach.
abbrev pub store_with : ℕ → Result ℕ Fault → Result ℕ Fault
store_with bits (Ok cell) =
    if nat_lt (bits + cell + plus_one kind.Store) 0o40000
    then Ok (bits + cell + plus_one kind.Store)
    else Err fault.OutOfReach
store_with bits (Err why) = Err why

unfoldable pub store_word : Store → Place → Result ℕ Fault
store_word given target = store_with (0o4000 * store_code given) (cell_of target)

-- STORJUMP, by the three bits above the address
abbrev pub store_at : ℕ → Store
store_at code =
    if code == 0 then store.Store else (if code == 1 then store.StoreX1 else (if code == 2 then store.StoreX2
    else (if code == 3 then store.Stodl else (if code == 4 then store.StodlIndexed else (if code == 5 then store.Stovl
    else (if code == 6 then store.StovlIndexed else store.Stcall))))))

-- a store and its cell, as a place
abbrev pub seen_store : Option (Store × ℕ) → Option (Store × Place)
seen_store (Some t) = Some (t.0, place.Erasable t.1)
seen_store None = None

abbrev pub store_taken : ℕ → Store × ℕ
store_taken word = (store_at (word / 0o4000), word % 0o4000)

-- a store word is positive and not +0
unfoldable pub store_in : ℕ → Option (Store × ℕ)
store_in word =
    if (word == 0) || nat_le 0o40000 word then None else Some (store_taken (word - plus_one kind.Store))
