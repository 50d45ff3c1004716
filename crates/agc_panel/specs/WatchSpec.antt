-- The places of the watched tables: their text form, and when they are invalid.
use Rattle.std.specs.Prelude.{ℕ, ◌+◌, ◌*◌, ◌==◌, ◌<◌, nat_lt, Bool, ◌||◌, length, IfSome, List, []}
use Rattle.std.specs.Prelude.{◌∷◌, Option, Some, None, option_map, option_and_then, if◌then◌else◌}
use Rattle.std.specs.List.{slice_split}
use Rattle.agc_word.specs.Numeral.{octal_number}
use Rattle.agc_store.specs.Places.{erasable_bank_size, erasable_cells}
use Rattle.agc_panel.specs.declared.watch_spec.WatchSpec.{WatchSpec}
use Rattle.agc_panel.specs.declared.watch_spec.WatchFault.{WatchFault}
use Rattle.agc_panel.specs.declared.watch_spec.WatchFault.TheVariants as fault
use Rattle.agc_panel.specs.declared.watch_spec.Table.TheVariants as table

-- whether a byte separates two numbers: a comma
abbrev pub is_separator : ℕ → Bool
is_separator b = b == 44

-- a number before others, if there are any
abbrev pub with_number : ℕ → Option (List ℕ) → Option (List ℕ)
with_number number others = option_map (λ numbers. number ∷ numbers) others

-- the numbers in the pieces of a text, if each piece is one
abbrev pub numbers_in_pieces : List (List ℕ) → Option (List ℕ)
numbers_in_pieces [] = Some []
numbers_in_pieces (piece ∷ pieces) =
    option_and_then (λ number. with_number number (numbers_in_pieces pieces)) (octal_number 6 piece)

-- seven numbers in their order
abbrev pub spec_from : List ℕ → Option WatchSpec
spec_from (core_bank ∷ core_offset ∷ sets ∷ lst1_bank ∷ lst1_offset
    ∷ lst2_bank ∷ lst2_offset ∷ []) =
    Some (record {
      core_bank = core_bank;
      core_offset = core_offset;
      sets = sets;
      lst1_bank = lst1_bank;
      lst1_offset = lst1_offset;
      lst2_bank = lst2_bank;
      lst2_offset = lst2_offset;
    })
spec_from numbers = None

-- the numbers between the commas of a text
unfoldable pub numbers_in : List ℕ → Option (List ℕ)
numbers_in text = numbers_in_pieces (slice_split is_separator text)

-- if each piece of a text is a number, there are fewer than this many
pub record HasFewer (count : ℕ) (text : List ℕ) : Type 0 where
  pub fewer : IfSome (numbers_in text) (λ numbers. length numbers < count)

-- if each piece of a text is a number, there are more than this many
pub record HasMore (count : ℕ) (text : List ℕ) : Type 0 where
  pub more : IfSome (numbers_in text) (λ numbers. count < length numbers)

-- the meaning of a text: seven octal numbers of one to six digits, separated by commas; any other
-- text has none
unfoldable pub spec_of : List ℕ → Option WatchSpec
spec_of text = option_and_then spec_from (numbers_in text)

-- the position of a cell of a bank in the list of all eight erasable banks
abbrev pub first_cell : ℕ → ℕ → ℕ
first_cell bank offset = erasable_bank_size * bank + offset

-- whether a table of this many cells does not fit there
unfoldable pub is_out : ℕ → ℕ → ℕ → Bool
is_out bank offset cells =
    nat_lt 7 bank || nat_lt 0o377 offset || nat_lt erasable_cells (first_cell bank offset + cells)

-- the most core sets that can be watched
abbrev pub most_sets : ℕ
most_sets = 0o20

-- the cells of a core set
abbrev pub core_set_cells : ℕ
core_set_cells = 0o14

-- the cells of LST1, and the tasks of LST2, which have two cells each
abbrev pub lst1_cells : ℕ
lst1_cells = 0o10

abbrev pub lst2_tasks : ℕ
lst2_tasks = 0o11

-- the first fault of a spec, if it has one
unfoldable pub watch_fault_of : WatchSpec → Option WatchFault
watch_fault_of spec =
    if is_out spec.core_bank spec.core_offset (core_set_cells * spec.sets)
    then Some (fault.OutOfErasable table.Core)
    else if is_out spec.lst1_bank spec.lst1_offset lst1_cells
    then Some (fault.OutOfErasable table.Lst1)
    else if is_out spec.lst2_bank spec.lst2_offset (2 * lst2_tasks)
    then Some (fault.OutOfErasable table.Lst2)
    else if nat_lt most_sets spec.sets
    then Some fault.TooManySets
    else None
