-- The location counter: where the next line of a source goes.
use Rattle.std.specs.Prelude.{ℕ, List, ◌+◌, ◌-◌, ◌*◌, ◌/◌, ◌%◌, ◌^◌, ◌<◌, ◌≤◌, ◌==◌, nat_le, get_or, set, replicate, nat_lt, ◌&&◌}
use Rattle.std.specs.Prelude.{Result, Ok, Err, if◌then◌else◌}
use Rattle.agc_interpretive.specs.Pending.{nothing_due}
use Rattle.agc_interpretive.specs.declared.pending.Pending.{Pending}
use Rattle.agc_store.specs.Places.{erasable_cells, fixed_bank_size, fixed_banks}
use Rattle.agc_encode.specs.declared.location_counter.At.{At}
use Rattle.agc_encode.specs.declared.location_counter.At.TheVariants as at
use Rattle.agc_encode.specs.declared.location_counter.LocationCounter.{LocationCounter}
use Rattle.agc_vocabulary.specs.declared.source_fault.SourceFault.{SourceFault}
use Rattle.agc_vocabulary.specs.declared.source_fault.SourceFault.TheVariants as fault
use Rattle.agc_listing.specs.declared.location.Location.{Location}
use Rattle.agc_listing.specs.declared.location.Location.TheVariants as location

-- one of the 36 banks, or a cell, or the end of erasable memory
abbrev pub IsAt : At → Type 0
IsAt (at.Bank bank) = bank < fixed_banks
IsAt (at.Cell cell) = cell ≤ erasable_cells

-- a location whose number is far below the largest one of the code
abbrev pub IsSmall : Location → Type 0
IsSmall (location.Erasable cell) = cell < 2 ^ 20
IsSmall (location.Fixed place) = place < 2 ^ 20

-- a source begins at the first place of bank 02, where runs start
abbrev pub nat_max : ℕ → ℕ → ℕ
nat_max m n = if nat_le n m then m else n

abbrev pub first_counter : LocationCounter
first_counter = record {
  left = replicate fixed_banks 0;
  used = replicate fixed_banks 0;
  at = at.Bank 2;
  due = nothing_due;
}

-- with the operands that are due there
abbrev pub due_there : Pending → LocationCounter → LocationCounter
due_there due counter = record counter { due = due }

-- the offset of the next word in a bank
abbrev pub left_in : LocationCounter → ℕ → ℕ
left_in counter bank = get_or counter.left bank 0

-- the offset behind the highest word so far in a bank, where BANK continues
abbrev pub used_in : LocationCounter → ℕ → ℕ
used_in counter bank = get_or counter.used bank 0

-- the location of the next line
abbrev pub location_at : LocationCounter → At → Location
location_at counter (at.Bank bank) = location.Fixed (fixed_bank_size * bank + left_in counter bank)
location_at counter (at.Cell cell) = location.Erasable cell

-- How far the words of a bank run: from bank 02 they go on into bank 03, from any other bank not.
abbrev pub bank_end : ℕ → ℕ
bank_end bank = if bank == 2 then 0o4000 else fixed_bank_size

-- the place of the first of the next `count` words
abbrev pub room_at : LocationCounter → At → ℕ → Result ℕ SourceFault
room_at counter (at.Bank bank) count =
    if nat_le (left_in counter bank + count) (bank_end bank)
    then Ok (fixed_bank_size * bank + left_in counter bank)
    else Err fault.Full
room_at counter (at.Cell cell) count = Err fault.WrongMemory

-- the offsets behind the highest words, after words up to an offset of a bank
abbrev pub used_up_to : List ℕ → ℕ → ℕ → List ℕ
used_up_to used bank end =
    let here = set used bank (nat_max (get_or used bank 0) end) in
    if bank == 2 && nat_lt fixed_bank_size end
    then set here 3 (nat_max (get_or used 3 0) (end - fixed_bank_size))
    else here

-- After `count` words. A move takes what is due away.
abbrev pub after_words : LocationCounter → At → ℕ → LocationCounter
after_words counter (at.Bank bank) count =
    record counter {
      left = set counter.left bank (left_in counter bank + count);
      used = used_up_to counter.used bank (left_in counter bank + count);
      due = nothing_due;
    }
after_words counter (at.Cell cell) count = counter

-- at a location
abbrev pub moved_to : LocationCounter → Location → LocationCounter
moved_to counter (location.Fixed place) =
    let bank = place / fixed_bank_size in
    record counter { left = set counter.left bank (place % fixed_bank_size); at = at.Bank bank; due = nothing_due }
moved_to counter (location.Erasable cell) = record counter { at = at.Cell cell; due = nothing_due }

-- The stretch of cells that a cell is in ends here: banks 0, 1 and 2 are one stretch, and each other bank is one.
abbrev pub stretch_end : ℕ → ℕ
stretch_end cell = if nat_lt cell 0o1400 then 0o1400 else (cell / 0o400 + 1) * 0o400

-- after `count` cells of one stretch
abbrev pub after_cells : LocationCounter → At → ℕ → Result LocationCounter SourceFault
after_cells counter (at.Cell cell) count =
    if nat_le (cell + count) erasable_cells && nat_le (cell + count) (stretch_end cell)
    then Ok (record counter { at = at.Cell (cell + count); due = nothing_due })
    else Err fault.Full
after_cells counter (at.Bank bank) count = Err fault.WrongMemory

-- behind the highest word of a bank
abbrev pub in_bank : LocationCounter → ℕ → LocationCounter
in_bank counter bank =
    record counter { left = set counter.left bank (used_in counter bank); at = at.Bank bank; due = nothing_due }

-- behind the highest word of the current bank
abbrev pub resumed : LocationCounter → At → Result LocationCounter SourceFault
resumed counter (at.Bank bank) = Ok (in_bank counter bank)
resumed counter (at.Cell cell) = Err fault.WrongMemory

-- behind a range of cells
abbrev pub after_range : LocationCounter → At → ℕ → Result LocationCounter SourceFault
after_range counter (at.Cell cell) end = Ok (record counter { at = at.Cell end; due = nothing_due })
after_range counter (at.Bank bank) end = Err fault.WrongMemory
