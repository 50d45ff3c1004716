-- What a boundary without a live key did, as one value.
use Rattle.std.specs.Prelude.{◌/◌, ◌<◌, Option, Some, None}
use Rattle.agc_word.specs.Number.{pattern_of}
use Rattle.agc_word.specs.declared.channel_write.ChannelWrite.{ChannelWrite}
use Rattle.agc_store.specs.Cells.{cell_of}
use Rattle.agc_store.specs.Memory.{Memory, erasable_bank}
use Rattle.agc_store.specs.Places.{a_cell, l_cell, q_cell, fb_cell, fixed_bank_size}
use Rattle.agc_store.specs.Registers.{register, z_of}
use Rattle.agc_machine.specs.Boundary.{boundary, HasPlace, upcoming_of}
use Rattle.agc_machine.specs.State.{State}
use Rattle.agc_machine.specs.declared.answer.Stepped.{Stepped}
use Rattle.agc_machine.specs.declared.answer.Stepped.TheVariants as stepped
use Rattle.agc_trace.specs.declared.entry.Entry.{Entry}
use Rattle.agc_trace.specs.declared.entry.Registers.{Registers}

-- the registers of a memory: EB and FB by their banks
unfoldable pub registers_of : Memory → Registers
registers_of m =
    record {
      a = register a_cell m;
      l = register l_cell m;
      q = register q_cell m;
      z = z_of m;
      erasable_bank = erasable_bank m.erasable;
      fixed_bank = pattern_of 15 (cell_of m 0 fb_cell) / fixed_bank_size;
    }

-- the channel write that a boundary showed, if it showed one
abbrev pub write_shown : Stepped → Option ChannelWrite
write_shown stepped.Quiet = None
write_shown (stepped.Wrote write) = Some write
write_shown (stepped.Stopped why) = None

-- the boundary that begins in a state: its cycle, what happens, and the write and the registers after it
unfoldable pub entry_of : State → Entry
entry_of s =
    let done = boundary None s in
    record {
      cycle = s.cycle;
      happening = upcoming_of s;
      write = write_shown done.1;
      registers = registers_of done.0.processor.store;
    }

-- a write to a channel of three digits
abbrev pub FitsWrite : Option ChannelWrite → Type 0
FitsWrite (Some write) = write.channel < 0o1000
FitsWrite None = Unit {0}

-- each number of an entry fits its digits in the line
pub record FitsLine (entry : Entry) : Type 0 where
  pub place : HasPlace entry.happening
  pub write : FitsWrite entry.write
  pub erasable : entry.registers.erasable_bank < 0o10
  pub fixed : entry.registers.fixed_bank < 0o100
