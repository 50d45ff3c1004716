-- The words that an order reads as data.
use Rattle.std.specs.Prelude.{ℕ, ◌%◌, Some, None}
use Rattle.agc_word.specs.Number.{pattern_of}
use Rattle.agc_store.specs.Memory.{Memory}
use Rattle.agc_order.specs.Row.{basic_row, extracode_row}
use Rattle.agc_order.specs.declared.order.Basic.{Basic}
use Rattle.agc_order.specs.declared.order.Basic.TheVariants as basic
use Rattle.agc_order.specs.declared.row.Takes.{Takes}
use Rattle.agc_order.specs.declared.row.Takes.TheVariants as takes
use Rattle.agc_processor.specs.Double.{before_in_ten, before_in_twelve}
use Rattle.agc_machine.specs.declared.upcoming.Upcoming.{Upcoming}
use Rattle.agc_machine.specs.declared.upcoming.Upcoming.TheVariants as upcoming
use Rattle.agc_listing.specs.Location.{location_in}
use Rattle.agc_listing.specs.declared.location.Location.{Location}
use Rattle.agc_profile.specs.Opcode.{named_of}
use Rattle.agc_profile.specs.declared.data.DataReads.{DataReads}
use Rattle.agc_profile.specs.declared.opcode.Opcode.{Opcode}
use Rattle.agc_profile.specs.declared.opcode.Opcode.TheVariants as named

-- A basic order reads what it takes, except that TC takes the address of an order, and TS only stores.
abbrev pub basic_reads : Basic → Takes
basic_reads basic.Tc = takes.Nothing
basic_reads basic.Ts = takes.Nothing
basic_reads other = (basic_row other).takes

-- what an order reads; an extracode reads all that it takes
abbrev pub order_reads : Opcode → Takes
order_reads (named.Basic order) = basic_reads order
order_reads (named.Extracode order) = (extracode_row order).takes

-- no word, the word at an address, and with it the one at the address before it
abbrev pub no_data : DataReads
no_data = record { at = None; before = None }

abbrev pub word_at : ℕ → Memory → DataReads
word_at address m = record { at = Some (location_in m address); before = None }

abbrev pub words_at : ℕ → ℕ → Memory → DataReads
words_at address before m =
    record { at = Some (location_in m address); before = Some (location_in m before) }

-- The words that an order reads in a memory, by the ten or twelve bits of its address; double-word orders read the word
-- before it too. Fixed addresses are jump targets, and channels are not memory.
abbrev pub data_read : Takes → ℕ → Memory → DataReads
data_read takes.Erasable word m = word_at (word % 0o2000) m
data_read takes.ErasablePair word m = words_at (word % 0o2000) (before_in_ten (word % 0o2000)) m
data_read takes.Memory word m = word_at (word % 0o10000) m
data_read takes.MemoryPair word m =
    words_at (word % 0o10000) (before_in_twelve (word % 0o10000)) m
data_read takes.Nothing word m = no_data
data_read takes.Fixed word m = no_data
data_read takes.Channel word m = no_data

-- the words that a boundary reads as data, in the memory in which it begins: those of its order
unfoldable pub data_of : Upcoming → Memory → DataReads
data_of (upcoming.Order order) m = data_read (order_reads (named_of order)) (pattern_of 15 order.word) m
data_of (upcoming.Stop why) m = no_data
data_of (upcoming.Event what) m = no_data
data_of (upcoming.Timer t) m = no_data
data_of (upcoming.Interrupt r) m = no_data
