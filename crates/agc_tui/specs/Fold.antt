-- The lines of a history: a one-order idle loop is one line, with the count of its boundaries.
use Rattle.std.specs.Prelude.{ℕ, zero, suc, ◌+◌, ◌-◌, ◌^◌, ◌==◌, ◌&&◌, ◌||◌, nat_le, nat_lt, length, take}
use Rattle.std.specs.Prelude.{Bool, true, false, if◌then◌else◌, List, [], ◌∷◌, ◌++◌, flat_map}
use Rattle.std.specs.Prelude.{Option, Some, None}
use Rattle.circular_buffer.specs.Buffer.{last_item}
use Rattle.agc_word.specs.declared.channel_write.ChannelWrite.{ChannelWrite}
use Rattle.agc_listing.specs.Cell.{same_sign, same_word}
use Rattle.agc_machine.specs.declared.upcoming.InHand.{InHand}
use Rattle.agc_machine.specs.declared.upcoming.Upcoming.{Upcoming}
use Rattle.agc_machine.specs.declared.upcoming.Upcoming.TheVariants as upcoming
use Rattle.agc_trace.specs.Entry.{FitsLine}
use Rattle.agc_trace.specs.declared.entry.Entry.{Entry}
use Rattle.agc_trace.specs.declared.entry.Registers.{Registers}
use Rattle.agc_tui.specs.declared.fold.Line.{Line}

-- two orders are the same, at the same place
abbrev pub same_order : InHand → InHand → Bool
same_order one other =
    (one.bank == other.bank) && (one.address == other.address)
    && same_word one.word other.word && same_sign one.extracode other.extracode

-- two boundaries run the same order
abbrev pub same_happening : Upcoming → Upcoming → Bool
same_happening (upcoming.Order one) (upcoming.Order other) = same_order one other
same_happening _ _ = false

-- a boundary shows no write
abbrev pub is_quiet : Option ChannelWrite → Bool
is_quiet None = true
is_quiet (Some write) = false

-- the registers are the same
abbrev pub same_registers : Registers → Registers → Bool
same_registers one other =
    same_word one.a other.a && same_word one.l other.l && same_word one.q other.q
    && (one.z == other.z) && (one.erasable_bank == other.erasable_bank)
    && (one.fixed_bank == other.fixed_bank)

-- a boundary repeats the one before it: the same order, no write, the same registers
unfoldable pub repeats : Entry → Entry → Bool
repeats last next =
    same_happening last.happening next.happening && is_quiet last.write && is_quiet next.write
    && same_registers last.registers next.registers && nat_le last.cycle next.cycle

-- the most boundaries of one line
abbrev pub most_counted : ℕ
most_counted = 2 ^ 64 - 1

-- a boundary belongs to a line: it repeats the last one, after as many cycles as those before did
unfoldable pub counts_up : Line → Entry → Bool
counts_up line next =
    repeats line.last next && nat_lt line.count most_counted
    && (line.count == 1 || next.cycle - line.last.cycle == line.period)

-- the line of one boundary
abbrev pub alone : Entry → Line
alone entry = record { last = entry; count = 1; period = 0 }

-- a line with one more boundary
abbrev pub again : Line → Entry → Line
again line next =
    record { last = next; count = line.count + 1; period = next.cycle - line.last.cycle }

-- the same boundary, this many cycles earlier
abbrev pub earlier : ℕ → Entry → Entry
earlier period entry = record entry { cycle = entry.cycle - period }

-- this many equal boundaries, a period apart, up to the last one
unfoldable pub repeated : ℕ → ℕ → Entry → List Entry
repeated period zero last = []
repeated period (suc more) last = repeated period more (earlier period last) ++ last ∷ []

-- each number of a line's boundaries fits its digits
abbrev pub Fits : Line → Type 0
Fits line = FitsLine line.last

-- the boundaries of a line
abbrev pub unfolded : Line → List Entry
unfolded line = repeated line.period line.count line.last

-- the boundaries of some lines
abbrev pub boundaries_of : List Line → List Entry
boundaries_of lines = flat_map unfolded lines

-- a last line with one more boundary, if that belongs to it
abbrev pub counted_up : Option Line → Entry → Option Line
counted_up None next = None
counted_up (Some line) next = if counts_up line next then Some (again line next) else None

-- the lines without the last one
abbrev pub but_last : List Line → List Line
but_last lines = take (length lines - 1) lines

-- the last line replaced, or a line more for a boundary
abbrev pub replaced : Option Line → Entry → List Line → List Line
replaced (Some line) next lines = but_last lines ++ line ∷ []
replaced None next lines = lines ++ alone next ∷ []

-- one more boundary: the last line counts up, or the boundary gets a line of its own
unfoldable pub added : Entry → List Line → List Line
added next lines = replaced (counted_up (last_item lines) next) next lines

-- these lines, and then those of more boundaries
unfoldable pub folded_onto : List Line → List Entry → List Line
folded_onto lines [] = lines
folded_onto lines (entry ∷ entries) = folded_onto (added entry lines) entries

-- the lines of boundaries
abbrev pub folded : List Entry → List Line
folded entries = folded_onto [] entries
