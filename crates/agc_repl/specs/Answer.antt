-- The lines of an answer.
use Rattle.std.specs.Prelude.{ℕ, Bool, true, false, List, ◌++◌, codes}
use Rattle.std.specs.Prelude.{Option, Some, None}
use Rattle.std.specs.Fmt.{decimal}
use Rattle.agc_word.specs.declared.channel_write.ChannelWrite.{ChannelWrite}
use Rattle.agc_machine.specs.Answer.{stop_name}
use Rattle.agc_machine.specs.declared.answer.Stop.{Stop}
use Rattle.agc_listing.specs.Cell.{cell_place}
use Rattle.agc_listing.specs.Place.{place_text}
use Rattle.agc_store.specs.Memory.{Memory}
use Rattle.agc_session.specs.Comparison.{word_at}
use Rattle.agc_trace.specs.OperandLine.{signed_text}
use Rattle.agc_word.specs.Number.{Number}
use Rattle.agc_word.specs.Octal.{octal_digits, word_digits}
use Rattle.agc_repl.specs.declared.answer.CellStyle.{CellStyle}
use Rattle.agc_repl.specs.declared.answer.CellStyle.TheVariants as style

-- a channel write: the cycle in decimal, the channel in three octal digits, the word in five
abbrev pub write_line : ChannelWrite → List ℕ
write_line w =
    codes "write " ++ decimal w.cycle ++ codes " " ++ octal_digits 3 w.channel
    ++ codes " " ++ word_digits w.value ++ codes "\n"

-- the last line of an answer: the cycle, and why the machine has stopped, if it has
abbrev pub end_line : Option Stop → ℕ → List ℕ
end_line None cycle = codes "at " ++ decimal cycle ++ codes "\n"
end_line (Some why) cycle =
    codes "stop " ++ stop_name why ++ codes " at " ++ decimal cycle ++ codes "\n"

-- the last line of an answer if nothing was done
abbrev pub error_line : List ℕ → List ℕ
error_line reason = codes "error: " ++ reason ++ codes "\n"

-- a cell with its word, overflow corrected: in octal, and in the second style also as a signed decimal number
unfoldable pub cell_line : CellStyle → Memory → ℕ → List ℕ
cell_line style.Octal m cell =
    codes "cell " ++ place_text (cell_place cell) ++ codes " " ++ word_digits (word_at cell m) ++ codes "\n"
cell_line style.Decimal m cell =
    codes "print " ++ place_text (cell_place cell) ++ codes " " ++ word_digits (word_at cell m)
    ++ codes " " ++ signed_text (word_at cell m) ++ codes "\n"

-- a channel with its word
abbrev pub channel_line : ℕ → Number → List ℕ
channel_line channel value =
    codes "channel " ++ octal_digits 3 channel ++ codes " " ++ word_digits value ++ codes "\n"

-- the number of channel writes
abbrev pub writes_line : ℕ → List ℕ
writes_line writes = codes "writes " ++ decimal writes ++ codes "\n"

-- whether a breakpoint was hit
abbrev pub hit_line : Bool → List ℕ
hit_line true = codes "came yes\n"
hit_line false = codes "came no\n"
