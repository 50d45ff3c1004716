-- The lines that `agc` prints itself: the stop, the log and the live keys.
use Rattle.std.specs.Prelude.{ℕ, List, ◌++◌, codes}
use Rattle.std.specs.List.{flat_map}
use Rattle.std.specs.Fmt.{decimal}
use Rattle.agc_word.specs.Octal.{octal_digits, word_digits}
use Rattle.agc_word.specs.declared.channel_write.ChannelWrite.{ChannelWrite}
use Rattle.agc_script.specs.Key.{name_of}
use Rattle.agc_script.specs.declared.key.Key.{Key}
use Rattle.agc_machine.specs.Answer.{stop_name}
use Rattle.agc_machine.specs.declared.answer.Stop.{Stop}
use Rattle.agc_run.specs.declared.report.LiveKeys.{LiveKeys}

-- why the run ended, at which cycle, and after how many channel writes
abbrev pub stop_line : Stop → ℕ → ℕ → List ℕ
stop_line why cycle writes =
    codes "STOP " ++ stop_name why
    ++ codes " CYCLE " ++ decimal cycle
    ++ codes " WRITES " ++ decimal writes ++ codes "\n"

-- one channel write: the cycle in decimal, the channel in three octal digits, the word in five
abbrev pub log_line : ChannelWrite → List ℕ
log_line w =
    decimal w.cycle ++ codes " " ++ octal_digits 3 w.channel
    ++ codes " " ++ word_digits w.value ++ codes "\n"

-- a line for each channel write, in order
unfoldable pub log_text : List ChannelWrite → List ℕ
log_text writes = flat_map log_line writes

-- one key of a tape, as a line of a script: the cycle in decimal, and the key's name
abbrev pub tape_line : ℕ × Key → List ℕ
tape_line entry = decimal entry.0 ++ codes " key " ++ name_of entry.1 ++ codes "\n"

-- a line for each key of a tape, in order
unfoldable pub tape_text : List (ℕ × Key) → List ℕ
tape_text tape = flat_map tape_line tape

-- the lines of live keys: the tape, and how many keys are left
abbrev pub live_text : LiveKeys → List ℕ
live_text keys = tape_text keys.tape ++ codes "REST " ++ decimal keys.left ++ codes "\n"
