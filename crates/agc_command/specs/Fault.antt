-- The answer to an invalid command line: the name of the fault and what would be valid.
use Rattle.std.specs.Prelude.{ℕ, List, [], ◌++◌, codes, Option, None, Some}
use Rattle.agc_panel.specs.declared.watch_spec.WatchFault.{WatchFault}
use Rattle.agc_panel.specs.declared.watch_spec.WatchFault.TheVariants as watch
use Rattle.agc_script.specs.declared.fault.FaultKind.{FaultKind}
use Rattle.agc_script.specs.declared.fault.FaultKind.TheVariants as kind
use Rattle.agc_script.specs.declared.key.Key.{Key}
use Rattle.agc_script.specs.declared.key.Key.TheVariants as key
use Rattle.agc_command.specs.Meant.{meant_by}
use Rattle.agc_command.specs.Name.{usage_text}
use Rattle.agc_command.specs.declared.fault.CommandFault.{CommandFault}
use Rattle.agc_command.specs.declared.fault.CommandFault.TheVariants as fault
use Rattle.agc_command.specs.declared.save_fault.SaveFault.{SaveFault}
use Rattle.agc_command.specs.declared.save_fault.SaveFault.TheVariants as unsaved
use Rattle.agc_symbols.specs.Symbols.{Symbol}

unfoldable pub fault_name : CommandFault → List ℕ
fault_name fault.LineTooLong = codes "LineTooLong"
fault_name fault.NotAscii = codes "NotAscii"
fault_name fault.UnknownCommand = codes "UnknownCommand"
fault_name (fault.Usage name) = codes "Usage"
fault_name fault.BadNumber = codes "BadNumber"
fault_name fault.BadPlace = codes "BadPlace"
fault_name (fault.UnknownName meant) = codes "BadPlace"
fault_name fault.NotErasable = codes "NotErasable"
fault_name fault.BadChannel = codes "BadChannel"
fault_name fault.NoWrites = codes "BadChannel"
fault_name fault.BadWord = codes "BadWord"
fault_name fault.BadRelation = codes "BadRelation"
fault_name fault.BadCompared = codes "BadWord"
fault_name fault.BadInterrupt = codes "BadInterrupt"
fault_name fault.BadCount = codes "BadCount"
fault_name fault.BadLine = codes "BadLine"
fault_name (fault.BadEvent k) = codes "BadEvent"
fault_name (fault.UnknownKey meant) = codes "BadEvent"
fault_name fault.ProKey = codes "BadEvent"
fault_name fault.BadSpec = codes "BadSpec"
fault_name (fault.Watch why) = codes "BadWatch"
fault_name fault.NoStep = codes "BadNumber"
fault_name fault.NotHit = codes "NotHit"
fault_name fault.TooFewHits = codes "NotHit"
fault_name fault.TooFarBack = codes "NotHit"
fault_name (fault.NotSaved why) = codes "NotSaved"

-- what would be a valid event
unfoldable pub event_advice : FaultKind → List ℕ
event_advice kind.BadNumber = codes "a number is 1 to 6 octal digits; for raise, decimal ones"
event_advice kind.OutOfRange =
    codes "octal channels are 5 to 777, words 0 to 77777, counters 24 to 60, banks 0 to 7, offsets 0 to 377, in bank 0 from 10 on; decimal interrupts are 1 to 10"
event_advice k =
    codes "an event is key NAME, pro down, pro up, input CCC WORD, pulse COUNTER KIND, raise N or poke BANK OFFSET WORD"

-- which key was probably meant
unfoldable pub key_advice : Option Key → List ℕ
key_advice (Some key.Verb) = codes "unknown key; did you mean VERB?"
key_advice (Some key.Noun) = codes "unknown key; did you mean NOUN?"
key_advice (Some key.Reset) = codes "unknown key; did you mean RSET?"
key_advice (Some key.KeyRelease) = codes "unknown key; did you mean KEYREL?"
key_advice (Some key.Enter) = codes "unknown key; did you mean ENTR?"
key_advice (Some key.Clear) = codes "unknown key; did you mean CLR?"
key_advice other = codes "keys are 0 to 9, VERB, NOUN, +, -, ENTR, CLR, RSET and KEYREL"

-- which tables would be valid
unfoldable pub watch_advice : WatchFault → List ℕ
watch_advice (watch.OutOfErasable table) = codes "each table must be in erasable memory, whole"
watch_advice watch.TooManySets = codes "there are at most 20 core sets, octal"
watch_advice watch.Memory = codes "out of memory"

-- why a script was not saved
unfoldable pub save_advice : SaveFault → List ℕ
save_advice unsaved.Exists = codes "there is a file with this name; save writes only new ones"
save_advice unsaved.CannotWrite = codes "the file could not be written"

-- what would be valid
unfoldable pub fault_advice : CommandFault → List ℕ
fault_advice fault.LineTooLong = codes "a line has at most 120 bytes"
fault_advice fault.NotAscii = codes "a line is ASCII only"
fault_advice fault.UnknownCommand = codes "unknown command; help lists the commands"
fault_advice (fault.Usage name) = usage_text name
fault_advice fault.BadNumber =
    codes "cycles, boundaries, hits and breakpoints are 1 to 13 decimal digits, such as 1000000, at most 1000000000000"
fault_advice fault.BadPlace =
    codes "a place is octal, such as 0100, 4100, 12,2000 or E3,1400, or a name of --names"
fault_advice (fault.UnknownName meant) = codes "unknown name"
fault_advice fault.NotErasable =
    codes "a cell is in erasable memory: octal, such as 0100 or E3,1400"
fault_advice fault.BadChannel = codes "a channel is octal, 0 to 777"
fault_advice fault.NoWrites = codes "only channels 5 to 777 octal show writes"
fault_advice fault.BadWord = codes "a word is octal, 0 to 77777"
fault_advice fault.BadRelation = codes "a cell is compared by <, >, = or !=, with spaces around it. Example: break 4100 if 0100 < 5"
fault_advice fault.BadCompared =
    codes "a word to compare with is octal, 0 to 77777, or decimal with its sign, such as +12 or -3, up to 16383"
fault_advice fault.BadInterrupt =
    codes "interrupts are T6RUPT, T5RUPT, T3RUPT, T4RUPT, KEYRUPT1, KEYRUPT2, UPRUPT, DOWNRUPT, RADARUPT and RUPT10"
fault_advice fault.BadCount =
    codes "a number of cells is decimal, from 1 up to the last cell, E7,1777"
fault_advice fault.BadLine =
    codes "the panel shows PROG, VERB or NOUN and 2 digits, R1, R2 or R3 with a sign and 5 digits, FLASH on or off, or LAMPS and a lamp; _ is blank. Example: break panel R1 +00012"
fault_advice (fault.BadEvent k) = event_advice k
fault_advice (fault.UnknownKey meant) = key_advice meant
fault_advice fault.ProKey = codes "PRO is a switch; use pro down, then pro up"
fault_advice fault.BadSpec =
    codes "tables are seven octal numbers with commas between: bank, offset and number of core sets, bank and offset of LST1, bank and offset of LST2"
fault_advice (fault.Watch why) = watch_advice why
fault_advice fault.NoStep = codes "back step goes back by 1 boundary or more"
fault_advice fault.NotHit = codes "no boundary before now hits it"
fault_advice fault.TooFewHits = codes "fewer boundaries before now hit it"
fault_advice fault.TooFarBack = codes "there are fewer boundaries before now"
fault_advice (fault.NotSaved why) = save_advice why

-- the text of a fault
unfoldable pub fault_text : CommandFault → List ℕ
fault_text f = fault_name f ++ codes ": " ++ fault_advice f

-- the name that was probably meant, and the text of a fault with it
abbrev pub name_meant : Option (List Symbol) → CommandFault → Option (List ℕ)
name_meant (Some names) (fault.UnknownName m) = Some (meant_by names m)
name_meant names f = None

abbrev pub question : Option (List ℕ) → List ℕ
question (Some name) = codes "; did you mean " ++ name ++ codes "?"
question None = []

unfoldable pub fault_text_with : Option (List Symbol) → CommandFault → List ℕ
fault_text_with names f = fault_text f ++ question (name_meant names f)
