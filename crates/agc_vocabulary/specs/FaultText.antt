-- The messages for a faulty line of a source.
use Rattle.std.specs.Prelude.{ℕ, List, codes}
use Rattle.agc_interpretive.specs.FaultText.{fault_text as interpretive_text}
use Rattle.agc_listing.specs.declared.fault.LineFault.{LineFault}
use Rattle.agc_listing.specs.declared.fault.LineFault.TheVariants as line
use Rattle.agc_vocabulary.specs.declared.source_fault.SourceFault.{SourceFault}
use Rattle.agc_vocabulary.specs.declared.source_fault.SourceFault.TheVariants as fault

abbrev pub listed_text : LineFault → List ℕ
listed_text line.NotText = codes "a byte of this line is neither a tab nor printable ASCII"
listed_text line.BadAddress = codes "the line begins with no place of a rope: 4000 to 7777, or a bank from 00 to 43 and an address, as 04,2000"
listed_text line.BadWord = codes "after a place comes its word: five octal digits"
listed_text line.NamedTwice = codes "an earlier line has a word for this place: write each place once"

-- the message of a fault: a sentence
abbrev pub fault_text : SourceFault → List ℕ
fault_text (fault.Listed why) = listed_text why
fault_text fault.BadName = codes "a name is 1 to 8 characters, without a comma and not only digits and signs"
fault_text fault.NameTwice = codes "an earlier line has this name"
fault_text fault.MisplacedName = codes "=, EQUALS, =MINUS, =ECADR and CHECK= need a name in the first column; BANK and BLOCK take none"
fault_text fault.CheckFailed = codes "CHECK= fails: no other line gives this name that place"
fault_text fault.UnknownOrder = codes "no order or directive has this name (they come after the first column)"
fault_text fault.Include = codes "other files are not included: put their lines into this file"
fault_text (fault.Interpretive why) = interpretive_text why
fault_text fault.NotSupported = codes "this directive is not supported"
fault_text fault.BadOperand = codes "the operand is missing, superfluous or malformed"
fault_text fault.UnknownName = codes "no line has this name"
fault_text fault.NoSuchPlace = codes "there is no such place in memory"
fault_text fault.ErasableWanted = codes "an address in erasable memory is expected here"
fault_text fault.FixedWanted = codes "a place in fixed memory is expected here"
fault_text fault.ChannelWanted = codes "this order takes a channel: a number from 0 to 777, or a name of 0 to 60 or 77"
fault_text fault.ChannelName = codes "another line takes this name as a channel: give the cell a name of its own"
fault_text fault.AnotherBank = codes "this place is in another bank"
fault_text fault.OtherOrder = codes "with this address the word would be another order"
fault_text fault.ExtracodeAlone = codes "this order is an extracode: write EXTEND before it"
fault_text fault.BasicAfterExtend = codes "basic order after EXTEND (or the extracode INDEX): an extracode is expected here"
fault_text fault.Full = codes "no room is left in this bank"
fault_text fault.WrongMemory = codes "ERASE belongs in erasable memory, and BANK without a number in fixed memory"
fault_text fault.BadPlace = codes "not a place or a bank: expected a name, bb,oooo, En,oooo or a number"
fault_text fault.BadNumber = codes "not a number of the form that this directive takes"
fault_text fault.OutOfRange = codes "the number is too large: DEC takes integers up to 16383 and fractions below 1"
