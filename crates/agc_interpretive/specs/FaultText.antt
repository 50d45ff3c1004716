-- The messages of faults.
use Rattle.std.specs.Prelude.{ℕ, List, codes}
use Rattle.agc_interpretive.specs.declared.fault.Fault.{Fault}
use Rattle.agc_interpretive.specs.declared.fault.Fault.TheVariants as fault

unfoldable pub fault_text : Fault → List ℕ
fault_text fault.OutOfReach = codes "no such address: erasable memory ends at 3777, fixed memory in bank 43"
fault_text fault.OtherHalf =
    codes "this place is in the other half of fixed memory: copy the constant into a bank of this half"
fault_text fault.UnreachedBank =
    codes "this bank is out of reach: banks 00, 01, 20 and 21 hold no operands, and 00 and 01 no branches"
fault_text fault.LastWord = codes "the last word of a bank is out of reach: move it"
fault_text fault.ErasableWanted = codes "a cell is expected here: this place is in fixed memory"
fault_text fault.FixedWanted = codes "a place in fixed memory is expected here: this is a cell"
fault_text fault.BadNumber = codes "not a number that this operand can have"
fault_text fault.BadIndex =
    codes "`*` and an index belong together: write ,1 or ,2 behind an operand of a starred operation only"
fault_text fault.BadPair =
    codes "at the right of an operation only another one may stand: write operands on the next lines"
fault_text fault.TooMany = codes "the operations before this line take no more operands: remove it"
fault_text fault.TooFew = codes "an operand is missing: write it on the line after the operations"
fault_text fault.NoPushUp = codes "nothing is popped for this operation: write its operand"
fault_text fault.NoStadr = codes "an operand that is left out before a store needs STADR as the last operation"
fault_text fault.StoreWanted = codes "STADR is the last operation before a store: write the store on the next line"
