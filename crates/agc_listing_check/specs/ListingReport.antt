-- The report on the text of a rope: that it has no fault, or the first fault of the first faulty line found.
use Rattle.std.specs.Prelude.{◌≡◌, ℕ, List, ◌++◌, codes, Result, Ok, Err}
use Rattle.std.specs.Fmt.{decimal}
use Rattle.agc_asm.specs.Source.{source_in}
use Rattle.agc_vocabulary.specs.FaultText.{fault_text}
use Rattle.agc_vocabulary.specs.declared.source_fault.SourceFault.{SourceFault}
use Rattle.agc_listing.specs.declared.fault.LineFault.TheVariants as line
use Rattle.agc_vocabulary.specs.declared.source_fault.SourceFault.TheVariants as fault
use Rattle.agc_asm.specs.declared.fault.AssemblyFault.{AssemblyFault}
use Rattle.agc_asm.specs.declared.fault.AssemblyFault.TheVariants as trouble

-- the number of a line, and its fault
unfoldable pub listing_fault_text : ℕ → SourceFault → List ℕ
listing_fault_text n reason =
    codes "text line " ++ decimal n ++ codes ": " ++ fault_text reason ++ codes "\n"

-- `why` shows which lines are in doubt, or the faulty line, and which of its words is wrong
abbrev pub listing_reported : {Parsed : Type 0} → Result Parsed AssemblyFault → List ℕ → List ℕ
listing_reported (Ok parsed) why = codes "text: no fault" ++ why
listing_reported (Err (trouble.Line n reason)) why = listing_fault_text n reason ++ why
listing_reported (Err (trouble.Overlap n earlier)) why = listing_fault_text n (fault.Listed line.NamedTwice) ++ why
listing_reported (Err trouble.Memory) why = why

pub record IsListingReport (file text : List ℕ) : Type 0 where
  pub why : List ℕ
  pub reported : text ≡ listing_reported (source_in file) why
