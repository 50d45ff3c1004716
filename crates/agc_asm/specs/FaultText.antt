-- The messages for a faulty source.
use Rattle.std.specs.Prelude.{ℕ, List, ◌++◌, codes}
use Rattle.std.specs.Fmt.{decimal}
use Rattle.agc_listing.specs.declared.fault.LineFault.TheVariants as line
use Rattle.agc_vocabulary.specs.FaultText.{fault_text}
use Rattle.agc_vocabulary.specs.declared.source_fault.SourceFault.TheVariants as fault
use Rattle.agc_asm.specs.declared.fault.AssemblyFault.{AssemblyFault}
use Rattle.agc_asm.specs.declared.fault.AssemblyFault.TheVariants as trouble

-- an overlap is the fault of its later line
abbrev pub later_fault : AssemblyFault → AssemblyFault
later_fault (trouble.Overlap n earlier) = trouble.Line n (fault.Listed line.NamedTwice)
later_fault why = why

-- two lines have a word for one place
abbrev pub overlap_text : ℕ → List ℕ
overlap_text earlier = codes "line " ++ decimal earlier ++ codes " has a word for this place: write each place once"

abbrev pub trouble_text : AssemblyFault → List ℕ
trouble_text (trouble.Line n why) = codes "line " ++ decimal n ++ codes ": " ++ fault_text why
trouble_text (trouble.Overlap n earlier) = codes "line " ++ decimal n ++ codes ": " ++ overlap_text earlier
trouble_text trouble.Memory = codes "memory"
