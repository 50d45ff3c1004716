-- The results for files that were read to their end.
use Rattle.std.proofs.Common.{◌≡◌, ◌≢◌, ◌≤◌, ℕ, List, length, subst}
use Rattle.std.specs.Prelude.{Option, None, Some, IfSome, Err}
use Rattle.std.specs.Io.KnownBytes.{Consumes, IsAtEnd}
use Rattle.agc_store.specs.declared.rope_file.RopeForm.{RopeForm}
use Rattle.agc_asm.specs.FaultText.{later_fault}
use Rattle.agc_asm.specs.Source.{source_in}
use Rattle.agc_asm.specs.declared.fault.AssemblyFault.{AssemblyFault}
use Rattle.agc_asm.specs.declared.fault.AssemblyFault.TheVariants as source
use Rattle.agc_io.proofs.Whole.{all_read, of_all}
use Rattle.agc_rope_commands.specs.Listed.{IsFaulty, IsWeaveRefused}
use Rattle.agc_run_commands.specs.declared.fault.AnalysisFault.{AnalysisFault}
use Rattle.agc_run_commands.specs.declared.fault.AnalysisFault.TheVariants as analysis
use Rattle.agc_listing.specs.declared.report.Report.{Report}
use Rattle.agc_rope_commands.specs.Checked.{AreKeysChecked, IsChecked, IsCheckedOf, IsListingChecked}

-- a text that was read and does not assemble
pub weave_refused : (before after : Option (List ℕ)) (text : List ℕ) (t : AnalysisFault) → Consumes before after text → IsAtEnd after → length text ≤ 16777216
    → (fault : AssemblyFault) × (t ≡ analysis.Text fault) × (fault ≢ source.Memory → source_in text ≡ Err (later_fault fault)) → IsWeaveRefused before t
weave_refused before after text t c end few (source.Memory, is, named) = rw is tt
weave_refused before after text t c end few (source.Line n why, is, named) =
    rw is (of_all before after text (λ all. IsFaulty all (source.Line n why)) c end (record { short = few; fault = named (λ h. cc) }))
weave_refused before after text t c end few (source.Overlap n earlier, is, named) =
    rw is (of_all before after text (λ all. IsFaulty all (later_fault (source.Overlap n earlier))) c end (record { short = few; fault = named (λ h. cc) }))

-- a report on the bytes of two files
pub checked : (form : RopeForm) (rope rope_left script script_left : Option (List ℕ)) (rope_read script_read : List ℕ) (report : Report)
    → Consumes rope rope_left rope_read → IsAtEnd rope_left → Consumes script script_left script_read → IsAtEnd script_left
    → IsCheckedOf form rope_read script_read report → IsChecked form rope script report
checked form None rope_left script script_left rope_read script_read report c e d f h = tt
checked form (Some rope) rope_left None script_left rope_read script_read report c e d f h = tt
checked form (Some rope) rope_left (Some script) script_left rope_read script_read report c e d f h =
    let of_rope = subst (λ r. IsCheckedOf form r script_read report) (all_read (Some rope) rope_left rope_read c e) h in
    subst (λ s. IsCheckedOf form rope s report) (all_read (Some script) script_left script_read d f) of_rope

-- a report on the bytes of a text of live keys, and of the text of a rope
pub keys_checked : (before after : Option (List ℕ)) (text : List ℕ) (report : Report) → Consumes before after text → IsAtEnd after → AreKeysChecked text report
    → IfSome before (λ all. AreKeysChecked all report)
keys_checked before after text report c end h = of_all before after text (λ all. AreKeysChecked all report) c end h

pub listing_checked : (before after : Option (List ℕ)) (text : List ℕ) (report : Report) → Consumes before after text → IsAtEnd after → IsListingChecked text report
    → IfSome before (λ all. IsListingChecked all report)
listing_checked before after text report c end h = of_all before after text (λ all. IsListingChecked all report) c end h
