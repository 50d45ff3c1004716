-- The reports of `check` on its files.
use Rattle.std.specs.Prelude.{◌≡◌, ℕ, ◌&&◌, Bool, List, ◌++◌, Option, Some, None, is_none, is_ok}
use Rattle.std.specs.Prelude.{string_bytes}
use Rattle.agc_store.specs.RopeFile.{rope_fault_of}
use Rattle.agc_store.specs.declared.rope_file.RopeForm.{RopeForm}
use Rattle.agc_script.specs.Parse.{script_of}
use Rattle.agc_asm.specs.Source.{source_in}
use Rattle.agc_check.specs.KeyReport.{IsKeyReport, are_keys}
use Rattle.agc_listing_check.specs.ListingReport.{IsListingReport}
use Rattle.agc_check.specs.Report.{IsFileReport}
use Rattle.agc_listing.specs.declared.report.Report.{Report}
use Rattle.agc_io.specs.Input.{ExplainsUnread}
use Rattle.agc_io.specs.declared.input.ReadError.TheVariants as unread
use Rattle.agc_load.specs.declared.fault.LoadFault.TheVariants as refusal
use Rattle.agc_run_commands.specs.declared.fault.AnalysisFault.{AnalysisFault}
use Rattle.agc_run_commands.specs.declared.fault.AnalysisFault.TheVariants as analysis

-- a report on the bytes of two files: whether both are sound, and the text
pub record IsCheckedOf (form : RopeForm) (rope script : List ℕ) (report : Report) : Type 0 where
  pub sound : report.is_sound ≡ (is_none (rope_fault_of form rope) && is_ok (script_of script))
  pub text : IsFileReport form rope script (string_bytes report.text)

-- the same for the bytes that the readers of the files report
abbrev pub IsChecked : RopeForm → Option (List ℕ) → Option (List ℕ) → Report → Type 0
IsChecked form None script report = Unit {0}
IsChecked form (Some rope) None report = Unit {0}
IsChecked form (Some rope) (Some script) report = IsCheckedOf form rope script report

-- How a check of two files fails: the rope or the script could not be read (because it has too many bytes, if that is
-- the cause), or memory ran out.
abbrev pub IsUnchecked : Option (List ℕ) → Option (List ℕ) → AnalysisFault → Type 0
IsUnchecked rope script (analysis.Refused (refusal.CannotReadRope why)) =
    ExplainsUnread 1048576 rope (unread.CannotRead why)
IsUnchecked rope script (analysis.Refused (refusal.CannotReadScript why)) =
    ExplainsUnread 16777216 script (unread.CannotRead why)
IsUnchecked rope script (analysis.Refused refusal.Memory) = Unit {0}
IsUnchecked rope script t = ⊥

-- how a check of a text of live keys, or of the text of a rope, fails
abbrev pub AreKeysUnchecked : Option (List ℕ) → AnalysisFault → Type 0
AreKeysUnchecked keys (analysis.Refused (refusal.CannotReadKeys why)) =
    ExplainsUnread 65536 keys (unread.CannotRead why)
AreKeysUnchecked keys (analysis.Refused refusal.Memory) = Unit {0}
AreKeysUnchecked keys t = ⊥

abbrev pub IsListingUnchecked : AnalysisFault → Type 0
IsListingUnchecked analysis.CannotReadText = Unit {0}
IsListingUnchecked (analysis.Refused refusal.Memory) = Unit {0}
IsListingUnchecked t = ⊥

-- the report on the bytes of a text of live keys, and on those of the text of a rope
pub record AreKeysChecked (keys : List ℕ) (report : Report) : Type 0 where
  pub sound : report.is_sound ≡ are_keys keys
  pub text : IsKeyReport keys (string_bytes report.text)

pub record IsListingChecked (listing : List ℕ) (report : Report) : Type 0 where
  pub sound : report.is_sound ≡ is_ok (source_in listing)
  pub text : IsListingReport listing (string_bytes report.text)

-- two reports joined into one, which is sound if both are
pub record IsJoined (first second both : Report) : Type 0 where
  pub sound : both.is_sound ≡ (first.is_sound && second.is_sound)
  pub text : string_bytes both.text ≡ string_bytes first.text ++ string_bytes second.text

-- a report followed by another, if there is one
abbrev pub IsWithMore : Report → Option Report → Report → Type 0
IsWithMore first None whole = whole ≡ first
IsWithMore first (Some more) whole = IsJoined first more whole

-- a report on two files, followed by another, if there is one
pub record IsCheckedWith (form : RopeForm) (rope script : Option (List ℕ)) (more : Option Report)
    (whole : Report) : Type 0 where
  pub first : Report
  pub checked : IsChecked form rope script first
  pub joined : IsWithMore first more whole

-- the text of a report was written, or a beginning of it, and the report finds its files sound, or not
pub record IsWritten (Writes : Option (List ℕ) → Option (List ℕ) → List ℕ → Type 0)
    (report : Report) (is_sound : Bool) (before after : Option (List ℕ)) : Type 0 where
  pub sound : report.is_sound ≡ is_sound
  pub text : Writes before after (string_bytes report.text)

-- the report on two files was written, or a beginning of it, followed by the report on other files: all is sound, or
-- something is not
pub record IsCheckWritten (Writes : Option (List ℕ) → Option (List ℕ) → List ℕ → Type 0)
    (form : RopeForm) (rope script : Option (List ℕ)) (more : Option Report)
    (is_sound : Bool) (before after : Option (List ℕ)) : Type 0 where
  pub report : Report
  pub checked : IsCheckedWith form rope script more report
  pub written : IsWritten Writes report is_sound before after
