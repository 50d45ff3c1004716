-- The line that the program prints if it fails.
use Rattle.std.specs.Prelude.{ℕ, List, ◌++◌, Option, codes}
use Rattle.std.specs.Fmt.{decimal}
use Rattle.std.specs.Io.KnownBytes.{Appends}
use Rattle.agc_symbols.specs.NamesFile.{names_refusal_text}
use Rattle.agc_load.specs.Fault.{refusal_text}
use Rattle.agc_load.specs.declared.fault.LoadFault.{LoadFault}
use Rattle.agc_load.specs.declared.fault.LoadFault.TheVariants as refusal
use Rattle.agc_store.specs.declared.rope_file.RopeFault.{RopeFault}
use Rattle.agc_store.specs.declared.rope_file.RopeFault.TheVariants as rope
use Rattle.agc_script.specs.declared.fault.FaultKind.{FaultKind}
use Rattle.agc_script.specs.declared.fault.FaultKind.TheVariants as kind
use Rattle.agc_panel.specs.declared.watch_spec.WatchFault.{WatchFault}
use Rattle.agc_panel.specs.declared.watch_spec.WatchFault.TheVariants as watch
use Rattle.agc_asm.specs.FaultText.{overlap_text}
use Rattle.agc_vocabulary.specs.FaultText.{fault_text}
use Rattle.agc_asm.specs.declared.fault.AssemblyFault.{AssemblyFault}
use Rattle.agc_asm.specs.declared.fault.AssemblyFault.TheVariants as source
use Rattle.agc_run_commands.specs.declared.fault.AnalysisFault.{AnalysisFault}
use Rattle.agc_run_commands.specs.declared.fault.AnalysisFault.TheVariants as analysis

abbrev pub weave_text : AssemblyFault → List ℕ
weave_text (source.Line n why) = codes "text line " ++ decimal n ++ codes ": " ++ fault_text why
weave_text (source.Overlap n earlier) = codes "text line " ++ decimal n ++ codes ": " ++ overlap_text earlier
weave_text source.Memory = codes "memory"

-- the same of the second text of two
abbrev pub other_weave_text : AssemblyFault → List ℕ
other_weave_text (source.Line n why) = codes "other text line " ++ decimal n ++ codes ": " ++ fault_text why
other_weave_text (source.Overlap n earlier) = codes "other text line " ++ decimal n ++ codes ": " ++ overlap_text earlier
other_weave_text source.Memory = codes "memory"

-- what to do about a fault that `agc` reports by its name alone
abbrev pub rope_remedy : RopeFault → List ℕ
rope_remedy rope.Memory = codes ""
rope_remedy fault = codes "; agc-study check explains it"

abbrev pub script_remedy : FaultKind → List ℕ
script_remedy kind.Memory = codes ""
script_remedy fault = codes "; agc-study check explains it"

abbrev pub watch_remedy : WatchFault → List ℕ
watch_remedy watch.Memory = codes ""
watch_remedy fault = codes "; --watch needs tables in erasable memory, and at most 20 sets (octal)"

abbrev pub remedy_text : LoadFault → List ℕ
remedy_text (refusal.Rope fault) = rope_remedy fault
remedy_text (refusal.Script fault) = script_remedy fault.kind
remedy_text (refusal.Limit fault) = codes "; --limit is 1 to 1000000000000 cycles"
remedy_text refusal.BadWatchSpec = codes "; --watch is seven octal numbers with commas between them"
remedy_text (refusal.Watch fault) = watch_remedy fault
remedy_text refusal.BadUntilSpec = codes "; --until is BANK,ADDR in octal, or a name of --names"
remedy_text r = codes ""

-- the text: a fault in the words of `agc` and its remedy, after the name of the run if it is the right one
abbrev pub error_text : AnalysisFault → List ℕ
error_text (analysis.Refused r) = refusal_text r ++ remedy_text r
error_text (analysis.OtherRefused r) = codes "other run: " ++ refusal_text r ++ remedy_text r
error_text analysis.CannotReadText = codes "cannot read text"
error_text analysis.CannotReadOtherText = codes "cannot read other text"
error_text (analysis.Text fault) = weave_text fault
error_text (analysis.OtherText fault) = other_weave_text fault
error_text analysis.BadBankSpec = codes "no such bank: --bank is one or two octal digits, 00 to 43"
error_text (analysis.Unnamed r) = names_refusal_text r
error_text analysis.NoParity =
    codes "no parity bit is 1, as in the classic form; --form parity repairs it nevertheless"
error_text analysis.OtherLayout =
    codes "more than one word in ten has wrong parity: the file has another layout, or is no rope; agc-study check names the layout"
error_text analysis.PastLastBank =
    codes "the file is too long for --first-bank: its last word is past bank 43"
error_text (analysis.Undecided count) =
    codes "words that nothing decides: " ++ decimal count
    ++ codes "; --accept writes the rope all the same"
error_text analysis.EmptyBank =
    codes "a bank of --sum has only words +0, and no last word; agc-study sums prints the others"
error_text analysis.OtherBanks =
    codes "the file of --banks has not exactly their words: 2048 bytes a bank"

-- the line of an error
abbrev pub error_line : AnalysisFault → List ℕ
error_line t = codes "agc-study: " ++ error_text t ++ codes "\n"

-- the line of an error that may be reported was written
pub record IsReported (MayBe : AnalysisFault → Type 0) (before after : Option (List ℕ)) : Type 0 where
  pub fault : AnalysisFault
  pub may : MayBe fault
  pub line : Appends before after (error_line fault)

-- How a fault of the right run is reported: as the other run's if it concerns its rope or its script, and unchanged
-- if it concerns both runs.
abbrev pub other_error : LoadFault → AnalysisFault
other_error (refusal.CannotReadRope why) = analysis.OtherRefused (refusal.CannotReadRope why)
other_error (refusal.Rope why) = analysis.OtherRefused (refusal.Rope why)
other_error (refusal.CannotReadScript why) =
    analysis.OtherRefused (refusal.CannotReadScript why)
other_error (refusal.Script why) = analysis.OtherRefused (refusal.Script why)
other_error r = analysis.Refused r

-- How an error of the second of two files is reported.
abbrev pub second_error : AnalysisFault → AnalysisFault
second_error (analysis.Refused r) = other_error r
second_error analysis.CannotReadText = analysis.CannotReadOtherText
second_error (analysis.Text fault) = analysis.OtherText fault
second_error t = t
