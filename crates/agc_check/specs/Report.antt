-- The report on a rope file and a script file: what they hold, or their faults.
use Rattle.std.specs.Prelude.{◌≡◌, ℕ, ◌-◌, List, [], ◌++◌, codes, slice_get, unwrap_or}
use Rattle.std.specs.Prelude.{Option, Some, None, Result, Ok, Err}
use Rattle.std.specs.Fmt.{decimal}
use Rattle.agc_store.specs.declared.rope_file.RopeForm.{RopeForm}
use Rattle.agc_word.specs.Text.{lines_of}
use Rattle.agc_script.specs.Parse.{script_of}
use Rattle.agc_script.specs.declared.event.Event.{Event}
use Rattle.agc_script.specs.declared.fault.ScriptFault.{ScriptFault}
use Rattle.agc_load.specs.Fault.{refusal_text}
use Rattle.agc_load.specs.declared.fault.LoadFault.TheVariants as refusal
use Rattle.agc_check.specs.Holdings.{script_holdings}
use Rattle.agc_check.specs.RopeReport.{rope_report}
use Rattle.agc_listing.specs.Shown.{shown_line}
use Rattle.agc_check.specs.declared.holdings.ScriptHoldings.{ScriptHoldings}
use Rattle.agc_check.specs.declared.holdings.Span.{Span}

abbrev pub span_text : Option Span → List ℕ
span_text None = codes ""
span_text (Some span) =
    codes ", first cycle " ++ decimal span.first ++ codes ", last cycle " ++ decimal span.last

unfoldable pub script_holdings_text : ScriptHoldings → List ℕ
script_holdings_text held =
    codes "script: events " ++ decimal held.events ++ span_text held.span ++ codes "\n"

-- the line with a number, counted from 1
abbrev pub line_numbered : List ℕ → ℕ → List ℕ
line_numbered file n = unwrap_or (slice_get (lines_of file) (n - 1)) []

-- a fault worded as in `agc`, and the line with the fault
unfoldable pub script_fault_text : List ℕ → ScriptFault → List ℕ
script_fault_text file fault =
    refusal_text (refusal.Script fault) ++ codes "\n"
    ++ codes "    " ++ shown_line (line_numbered file fault.line) ++ codes "\n"

-- the report on a script file; `why` explains a fault by the words of its line
abbrev pub script_reported : Result (List Event) ScriptFault → List ℕ → List ℕ → List ℕ
script_reported (Ok events) file why = script_holdings_text (script_holdings events)
script_reported (Err fault) file why = script_fault_text file fault ++ why

-- the report on a script file follows the text before it
pub record IsScriptReport (file before after : List ℕ) : Type 0 where
  pub why : List ℕ
  pub text : after ≡ before ++ script_reported (script_of file) file why

-- the report on a rope file of a form and a script file
pub record IsFileReport (form : RopeForm) (rope script text : List ℕ) : Type 0 where
  pub why : List ℕ
  pub reported : text ≡ rope_report form rope ++ script_reported (script_of script) script why
