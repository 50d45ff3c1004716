-- The text of a report.
use Rattle.std.specs.Prelude.{ℕ, List, [], ◌++◌, Option, Some, None}
use Rattle.agc_panel.specs.TablesText.{tables_text}
use Rattle.agc_panel.specs.Text.{panel_text}
use Rattle.agc_run.specs.Text.{stop_line, log_text, live_text}
use Rattle.agc_run.specs.declared.report.Report.{Report}

-- the text of a part, if the report has it
abbrev pub part_text : {A : Type 0} → (A → List ℕ) → Option A → List ℕ
part_text text None = []
part_text text (Some part) = text part

-- the panel, the stop, and then the log, the live keys and the watched tables, if present
unfoldable pub report_text : Report → List ℕ
report_text report =
    panel_text report.panel
    ++ stop_line report.stop report.cycle report.writes
    ++ part_text log_text report.log
    ++ part_text live_text report.keys
    ++ part_text tables_text report.tables
