-- The fault of two runs.
use Rattle.std.specs.Prelude.{◌≡◌, ◌⊎◌, ℕ, List, Option}
use Rattle.std.specs.declared.alloc.Global.{Global}
use Rattle.std.specs.declared.string.String.{String}
use Rattle.agc_load.specs.declared.fault.LoadFault.{LoadFault}
use Rattle.agc_study_args.specs.Started.{IsAccepted, IsRefused}
use Rattle.agc_study_args.specs.declared.args.RunOptions.{RunOptions}
use Rattle.agc_run_commands.specs.Fault.{other_error}
use Rattle.agc_run_commands.specs.declared.fault.AnalysisFault.{AnalysisFault}
use Rattle.agc_run_commands.specs.declared.fault.AnalysisFault.TheVariants as analysis

-- The fault of two runs: that of the left run, or, if the left run has none, that of the right run, reported as the
-- other run's. The right run may have other options.
abbrev pub IsPairRefused : RunOptions → RunOptions → Option (String Global) → Option (List ℕ) → Option (List ℕ)
    → Option (List ℕ) → Option (List ℕ) → AnalysisFault → Type 0
IsPairRefused options other watch left_rope left_script right_rope right_script t =
    ((r : LoadFault) × (t ≡ analysis.Refused r) × IsRefused options watch left_rope left_script r)
    ⊎ (IsAccepted options watch left_rope left_script × (r : LoadFault) × (t ≡ other_error r)
    × IsRefused other watch right_rope right_script r)
