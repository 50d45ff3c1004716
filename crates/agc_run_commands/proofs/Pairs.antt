-- The fault of two runs whose left one has none.
use Rattle.std.proofs.Common.{◌≡◌, ◌⊎◌, inl, inr, ℕ, List}
use Rattle.std.specs.Prelude.{Option}
use Rattle.std.specs.declared.alloc.Global.{Global}
use Rattle.std.specs.declared.string.String.{String}
use Rattle.agc_load.specs.declared.fault.LoadFault.{LoadFault}
use Rattle.agc_load.specs.declared.fault.LoadFault.TheVariants as refusal
use Rattle.agc_study_args.proofs.Starts.{memory_refused}
use Rattle.agc_study_args.specs.Started.{IsAccepted, IsRefused}
use Rattle.agc_study_args.specs.declared.args.RunOptions.{RunOptions}
use Rattle.agc_run_commands.specs.Fault.{other_error}
use Rattle.agc_run_commands.specs.Pairs.{IsPairRefused}
use Rattle.agc_run_commands.specs.declared.fault.AnalysisFault.{AnalysisFault}
use Rattle.agc_run_commands.specs.declared.fault.AnalysisFault.TheVariants as analysis

-- the error may be out of memory, or a fault of the right run
pub pair_refused : (options other : RunOptions) (watch : Option (String Global)) (left_rope left_script right_rope right_script : Option (List ℕ))
    → IsAccepted options watch left_rope left_script → (t : AnalysisFault)
    → (t ≡ analysis.Refused refusal.Memory) ⊎ ((r : LoadFault) × (t ≡ other_error r) × IsRefused other watch right_rope right_script r)
    → IsPairRefused options other watch left_rope left_script right_rope right_script t
pair_refused options other watch left_rope left_script right_rope right_script accepted t (inl is) = inl (refusal.Memory, is, memory_refused options watch left_rope left_script)
pair_refused options other watch left_rope left_script right_rope right_script accepted t (inr reported) = inr (accepted, reported.0, reported.1, reported.2)
