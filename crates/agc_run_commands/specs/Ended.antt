-- How the program ends: its exit status, and which stream was written to.
use Rattle.std.specs.Prelude.{◌≡◌, ℕ, ◌<◌, List, Option, Result, Ok}
use Rattle.std.specs.Io.KnownBytes.{Keeps}
use Rattle.agc_cli.specs.declared.fault.ArgsFault.{ArgsFault}
use Rattle.agc_study_args.specs.declared.args.Args.{Args}
use Rattle.agc_study_args.specs.declared.args.Args.TheVariants as args
use Rattle.agc_run_commands.specs.declared.streams.Streams.{Streams}

-- a status from 0 to 3: nothing on standard error below 2, nothing on standard output with 2
pub record IsEnded (ended : ℕ) (out_old out_new err_old err_new : Option (List ℕ)) : Type 0 where
  pub status : ended < 4
  pub silent : ended < 2 → Keeps err_old err_new
  pub nothing : ended ≡ 2 → Keeps out_old out_new

-- the same for these streams, whose contents are known by these functions
abbrev pub EndsWith : {W E N P : Type 0} → (W → Option (List ℕ)) → (E → Option (List ℕ)) → ℕ
    → Streams W E N P → Streams W E N P → Type 0
EndsWith out err ended before after =
    IsEnded ended (out before.out) (out after.out) (err before.err) (err after.err)

-- the subcommands whose status reports whether something is wrong
abbrev pub LooksForFaults : Result Args ArgsFault → Type 0
LooksForFaults (Ok (args.Check checking)) = Unit {0}
LooksForFaults (Ok (args.Compare comparing)) = Unit {0}
LooksForFaults (Ok (args.Words comparing)) = Unit {0}
LooksForFaults given = ⊥
