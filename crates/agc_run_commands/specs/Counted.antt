-- The profile of the run of a rope and a script.
use Rattle.std.specs.Prelude.{◌≡◌, ℕ, List, Option, None}
use Rattle.agc_machine.specs.State.{State}
use Rattle.agc_profile.specs.Profile.{count_of}
use Rattle.agc_profile.specs.Step.{steps_in}
use Rattle.agc_run_commands.specs.declared.counts.Profiled.{Profiled}
use Rattle.agc_study_args.specs.declared.args.ProfileArgs.{ProfileArgs}
use Rattle.agc_study_args.specs.Started.{IsStarted}

-- the profile of the machine of two files: it counts the boundaries in the span, and the rope is that of the file
pub record IsCounted (args : ProfileArgs) (rope script : Option (List ℕ)) (profiled : Profiled) : Type 0 where
  pub machine : State
  pub start : IsStarted args.options None rope script machine
  pub profile : profiled.profile ≡ count_of (steps_in args.span machine)
  pub same_rope : profiled.machine.processor.store.fixed ≡ machine.processor.store.fixed
