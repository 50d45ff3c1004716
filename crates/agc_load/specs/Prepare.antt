-- How the options of a run are refused, before the run.
use Rattle.std.specs.Prelude.{ℕ, ◌==◌, ◌||◌, ◌&&◌, nat_lt, if◌then◌else◌, Bool, List, [], ◌∷◌}
use Rattle.std.specs.Prelude.{Option, Some, None, option_map, option_and_then}
use Rattle.std.specs.declared.alloc.Global.{Global}
use Rattle.std.specs.declared.string.String.{String}
use Rattle.agc_machine.specs.StopAddress.{stop_address_of}
use Rattle.agc_machine.specs.declared.machine.LimitFault.TheVariants as limit
use Rattle.agc_panel.specs.WatchSpec.{spec_of, watch_fault_of}
use Rattle.agc_panel.specs.declared.watch_spec.WatchSpec.{WatchSpec}
use Rattle.agc_panel.specs.declared.watch_spec.WatchFault.TheVariants as watch
use Rattle.agc_load.specs.Options.{parsed_by, says_nothing}
use Rattle.agc_load.specs.Steps.{Step, requires_resource, checks, refused_if}
use Rattle.agc_cli.specs.declared.session_options.Options.{Options}
use Rattle.agc_load.specs.declared.fault.LoadFault.{LoadFault}
use Rattle.agc_load.specs.declared.fault.LoadFault.TheVariants as refusal

-- a limit is 1 to 1,000,000,000,000 cycles
unfoldable pub limit_refusal : ℕ → Option LoadFault
limit_refusal cycles =
    if cycles == 0 then Some (refusal.Limit limit.Zero)
    else if nat_lt 1000000000000 cycles then Some (refusal.Limit limit.TooLarge)
    else None

-- the text of watched tables is valid, if given
unfoldable pub watch_spec_refusal : Option (String Global) → Option LoadFault
watch_spec_refusal watch = refused_if (says_nothing spec_of watch) refusal.BadWatchSpec

-- the text of a stop address is valid, if given
unfoldable pub until_refusal : Option (String Global) → Option LoadFault
until_refusal until = refused_if (says_nothing stop_address_of until) refusal.BadUntilSpec

-- the steps to a machine, and to the watched tables, if any
unfoldable pub start_steps : Option (String Global) → Option (String Global) → ℕ → List Step
start_steps until watch limit =
    checks (limit_refusal limit)
    ∷ checks (watch_spec_refusal watch)
    ∷ checks (until_refusal until)
    ∷ []

-- a ring has 1 to 65,536 slots
unfoldable pub slots_refusal : ℕ → Option LoadFault
slots_refusal slots = refused_if ((slots == 0) || nat_lt 65536 slots) refusal.Slots

-- live keys are at least a cycle apart
unfoldable pub spacing_refusal : Bool → ℕ → Option LoadFault
spacing_refusal live spacing = refused_if (live && (spacing == 0)) refusal.Spacing

unfoldable pub tables_refusal : Option WatchSpec → Option LoadFault
tables_refusal watch = option_map refusal.Watch (option_and_then watch_fault_of watch)

unfoldable pub run_steps : Options → List Step
run_steps options =
    checks (slots_refusal options.slots)
    ∷ checks (spacing_refusal options.live options.spacing)
    ∷ requires_resource refusal.Thread
    ∷ checks (tables_refusal (parsed_by spec_of options.watch))
    ∷ requires_resource refusal.Memory
    ∷ requires_resource (refusal.Watch watch.Memory)
    ∷ []
