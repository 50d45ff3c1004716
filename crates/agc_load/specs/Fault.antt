-- The line that the program prints when it refuses to run.
use Rattle.std.specs.Prelude.{ℕ, List, ◌++◌, codes}
use Rattle.std.specs.Fmt.{decimal}
use Rattle.agc_store.specs.declared.rope_file.RopeFault.{RopeFault}
use Rattle.agc_store.specs.declared.rope_file.RopeFault.TheVariants as rope
use Rattle.agc_script.specs.declared.fault.FaultKind.{FaultKind}
use Rattle.agc_script.specs.declared.fault.FaultKind.TheVariants as kind
use Rattle.agc_machine.specs.declared.machine.LimitFault.{LimitFault}
use Rattle.agc_machine.specs.declared.machine.LimitFault.TheVariants as limit
use Rattle.agc_panel.specs.declared.watch_spec.WatchFault.{WatchFault}
use Rattle.agc_panel.specs.declared.watch_spec.WatchFault.TheVariants as watch
use Rattle.agc_load.specs.declared.fault.LoadFault.{LoadFault}
use Rattle.agc_load.specs.declared.fault.LoadFault.TheVariants as refusal

abbrev pub rope_fault_name : RopeFault → List ℕ
rope_fault_name rope.Empty = codes "Empty"
rope_fault_name rope.OddLength = codes "OddLength"
rope_fault_name rope.TooLong = codes "TooLong"
rope_fault_name (rope.Parity bank offset) = codes "Parity"
rope_fault_name rope.Memory = codes "Memory"

abbrev pub script_fault_name : FaultKind → List ℕ
script_fault_name kind.LineTooLong = codes "LineTooLong"
script_fault_name kind.NotAscii = codes "NotAscii"
script_fault_name kind.BadCycle = codes "BadCycle"
script_fault_name kind.OutOfOrder = codes "OutOfOrder"
script_fault_name kind.UnknownWord = codes "UnknownWord"
script_fault_name kind.BadNumber = codes "BadNumber"
script_fault_name kind.OutOfRange = codes "OutOfRange"
script_fault_name kind.TooMany = codes "TooMany"
script_fault_name kind.Memory = codes "Memory"

abbrev pub limit_fault_name : LimitFault → List ℕ
limit_fault_name limit.Zero = codes "Zero"
limit_fault_name limit.TooLarge = codes "TooLarge"

abbrev pub watch_fault_name : WatchFault → List ℕ
watch_fault_name (watch.OutOfErasable table) = codes "OutOfErasable"
watch_fault_name watch.TooManySets = codes "TooManySets"
watch_fault_name watch.Memory = codes "Memory"

-- the text of a refusal: a fault by its name alone
abbrev pub refusal_text : LoadFault → List ℕ
refusal_text (refusal.CannotReadRope why) = codes "cannot read rope"
refusal_text (refusal.Rope fault) = codes "rope: " ++ rope_fault_name fault
refusal_text (refusal.CannotReadScript why) = codes "cannot read script"
refusal_text (refusal.Script fault) =
    codes "script line " ++ decimal fault.line ++ codes ": " ++ script_fault_name fault.kind
refusal_text (refusal.Limit fault) = codes "limit: " ++ limit_fault_name fault
refusal_text refusal.BadWatchSpec = codes "watch: BadSpec"
refusal_text refusal.BadUntilSpec = codes "until: BadSpec"
refusal_text (refusal.CannotReadKeys why) = codes "cannot read keys"
refusal_text refusal.BadKey = codes "keys: BadKey"
refusal_text refusal.Slots = codes "slots"
refusal_text refusal.Spacing = codes "spacing"
refusal_text refusal.Thread = codes "thread"
refusal_text (refusal.Watch fault) = codes "watch: " ++ watch_fault_name fault
refusal_text refusal.Memory = codes "memory"

-- the line of a refusal
abbrev pub refusal_line : LoadFault → List ℕ
refusal_line r = codes "agc: " ++ refusal_text r ++ codes "\n"
