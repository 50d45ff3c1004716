-- The context in which a boundary begins: the interrupt being served, and whether INHINT is in force.
use Rattle.std.specs.Prelude.{true, false, Some, None}
use Rattle.agc_order.specs.declared.order.Basic.TheVariants as basic
use Rattle.agc_machine.specs.declared.upcoming.Upcoming.{Upcoming}
use Rattle.agc_machine.specs.declared.upcoming.Upcoming.TheVariants as upcoming
use Rattle.agc_profile.specs.Opcode.{named_of}
use Rattle.agc_profile.specs.declared.context.Context.{Context}
use Rattle.agc_profile.specs.declared.opcode.Opcode.{Opcode}
use Rattle.agc_profile.specs.declared.opcode.Opcode.TheVariants as named

-- a run begins with no interrupt served, and with interrupts allowed
abbrev pub at_start : Context
at_start = record { service = None; inhibited = false }

-- an order: RESUME ends a service, and INHINT is in force up to the next RELINT
abbrev pub mode_past : Opcode → Context → Context
mode_past (named.Basic basic.Resume) mode = record mode { service = None }
mode_past (named.Basic basic.Inhint) mode = record mode { inhibited = true }
mode_past (named.Basic basic.Relint) mode = record mode { inhibited = false }
mode_past _ mode = mode

-- the context of the next boundary, after this happened: an interrupt begins a service
abbrev pub mode_after : Upcoming → Context → Context
mode_after (upcoming.Order order) mode = mode_past (named_of order) mode
mode_after (upcoming.Interrupt r) mode = record mode { service = Some r }
mode_after (upcoming.Stop why) mode = mode
mode_after (upcoming.Event what) mode = mode
mode_after (upcoming.Timer t) mode = mode
