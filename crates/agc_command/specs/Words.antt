-- The number of words of a command.
use Rattle.std.specs.Prelude.{ℕ, List, [], ◌∷◌, Result, Ok, Err}
use Rattle.agc_command.specs.declared.command.Command.{Command}
use Rattle.agc_command.specs.declared.fault.CommandFault.{CommandFault}
use Rattle.agc_command.specs.declared.fault.CommandFault.TheVariants.{Usage}
use Rattle.agc_command.specs.declared.name.CommandName.{CommandName}

-- the next step, unless there is a fault already
abbrev pub and_then : {T U : Type 0}
    → Result T CommandFault → (T → Result U CommandFault) → Result U CommandFault
and_then (Ok x) next = next x
and_then (Err fault) next = Err fault

-- the only word, or the usage fault
unfoldable pub only_word : CommandName → List (List ℕ) → Result (List ℕ) CommandFault
only_word name (word ∷ []) = Ok word
only_word name words = Err (Usage name)

-- a command without further words, or the usage fault
unfoldable pub alone : Command → CommandName → List (List ℕ) → Result Command CommandFault
alone command name [] = Ok command
alone command name (word ∷ words) = Err (Usage name)
