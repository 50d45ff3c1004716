-- What a console is set to: its numbered breakpoints, and whether runs print their channel writes.
use Rattle.std.specs.Prelude.{ℕ, ◌+◌, ◌-◌, ◌^◌, ◌==◌, nat_le, min, not, Bool, false, All, List, [], ◌∷◌, ◌++◌, length, filter, codes}
use Rattle.std.specs.Fmt.{decimal}
use Rattle.std.specs.List.{list_any}
use Rattle.agc_command.specs.Command.{IsBreakpointInRange}
use Rattle.agc_command.specs.ConditionText.{breakpoint_text}
use Rattle.agc_repl.specs.declared.settings.Numbered.{Numbered}
use Rattle.agc_session.specs.declared.condition.Condition.{Condition}

-- the breakpoints in the order of their numbers, the last number given, and whether runs are quiet
pub record SettingsState : Type 0 where
  pub breakpoints : List Numbered
  pub last : ℕ
  pub quiet : Bool

abbrev pub at_first : SettingsState
at_first = record { breakpoints = []; last = 0; quiet = false }

abbrev pub most_breakpoints : ℕ
most_breakpoints = 64

abbrev pub is_full : SettingsState → Bool
is_full s = nat_le most_breakpoints (length s.breakpoints)

-- numbers are given from 1 on, each once, in a number of 64 bits
abbrev pub next_number : SettingsState → ℕ
next_number s = min (s.last + 1) (2 ^ 64 - 1)

abbrev pub next_numbered : Condition → SettingsState → Numbered
next_numbered what s = record { number = next_number s; what = what }

-- one more breakpoint
abbrev pub with_breakpoint : Condition → SettingsState → SettingsState
with_breakpoint what s =
    record s { breakpoints = s.breakpoints ++ next_numbered what s ∷ []; last = next_number s }

-- whether there is a breakpoint with this number
abbrev pub has_number : ℕ → SettingsState → Bool
has_number number s = list_any (λ b. b.number == number) s.breakpoints

-- the breakpoints without this one
abbrev pub without : ℕ → List Numbered → List Numbered
without number breakpoints = filter (λ b. not (b.number == number)) breakpoints

abbrev pub without_number : ℕ → SettingsState → SettingsState
without_number number s = record s { breakpoints = without number s.breakpoints }

-- each breakpoint is in its range
abbrev pub AreInRange : List Numbered → Type 0
AreInRange breakpoints = All (λ b. IsBreakpointInRange b.what) breakpoints

-- a breakpoint's number and what it is at
unfoldable pub numbered_text : Numbered → List ℕ
numbered_text b = decimal b.number ++ codes " " ++ breakpoint_text b.what ++ codes "\n"

-- the line of a breakpoint
abbrev pub breakpoint_line : Numbered → List ℕ
breakpoint_line b = codes "break " ++ numbered_text b
