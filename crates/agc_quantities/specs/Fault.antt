-- The line of a fault in a file of quantities.
use Rattle.std.specs.Prelude.{ℕ, ◌<◌, ◌≤◌, List, length}
use Rattle.agc_word.specs.Text.{lines_of}
use Rattle.agc_quantities.specs.declared.fault.QuantitiesFault.{QuantitiesFault}
use Rattle.agc_quantities.specs.declared.fault.QuantitiesFault.TheVariants as fault

-- the number of a faulty line is that of a line of the text, counted from 1
abbrev pub IsLineOf : List ℕ → QuantitiesFault → Type 0
IsLineOf text (fault.Line number why) = (0 < number) × (number ≤ length (lines_of text))
IsLineOf text fault.Nothing = Unit {0}
IsLineOf text fault.Memory = Unit {0}
