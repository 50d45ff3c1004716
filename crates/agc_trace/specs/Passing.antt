-- Boundaries that are known in advance to have no line.
use Rattle.std.specs.Prelude.{ℕ, ◌==◌, ◌&&◌, not, Bool, length, string_bytes, if◌then◌else◌}
use Rattle.agc_machine.specs.declared.upcoming.Upcoming.{Upcoming}
use Rattle.agc_trace.specs.Selection.{is_any_met, is_called, runs_at, touches}
use Rattle.agc_trace.specs.Touched.{is_away, touched_by}
use Rattle.agc_trace.specs.Trace.{is_stop}
use Rattle.agc_trace.specs.declared.selection.Selection.{Selection}

-- what happens meets the conditions on places, mnemonics and channels
abbrev pub is_met_by : Selection → Upcoming → Bool
is_met_by s happening =
    is_any_met (λ places. runs_at places happening) s.places.items
    && is_any_met (λ name. is_called (string_bytes name) happening) s.orders.items
    && is_any_met (λ channel. touches channel happening) s.channels.items

-- If cells are watched, none of them may change, with this bank in EB. If none are, what happens is not the stop and
-- does not meet the other conditions.
abbrev pub is_passed : Selection → ℕ → Upcoming → Bool
is_passed s bank happening =
    if length s.cells.items == 0
    then (not (is_stop happening) && not (is_met_by s happening))
    else is_away s.cells.items (touched_by bank happening)
