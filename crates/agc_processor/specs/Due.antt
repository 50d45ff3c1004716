-- The time that has passed at the start of a cycle.
use Rattle.std.specs.Prelude.{ℕ, ◌+◌, ◌*◌, ◌/◌, Bool, nat_le}
use Rattle.agc_processor.specs.Period.{pulses_at, scaler_period, time6_period, timer_period}

-- A timer's next step is due when its first step's pulses and the periods of all steps taken have passed.
abbrev pub is_due : ℕ → ℕ → ℕ → Bool
is_due cycle first taken = nat_le (first + timer_period * taken) (pulses_at cycle)

-- the periods of TIME6 that have passed, whether it was on or off
abbrev pub time6_periods : ℕ → ℕ
time6_periods cycle = pulses_at cycle / time6_period

-- the periods that the scaler has counted
abbrev pub scaler : ℕ → ℕ
scaler cycle = pulses_at cycle / scaler_period
