-- The periods of the scaler and the timers, in pulses: a cycle has 12 pulses, and a second 1,024,000.
use Rattle.std.specs.Prelude.{ℕ, ◌*◌}

-- the pulses that have passed at the start of a cycle
abbrev pub pulses_at : ℕ → ℕ
pulses_at cycle = 12 * cycle

-- one step of TIME1, TIME3, TIME4 and TIME5, a hundredth of a second
abbrev pub timer_period : ℕ
timer_period = 10240

-- The first steps. Those of TIME3, TIME4 and TIME5 are a quarter of a period apart, because the hardware spreads them.
abbrev pub time1_first : ℕ
time1_first = 10240

abbrev pub time3_first : ℕ
time3_first = 10240

abbrev pub time4_first : ℕ
time4_first = 7680

abbrev pub time5_first : ℕ
time5_first = 5120

-- one step of TIME6
abbrev pub time6_period : ℕ
time6_period = 640

-- one count of the scaler
abbrev pub scaler_period : ℕ
scaler_period = 320
