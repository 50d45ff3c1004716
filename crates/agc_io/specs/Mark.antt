-- The cycles at which progress is reported.
use Rattle.std.specs.Prelude.{ℕ, ◌+◌, min, nat_lt, if◌then◌else◌}

-- cycles between two reports
abbrev pub stride : ℕ
stride = 1000000

-- The next mark after a report at a cycle. After the last number of 64 bits there is none; no run goes that far.
abbrev pub next_mark : ℕ → ℕ
next_mark cycle = min (cycle + stride) 18446744073709551615

-- the next mark when a run has reached a cycle: it stays as long as the run is before it
abbrev pub mark_after : ℕ → ℕ → ℕ
mark_after mark cycle = if nat_lt cycle mark then mark else next_mark cycle
