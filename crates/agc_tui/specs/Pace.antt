-- Speeds, and which cycle is due at which time of the clock.
use Rattle.std.specs.Prelude.{ℕ, ◌+◌, ◌-◌, ◌*◌, ◌/◌, ◌^◌, Bool, nat_lt, if◌then◌else◌, List, [], ◌∷◌, codes, find}
use Rattle.std.specs.Prelude.{Option, Some, None}
use Rattle.std.specs.Str.{bytes_eq}
use Rattle.agc_tui.specs.declared.pacer.Pacer.{Pacer}
use Rattle.agc_tui.specs.declared.pacer.Ratio.{Ratio}
use Rattle.agc_tui.specs.declared.pacer.Speed.{Speed}
use Rattle.agc_tui.specs.declared.pacer.Speed.TheVariants as speed

-- this many times the hardware's speed, divided by this
abbrev pub over : ℕ → ℕ → Ratio
over times parts = record { times = times; parts = parts }

-- a speed as a fraction of the hardware's
abbrev pub ratio_of : Speed → Option Ratio
ratio_of speed.Hundredth = Some (over 1 100)
ratio_of speed.Tenth = Some (over 1 10)
ratio_of speed.Real = Some (over 1 1)
ratio_of speed.Ten = Some (over 10 1)
ratio_of speed.Hundred = Some (over 100 1)
ratio_of speed.Thousand = Some (over 1000 1)
ratio_of speed.Fastest = None

-- the next faster and the next slower speed
abbrev pub faster_than : Speed → Speed
faster_than speed.Hundredth = speed.Tenth
faster_than speed.Tenth = speed.Real
faster_than speed.Real = speed.Ten
faster_than speed.Ten = speed.Hundred
faster_than speed.Hundred = speed.Thousand
faster_than speed.Thousand = speed.Fastest
faster_than speed.Fastest = speed.Fastest

abbrev pub slower_than : Speed → Speed
slower_than speed.Hundredth = speed.Hundredth
slower_than speed.Tenth = speed.Hundredth
slower_than speed.Real = speed.Tenth
slower_than speed.Ten = speed.Real
slower_than speed.Hundred = speed.Ten
slower_than speed.Thousand = speed.Hundred
slower_than speed.Fastest = speed.Thousand

-- the cycles in this many microseconds: the hardware makes 1,024 cycles in 12,000 microseconds
abbrev pub cycles_in : ℕ → Ratio → ℕ
cycles_in micros ratio = micros * ratio.times * 1024 / (12000 * ratio.parts)

-- a number, or the largest of 64 bits if it is larger
abbrev pub capped : ℕ → ℕ
capped n = if nat_lt n (2 ^ 64) then n else 2 ^ 64 - 1

-- the cycle due this many microseconds after a cycle: with no ratio, the last one
abbrev pub due_after : ℕ → ℕ → Option Ratio → ℕ
due_after from micros (Some ratio) = capped (from + cycles_in micros ratio)
due_after from micros None = 2 ^ 64 - 1

-- The cycle due at a time of the clock. During a pause it is the one of the beginning.
abbrev pub due_at : Pacer → ℕ → ℕ
due_at p micros =
    if p.is_paused then p.from else due_after p.from (micros - p.since) (ratio_of p.speed)

-- the name of a speed
abbrev pub speed_name : Speed → List ℕ
speed_name speed.Hundredth = codes "1/100"
speed_name speed.Tenth = codes "1/10"
speed_name speed.Real = codes "1"
speed_name speed.Ten = codes "10"
speed_name speed.Hundred = codes "100"
speed_name speed.Thousand = codes "1000"
speed_name speed.Fastest = codes "max"

-- all speeds, the slowest first
abbrev pub all_speeds : List Speed
all_speeds =
    speed.Hundredth ∷ speed.Tenth ∷ speed.Real ∷ speed.Ten ∷ speed.Hundred ∷ speed.Thousand
    ∷ speed.Fastest ∷ []

-- the speed of a name
abbrev pub has_speed_name : List ℕ → Speed → Bool
has_speed_name name which = bytes_eq name (speed_name which)

unfoldable pub speed_named : List ℕ → Option Speed
speed_named name = find (has_speed_name name) all_speeds
