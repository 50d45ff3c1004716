-- How a pulse changes a counter cell, and whether a carry comes out.
use Rattle.std.specs.Prelude.{◌+◌, ◌-◌, ◌%◌, ◌==◌, ℕ, false, true, List}
use Rattle.std.specs.Prelude.{[], ◌∷◌, ◌++◌, codes, get_or, drop, if◌then◌else◌}
use Rattle.agc_word.specs.Number.{Number, plus_one, minus_one, number_from_pattern, pattern_of}
use Rattle.agc_word.specs.Arithmetic.{sum_of, narrow_of, over_of}
use Rattle.agc_word.specs.Digits.{digits, number_of_digits}
use Rattle.agc_word.specs.declared.wide.Over.{Over}
use Rattle.agc_word.specs.declared.wide.Over.TheVariants as over
use Rattle.agc_word.specs.declared.pulse.Pulse.{Pulse}
use Rattle.agc_word.specs.declared.pulse.Pulse.TheVariants as pulse
use Rattle.agc_word.specs.declared.pulse.Carry.{Carry}
use Rattle.agc_word.specs.declared.pulse.Carry.TheVariants as carry

-- the name of a pulse, as scripts write it
unfoldable pub pulse_name : Pulse → List ℕ
pulse_name pulse.Pinc = codes "pinc"
pulse_name pulse.Minc = codes "minc"
pulse_name pulse.Dinc = codes "dinc"
pulse_name pulse.Pcdu = codes "pcdu"
pulse_name pulse.Mcdu = codes "mcdu"
pulse_name pulse.Shinc = codes "shinc"
pulse_name pulse.Shanc = codes "shanc"

-- where DINC ends, from either side
abbrev pub minus_zero : Number
minus_zero = record { minus = true; magnitude = 0 }

-- overflow on either side carries out
abbrev pub carry_of : Over → Carry
carry_of over.None = carry.None
carry_of over.Plus = carry.Out
carry_of over.Minus = carry.Out

-- a wide sum goes back into a narrow counter, and its overflow is the carry
abbrev pub counted : Number → Number × Carry
counted s = (narrow_of s, carry_of (over_of s))

-- one step towards zero, which ends at -0; a counter that is at zero stays there and carries
abbrev pub diminished : Number → Number × Carry
diminished x =
    let less : Number = record x { magnitude = x.magnitude - 1 } in
    let nearer = if x.magnitude == 1 then minus_zero else less in
    if x.magnitude == 0 then (x, carry.Out) else (nearer, carry.None)

-- the digits move left one place, a new one enters on the right, and the first leaves as the carry
abbrev pub shifted_in : ℕ → List ℕ → Number × Carry
shifted_in d ds =
    (number_of_digits (drop 1 ds ++ d ∷ []), if get_or ds 0 0 == 1 then carry.Out else carry.None)

-- PINC and MINC count by one, DINC counts towards zero, PCDU and MCDU count an angle round its
-- circle of 100000 octal patterns, SHINC and SHANC shift in a 0 or a 1.
unfoldable pub pulsed : Pulse → Number → Number × Carry
pulsed pulse.Pinc x = counted (sum_of x plus_one)
pulsed pulse.Minc x = counted (sum_of x minus_one)
pulsed pulse.Dinc x = diminished x
pulsed pulse.Pcdu x = (number_from_pattern 15 ((pattern_of 15 x + 1) % 0o100000), carry.None)
pulsed pulse.Mcdu x = (number_from_pattern 15 ((pattern_of 15 x + 0o100000 - 1) % 0o100000), carry.None)
pulsed pulse.Shinc x = shifted_in 0 (digits 15 x)
pulsed pulse.Shanc x = shifted_in 1 (digits 15 x)
