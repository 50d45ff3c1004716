-- Keys that are sent from the ground, by pulses of INLINK.
use Rattle.std.specs.Prelude.{ℕ, ◌+◌, ◌==◌, Bool, not, List, [], ◌∷◌, ◌++◌, Option, Some, if◌then◌else◌}
use Rattle.agc_word.specs.Number.{Number, bit_of, number_from_pattern}
use Rattle.agc_word.specs.declared.pulse.Pulse.{Pulse}
use Rattle.agc_word.specs.declared.pulse.Pulse.TheVariants as pulse
use Rattle.agc_script.specs.Key.{code_of, key_named}
use Rattle.agc_script.specs.Written.{event_text}
use Rattle.agc_script.specs.declared.event.What.TheVariants as what
use Rattle.agc_script.specs.declared.key.Key.{Key}
use Rattle.agc_script.specs.declared.key.Key.TheVariants as key

-- a digit, + and - by their names in scripts
abbrev pub named_alone : ℕ → Option Key
named_alone character = key_named (character ∷ [])

-- the other keys by a letter
abbrev pub key_sent : ℕ → Option Key
key_sent character =
    if character == 0x56 then Some key.Verb
    else (if character == 0x4E then Some key.Noun
    else (if character == 0x45 then Some key.Enter
    else (if character == 0x43 then Some key.Clear
    else (if character == 0x4B then Some key.KeyRelease
    else (if character == 0x52 then Some key.Reset
    else named_alone character)))))

-- a one is shifted in by SHANC, a zero by SHINC
abbrev pub pulse_of : Bool → Pulse
pulse_of is_one = if is_one then pulse.Shanc else pulse.Shinc

-- whether a bit of a code is one; bit 1 is the last
abbrev pub one_at : Number → ℕ → Bool
one_at code place = bit_of place code == 1

abbrev pub code_pulses : Number → List Pulse
code_pulses code =
    pulse_of (one_at code 5) ∷ pulse_of (one_at code 4) ∷ pulse_of (one_at code 3) ∷ pulse_of (one_at code 2) ∷ pulse_of (one_at code 1) ∷ []

abbrev pub complement_pulses : Number → List Pulse
complement_pulses code =
    pulse_of (not (one_at code 5)) ∷ pulse_of (not (one_at code 4)) ∷ pulse_of (not (one_at code 3)) ∷ pulse_of (not (one_at code 2)) ∷ pulse_of (not (one_at code 1)) ∷ []

-- a key's pulses: a one, then its code, the complement and the code again, the highest bit first
abbrev pub pulses_of : Number → List Pulse
pulses_of code = pulse.Shanc ∷ code_pulses code ++ complement_pulses code ++ code_pulses code

-- pulses of INLINK, cell 45 octal, as lines of a script: the first one at this cycle, then one after as many cycles
unfoldable pub bits_text : ℕ → ℕ → List Pulse → List ℕ
bits_text cycle bits [] = []
bits_text cycle bits (kind ∷ pulses) =
    event_text (record { cycle = cycle; what = what.Pulse 0o45 kind }) ++ bits_text (cycle + bits) bits pulses

-- the lines of a key
unfoldable pub key_text : ℕ → ℕ → Key → List ℕ
key_text cycle bits sent = bits_text cycle bits (pulses_of (number_from_pattern 15 (code_of sent)))

-- the lines of a script that sends keys: the first one at this cycle, then one after as many cycles
unfoldable pub keys_text : ℕ → ℕ → ℕ → List Key → List ℕ
keys_text cycle every bits [] = []
keys_text cycle every bits (sent ∷ keys) =
    key_text cycle bits sent ++ keys_text (cycle + every) every bits keys
