-- A command that is written as text reads back as the same event.
use Rattle.std.specs.Prelude.{◌≡◌, ◌≢◌, ℕ, ◌+◌, ◌^◌, ◌≤◌, ◌<◌, nat_le, Bool, true, false, not, ◌&&◌, List, [], ◌∷◌, length, codes, Some, Ok, All}
use Rattle.std.specs.Fmt.{decimal}
use Rattle.std.specs.List.{list_all}
use Rattle.std.proofs.Common.{refl, arith, append_assoc}
use Rattle.std.proofs.lemmas.Bool.Decides.{nat_tests}
use Rattle.std.proofs.lemmas.List.Elements.{All-cons, All-nil}
use Rattle.agc_word.specs.Numeral.{is_digit}
use Rattle.agc_word.specs.Number.{Number, number_from_pattern, pattern_of}
use Rattle.agc_word.specs.declared.pulse.Pulse.{Pulse}
use Rattle.agc_word.specs.declared.pulse.Pulse.TheVariants as pulse
use Rattle.agc_script.specs.Command.{command_of, input_event, input_of, key_of, number_in, one_of, poke_event, poke_of_words, pro_of, pulse_event, pulse_of, raise_event, raise_of, parsed_by, three_of, two_of}
use Rattle.agc_script.specs.Event.{IsNarrow, IsWhatInRange}
use Rattle.agc_script.specs.Grammar.{all_commands, command_name, command_named, direction_name, direction_named, directions, pulse_named, pulses}
use Rattle.agc_script.specs.Key.{all_keys, key_named, name_of}
use Rattle.agc_word.specs.Text.{is_empty_part, words_of}
use Rattle.agc_script.specs.Written.{plain_octal, what_text}
use Rattle.agc_script.specs.declared.event.What.{What}
use Rattle.agc_script.specs.declared.event.What.TheVariants as what
use Rattle.agc_script.specs.declared.grammar.Base.TheVariants as base
use Rattle.agc_script.specs.declared.key.Key.{Key}
use Rattle.agc_script.specs.declared.key.Key.TheVariants as key
use Rattle.agc_script.proofs.Octals.{all_octal, length_octal, octal_back}
use Rattle.agc_script.proofs.Spaced.{IsWord, is_solid, passes, spaced, words_spaced}
use Rattle.agc_script.proofs.Spelled.{decimals, digits_are, digits_some, length_spelled, number_back, octal}
use Rattle.agc_word.specs.Pulses.{pulse_name}
use Rattle.agc_word.specs.Octal.{word_digits}

-- a word that is known is a word in print
abbrev is_word : List ℕ → Bool
is_word word = list_all is_solid word && not (is_empty_part word) && nat_le (length word) 13

known : (word : List ℕ) → is_word word ≡ true → IsWord 13 word
known word h = record { solid = grind (arith, nat_tests); some = grind (arith, nat_tests); short = grind (arith, nat_tests) }

-- a name reads back as what it names
key_back : (k : Key) → (is_word (name_of k) ≡ true) × (key_named (name_of k) ≡ Some k)
unfolding name_of key_named all_keys
key_back key.Zero = (refl, refl)
key_back key.One = (refl, refl)
key_back key.Two = (refl, refl)
key_back key.Three = (refl, refl)
key_back key.Four = (refl, refl)
key_back key.Five = (refl, refl)
key_back key.Six = (refl, refl)
key_back key.Seven = (refl, refl)
key_back key.Eight = (refl, refl)
key_back key.Nine = (refl, refl)
key_back key.Verb = (refl, refl)
key_back key.Noun = (refl, refl)
key_back key.Reset = (refl, refl)
key_back key.KeyRelease = (refl, refl)
key_back key.Plus = (refl, refl)
key_back key.Minus = (refl, refl)
key_back key.Enter = (refl, refl)
key_back key.Clear = (refl, refl)

pulse_back : (kind : Pulse) → kind ≢ pulse.Dinc → (is_word (pulse_name kind) ≡ true) × (pulse_named (pulse_name kind) ≡ Some kind)
unfolding pulse_name pulse_named pulses
pulse_back pulse.Pinc h = (refl, refl)
pulse_back pulse.Minc h = (refl, refl)
pulse_back pulse.Pcdu h = (refl, refl)
pulse_back pulse.Mcdu h = (refl, refl)
pulse_back pulse.Shinc h = (refl, refl)
pulse_back pulse.Shanc h = (refl, refl)
pulse_back pulse.Dinc h = absurd (h refl)

direction_back : (down : Bool) → (is_word (direction_name down) ≡ true) × (direction_named (direction_name down) ≡ Some down)
unfolding direction_name direction_named directions
direction_back true = (refl, refl)
direction_back false = (refl, refl)

-- a number in print is a word, and reads back
digit_is_solid : (base b : ℕ) → base ≤ 10 → is_digit base b ≡ true → is_solid b ≡ true
digit_is_solid base b few h = grind (arith, nat_tests)

some_part : (text : List ℕ) → 1 ≤ length text → is_empty_part text ≡ false
some_part [] h = absurd (omega arith)
some_part (b ∷ bs) h = refl

pub decimal_word : (n : ℕ) → n < 10 ^ 13 → IsWord 13 (decimal n)
decimal_word n h = record {
  solid = passes (is_digit 10) is_solid (λ b. digit_is_solid 10 b (omega arith)) (decimal n) (digits_are 10 decimals 12 n (omega arith) h);
  some = some_part (decimal n) (digits_some 10 decimals 12 n (omega arith) h);
  short = length_spelled 10 decimals 12 n (omega arith) h;
}

octal_word : (n : ℕ) → n < 8 ^ 6 → IsWord 13 (plain_octal n)
octal_word n h =
    let short : length (plain_octal n) ≤ 6 = length_spelled 8 octal 5 n (omega arith) h in
    record {
      solid = passes (is_digit 8) is_solid (λ b. digit_is_solid 8 b (omega arith)) (plain_octal n) (digits_are 8 octal 5 n (omega arith) h);
      some = some_part (plain_octal n) (digits_some 8 octal 5 n (omega arith) h);
      short = omega (arith, short);
    }

value_solid : (digit : ℕ) → digit < 8 → is_solid (48 + digit) ≡ true
value_solid digit h = grind (arith, nat_tests)

value_word : (value : Number) → IsWord 13 (word_digits value)
value_word value =
    let long : length (word_digits value) ≡ 5 = length_octal 5 (pattern_of 15 value) in
    record {
      solid = all_octal is_solid value_solid 5 (pattern_of 15 value);
      some = some_part (word_digits value) (omega (arith, long));
      short = omega (arith, long);
    }

octal_read : (n : ℕ) → n < 8 ^ 6 → number_in base.Octal (plain_octal n) ≡ Ok n
unfolding number_in
octal_read n h = rw (number_back 8 octal 5 n (omega arith) h) refl

decimal_read : (n : ℕ) → n < 10 ^ 6 → number_in base.Decimal (decimal n) ≡ Ok n
unfolding number_in
decimal_read n h = rw (number_back 10 decimals 5 n (omega arith) h) refl

pattern_fits : (minus : Bool) (magnitude : ℕ) → magnitude < 2 ^ 14 → pattern_of 15 (record { minus = minus; magnitude = magnitude }) < 2 ^ 15
pattern_fits true magnitude h = omega arith
pattern_fits false magnitude h = omega arith

value_read : (value : Number) → IsNarrow value → number_in base.Octal (word_digits value) ≡ Ok (pattern_of 15 value)
unfolding number_in
value_read value h =
    let fits : pattern_of 15 value < 2 ^ 15 = pattern_fits value.minus value.magnitude h in
    rw (octal_back 6 5 (pattern_of 15 value) (omega arith) (omega arith) (omega (arith, fits))) refl

value_signed : (minus : Bool) (magnitude : ℕ) → magnitude < 2 ^ 14
    → number_from_pattern 15 (pattern_of 15 (record { minus = minus; magnitude = magnitude })) ≡ record { minus = minus; magnitude = magnitude }
value_signed true magnitude h = grind (arith, nat_tests)
value_signed false magnitude h = grind (arith, nat_tests)

value_back : (value : Number) → IsNarrow value → number_from_pattern 15 (pattern_of 15 value) ≡ value
value_back value h = value_signed value.minus value.magnitude h

-- the words of a command
abbrev pub name_word : What → List ℕ
name_word (what.Key key) = codes "key"
name_word (what.Pro down) = codes "pro"
name_word (what.Input channel value) = codes "input"
name_word (what.Pulse counter kind) = codes "pulse"
name_word (what.Raise number) = codes "raise"
name_word (what.Poke bank offset value) = codes "poke"

abbrev pub arguments : What → List (List ℕ)
arguments (what.Key key) = name_of key ∷ []
arguments (what.Pro down) = direction_name down ∷ []
arguments (what.Input channel value) = plain_octal channel ∷ word_digits value ∷ []
arguments (what.Pulse counter kind) = plain_octal counter ∷ pulse_name kind ∷ []
arguments (what.Raise number) = decimal number ∷ []
arguments (what.Poke bank offset value) = plain_octal bank ∷ plain_octal offset ∷ word_digits value ∷ []

pub is_spaced : (what : What) → what_text what ≡ spaced (name_word what) (arguments what)
unfolding what_text
is_spaced (what.Key key) = refl
is_spaced (what.Pro down) = refl
is_spaced (what.Input channel value) = simp append_assoc refl
is_spaced (what.Pulse counter kind) = simp append_assoc refl
is_spaced (what.Raise number) = refl
is_spaced (what.Poke bank offset value) = simp append_assoc refl

pub name_is_word : (what : What) → IsWord 13 (name_word what)
name_is_word (what.Key key) = known (codes "key") refl
name_is_word (what.Pro down) = known (codes "pro") refl
name_is_word (what.Input channel value) = known (codes "input") refl
name_is_word (what.Pulse counter kind) = known (codes "pulse") refl
name_is_word (what.Raise number) = known (codes "raise") refl
name_is_word (what.Poke bank offset value) = known (codes "poke") refl

abbrev AllWords : List (List ℕ) → Type 0
AllWords words = All (IsWord 13) words

one_word : (a : List ℕ) → IsWord 13 a → AllWords (a ∷ [])
one_word a h = All-cons (IsWord 13) a [] h (All-nil (IsWord 13))

two_words : (a b : List ℕ) → IsWord 13 a → IsWord 13 b → AllWords (a ∷ b ∷ [])
two_words a b h k = All-cons (IsWord 13) a (b ∷ []) h (one_word b k)

pub are_words : (what : What) → IsWhatInRange what → AllWords (arguments what)
unfolding IsWhatInRange
are_words (what.Key key) h = one_word (name_of key) (known (name_of key) (key_back key).0)
are_words (what.Pro down) h = one_word (direction_name down) (known (direction_name down) (direction_back down).0)
are_words (what.Input channel value) h = two_words (plain_octal channel) (word_digits value) (octal_word channel (omega (arith, h.0.1))) (value_word value)
are_words (what.Pulse counter kind) h = two_words (plain_octal counter) (pulse_name kind) (octal_word counter (omega (arith, h.0.1))) (known (pulse_name kind) (pulse_back kind h.1).0)
are_words (what.Raise number) h = one_word (decimal number) (decimal_word number (omega (arith, h.1)))
are_words (what.Poke bank offset value) h =
    All-cons (IsWord 13) (plain_octal bank) (plain_octal offset ∷ word_digits value ∷ []) (octal_word bank (omega (arith, h.0.0)))
    (two_words (plain_octal offset) (word_digits value) (octal_word offset (omega (arith, h.0.1))) (value_word value))

-- the meaning of the words
pub says : (what : What) → IsWhatInRange what → command_of (name_word what ∷ arguments what) ≡ Ok what
unfolding IsWhatInRange command_of command_named all_commands command_name parsed_by key_of pro_of input_of pulse_of raise_of poke_of_words one_of two_of three_of input_event pulse_event raise_event poke_event
says (what.Key key) h = rw (key_back key).1 refl
says (what.Pro down) h = rw (direction_back down).1 refl
says (what.Input channel value) h =
    let fits : pattern_of 15 value < 2 ^ 15 = pattern_fits value.minus value.magnitude h.1 in
    rw (octal_read channel (omega (arith, h.0.1)), value_read value h.1, value_back value h.1) (grind (arith, nat_tests))
says (what.Pulse counter kind) h = rw ((pulse_back kind h.1).1, octal_read counter (omega (arith, h.0.1))) (grind (arith, nat_tests))
says (what.Raise number) h = rw (decimal_read number (omega (arith, h.1))) (grind (arith, nat_tests))
says (what.Poke bank offset value) h =
    let fits : pattern_of 15 value < 2 ^ 15 = pattern_fits value.minus value.magnitude h.1 in
    rw (octal_read bank (omega (arith, h.0.0)), octal_read offset (omega (arith, h.0.1)), value_read value h.1, value_back value h.1) (grind (arith, nat_tests))

pub command_back : (what : What) → IsWhatInRange what → command_of (words_of (what_text what)) ≡ Ok what
command_back what h =
    rw (is_spaced what, words_spaced 13 (name_word what) (arguments what) (name_is_word what) (are_words what h)) (says what h)
