-- The relay words, which the program writes to OUT0: a row, a sign and two digits.
use Rattle.std.specs.Prelude.{ℕ, ◌+◌, ◌-◌, ◌/◌, ◌%◌, ◌^◌, ◌==◌, Bool, ◌&&◌, if◌then◌else◌, Option}
use Rattle.std.specs.Prelude.{Some, None}
use Rattle.agc_word.specs.Number.{Number, pattern_of, bit_of}
use Rattle.agc_word.specs.declared.channel_write.ChannelWrite.{ChannelWrite}
use Rattle.agc_word.specs.Channels.{out0}
use Rattle.agc_panel.specs.declared.digit.Digit.{Digit}
use Rattle.agc_panel.specs.Digit.{digit_of}

-- bits `high` to `low` of a word, as a number; bits are numbered from 1 on the right
unfoldable pub bits : ℕ → ℕ → Number → ℕ
bits high low word = pattern_of 15 word / 2 ^ (low - 1) % 2 ^ (high - low + 1)

-- whether a bit of a word is on
abbrev pub is_bit_on : ℕ → Number → Bool
is_bit_on place word = bit_of place word == 1

-- the left digit of a relay word: bits 10 to 6
abbrev pub left_digit : Number → Digit
left_digit word = digit_of (bits 10 6 word)

-- the right digit of a relay word: bits 5 to 1
abbrev pub right_digit : Number → Digit
right_digit word = digit_of (bits 5 1 word)

-- whether a write is a relay word of a row, which bits 15 to 12 name
abbrev pub names_row : ℕ → ChannelWrite → Bool
names_row row write = (write.channel == out0) && (bits 15 12 write.value == row)

-- what a write sets a field of a row to
abbrev pub given_by_row : {A : Type 0} → ℕ → (Number → A) → ChannelWrite → Option A
given_by_row row field write = if names_row row write then Some (field write.value) else None

-- what a write sets the sign of a row to: bit 11
unfoldable pub sign_of_row : ℕ → ChannelWrite → Option Bool
sign_of_row row write = given_by_row row (is_bit_on 11) write

-- what a write sets the left digit of a row to
unfoldable pub left_of_row : ℕ → ChannelWrite → Option Digit
left_of_row row write = given_by_row row left_digit write

-- what a write sets the right digit of a row to
unfoldable pub right_of_row : ℕ → ChannelWrite → Option Digit
right_of_row row write = given_by_row row right_digit write
