-- The line of a boundary in a form: with names, an order has the name of its place beside it and the name of its operand
-- in place of the digits; if the form says so, what the operand held before and after follows.
use Rattle.std.specs.Prelude.{ℕ, ◌==◌, ◌&&◌, ◌||◌, Bool, false, List, [], ◌++◌, codes, Option, Some, None, if◌then◌else◌}
use Rattle.std.specs.Fmt.{decimal}
use Rattle.agc_word.specs.Arithmetic.{narrow_of}
use Rattle.agc_word.specs.Number.{Number, pattern_of}
use Rattle.agc_word.specs.Octal.{octal_digits, word_digits}
use Rattle.agc_store.specs.Places.{a_cell, q_cell}
use Rattle.agc_machine.specs.declared.upcoming.InHand.{InHand}
use Rattle.agc_machine.specs.declared.upcoming.Upcoming.{Upcoming}
use Rattle.agc_machine.specs.declared.upcoming.Upcoming.TheVariants as upcoming
use Rattle.agc_listing.specs.Cell.{same_word}
use Rattle.agc_listing.specs.Location.{location_at}
use Rattle.agc_listing.specs.Order.{operand_in, operand_text}
use Rattle.agc_listing.specs.Place.{place_text}
use Rattle.agc_listing.specs.declared.location.Location.{Location}
use Rattle.agc_listing.specs.declared.location.Location.TheVariants as location
use Rattle.agc_symbols.specs.Channels.{name_of_channel}
use Rattle.agc_symbols.specs.Column.{name_column, nearby_text}
use Rattle.agc_symbols.specs.Nearest.{Nearby}
use Rattle.agc_symbols.specs.Operand.{operand_named}
use Rattle.agc_symbols.specs.Symbols.{Symbol}
use Rattle.agc_trace.specs.Change.{changes_text}
use Rattle.agc_trace.specs.Line.{happening_text, order_place, registers_text, shown_text}
use Rattle.agc_trace.specs.Operand.{mnemonic_of, takes_of}
use Rattle.agc_trace.specs.Watch.{Watched}
use Rattle.agc_trace.specs.declared.entry.Entry.{Entry}
use Rattle.agc_trace.specs.declared.line_form.LineForm.{LineForm}
use Rattle.agc_trace.specs.declared.line_form.Notation.{Notation}
use Rattle.agc_trace.specs.declared.line_form.Notation.TheVariants as notation
use Rattle.agc_trace.specs.declared.operand.HeldWord.{HeldWord}
use Rattle.agc_trace.specs.declared.operand.Operand.{Operand}
use Rattle.agc_trace.specs.declared.operand.Operand.TheVariants as operand

-- the name column of an order's place, if there are names
abbrev pub column_in : Option (List Symbol) → Location → List ℕ
column_in (Some names) at = name_column names at
column_in None at = []

-- the name of a place, if there are names
abbrev pub place_called : Option (List Symbol) → Location → Option Nearby
place_called (Some names) at = operand_named names at
place_called None at = None

abbrev pub named_alone : Option (List ℕ) → Option Nearby
named_alone (Some name) = Some (record { name = name; offset = 0 })
named_alone None = None

-- the name of an operand: that of the place, of the upper word of a double word, or of the channel
abbrev pub operand_called : LineForm → Operand → Option Nearby
operand_called form operand.Nothing = None
operand_called form (operand.Target at) = place_called form.names at
operand_called form (operand.Word word) = place_called form.names word.at
operand_called form (operand.Pair upper lower) = place_called form.names upper.at
operand_called form (operand.Channel channel) =
    named_alone (name_of_channel form.channels channel.channel)

-- an operand by its name or, without a name, in digits
abbrev pub called_or : Option Nearby → List ℕ → List ℕ
called_or (Some near) digits = codes " " ++ nearby_text (Some near)
called_or None digits = digits

abbrev pub digits_of : InHand → List ℕ
digits_of order = operand_text (operand_in (takes_of order) (pattern_of 15 order.word))

-- a signed number in decimal; the minus of -0 is printed
unfoldable pub signed_text : Number → List ℕ
signed_text word = (if word.minus then codes "-" else []) ++ decimal word.magnitude

-- a word: in octal six digits if it is wide, otherwise five
unfoldable pub word_text : Notation → Bool → Number → List ℕ
word_text notation.Octal wide word =
    if wide then octal_digits 6 (pattern_of 16 word) else word_digits (narrow_of word)
word_text notation.Decimal wide word = signed_text word

-- A and Q hold wide words
abbrev pub is_wide : Location → Bool
is_wide (location.Erasable cell) = cell == a_cell || cell == q_cell
is_wide (location.Fixed place) = false

abbrev pub before_text : Notation → HeldWord → List ℕ
before_text notation word = codes " " ++ word_text notation (is_wide word.at) word.before

abbrev pub after_text : Notation → HeldWord → List ℕ
after_text notation word = codes " " ++ word_text notation (is_wide word.at) word.after

abbrev pub stays : HeldWord → Bool
stays word = same_word word.before word.after

-- what it held before and, if that has changed, what it holds after
abbrev pub and_after : Bool → List ℕ → List ℕ
and_after same after = if same then [] else codes " >" ++ after

unfoldable pub held_text : Notation → Operand → List ℕ
held_text n operand.Nothing = []
held_text n (operand.Target at) = []
held_text n (operand.Word word) = before_text n word ++ and_after (stays word) (after_text n word)
held_text n (operand.Pair upper lower) =
    before_text n upper ++ before_text n lower
    ++ and_after (stays upper && stays lower) (after_text n upper ++ after_text n lower)
held_text n (operand.Channel channel) =
    codes " " ++ word_text n false channel.before
    ++ and_after (same_word channel.before channel.after)
    (codes " " ++ word_text n false channel.after)

abbrev pub held_in_form : Option Notation → Operand → List ℕ
held_in_form (Some n) used = held_text n used
held_in_form None used = []

-- the place of an order with its name column, and its word
abbrev pub placed_word : Option (List Symbol) → InHand → List ℕ
placed_word names order =
    place_text (order_place order.bank order.address) ++ codes " "
    ++ column_in names (location_at order.bank order.address) ++ word_digits order.word ++ codes " "

-- an order: its place, its word, its mnemonic and its operand
unfoldable pub order_in_form : LineForm → InHand → Operand → List ℕ
order_in_form form order used =
    placed_word form.names order ++ mnemonic_of order ++ called_or (operand_called form used) (digits_of order)
    ++ held_in_form form.operands used

-- what happened: printed in every form alike if it is not an order
abbrev pub happening_in_form : LineForm → Upcoming → Operand → List ℕ
happening_in_form form (upcoming.Order order) used = order_in_form form order used
happening_in_form form (upcoming.Stop why) used = happening_text (upcoming.Stop why)
happening_in_form form (upcoming.Event what) used = happening_text (upcoming.Event what)
happening_in_form form (upcoming.Timer t) used = happening_text (upcoming.Timer t)
happening_in_form form (upcoming.Interrupt r) used = happening_text (upcoming.Interrupt r)

unfoldable pub entry_in_form : LineForm → Entry → Operand → List ℕ
entry_in_form form entry used =
    decimal entry.cycle ++ codes " " ++ happening_in_form form entry.happening used
    ++ shown_text entry.write ++ codes " | " ++ registers_text entry.registers

-- the line of a boundary, with the changes of cells after the registers
unfoldable pub watched_line : LineForm → Watched → List ℕ
watched_line form watched =
    entry_in_form form watched.entry watched.operand ++ changes_text watched.changes ++ codes "\n"
