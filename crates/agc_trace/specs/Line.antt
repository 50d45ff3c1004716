-- How an entry of the trace is printed as a line.
use Rattle.std.specs.Prelude.{ℕ, nat_lt, if◌then◌else◌}
use Rattle.std.specs.Prelude.{List, [], ◌++◌, codes, Option, Some, None}
use Rattle.std.specs.Fmt.{decimal}
use Rattle.agc_word.specs.Number.{pattern_of}
use Rattle.agc_word.specs.Octal.{octal_digits, word_digits}
use Rattle.agc_word.specs.declared.channel_write.ChannelWrite.{ChannelWrite}
use Rattle.agc_store.specs.Places.{erasable_window, fixed_fixed, fixed_window}
use Rattle.agc_processor.specs.Interrupt.{rupt_name}
use Rattle.agc_processor.specs.Timer.{timer_name}
use Rattle.agc_script.specs.Written.{what_text}
use Rattle.agc_machine.specs.Answer.{stop_name}
use Rattle.agc_machine.specs.declared.upcoming.Upcoming.{Upcoming}
use Rattle.agc_machine.specs.declared.upcoming.Upcoming.TheVariants as upcoming
use Rattle.agc_listing.specs.Order.{order_text}
use Rattle.agc_listing.specs.Place.{place_text}
use Rattle.agc_listing.specs.declared.place.Place.{Place}
use Rattle.agc_listing.specs.declared.place.Place.TheVariants as place
use Rattle.agc_trace.specs.declared.entry.Entry.{Entry}
use Rattle.agc_trace.specs.declared.entry.Registers.{Registers}

-- the place of an order, by its bank and its address
abbrev pub order_place : ℕ → ℕ → Place
order_place bank address =
    if nat_lt address erasable_window then place.Plain address
    else if nat_lt address fixed_window then place.Erasable bank address
    else if nat_lt address fixed_fixed then place.Fixed bank address
    else place.Plain address

-- what happened: an order with its place and word, or anything else after a dash
unfoldable pub happening_text : Upcoming → List ℕ
happening_text (upcoming.Stop why) = codes "- stop " ++ stop_name why
happening_text (upcoming.Event what) = codes "- event " ++ what_text what
happening_text (upcoming.Timer t) = codes "- timer " ++ timer_name t
happening_text (upcoming.Interrupt r) = codes "- interrupt " ++ rupt_name r
happening_text (upcoming.Order order) =
    place_text (order_place order.bank order.address) ++ codes " " ++ word_digits order.word
    ++ codes " " ++ order_text order.extracode order.word

-- a channel write, if there is one
abbrev pub shown_text : Option ChannelWrite → List ℕ
shown_text (Some write) =
    codes " > " ++ octal_digits 3 write.channel ++ codes " " ++ word_digits write.value
shown_text None = []

-- the registers: A and Q have sixteen bits, EB and FB show their banks
unfoldable pub registers_text : Registers → List ℕ
registers_text r =
    codes "A " ++ octal_digits 6 (pattern_of 16 r.a)
    ++ codes " L " ++ word_digits r.l
    ++ codes " Q " ++ octal_digits 6 (pattern_of 16 r.q)
    ++ codes " Z " ++ octal_digits 4 r.z
    ++ codes " EB " ++ octal_digits 1 r.erasable_bank
    ++ codes " FB " ++ octal_digits 2 r.fixed_bank

-- an entry without the end of its line
unfoldable pub entry_text : Entry → List ℕ
entry_text entry =
    decimal entry.cycle ++ codes " " ++ happening_text entry.happening ++ shown_text entry.write
    ++ codes " | " ++ registers_text entry.registers

-- the line of an entry
unfoldable pub line_of : Entry → List ℕ
line_of entry = entry_text entry ++ codes "\n"
