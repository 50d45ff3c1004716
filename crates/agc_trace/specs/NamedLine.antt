-- An entry's line with symbols: the name of an order's place next to it.
use Rattle.std.specs.Prelude.{List, ℕ, ◌++◌, codes, Option, Some, None}
use Rattle.std.specs.Fmt.{decimal}
use Rattle.agc_machine.specs.declared.upcoming.InHand.{InHand}
use Rattle.agc_machine.specs.declared.upcoming.Upcoming.{Upcoming}
use Rattle.agc_machine.specs.declared.upcoming.Upcoming.TheVariants as upcoming
use Rattle.agc_listing.specs.Order.{order_text}
use Rattle.agc_listing.specs.Place.{place_text}
use Rattle.agc_listing.specs.Location.{location_at}
use Rattle.agc_symbols.specs.Column.{name_column}
use Rattle.agc_symbols.specs.Symbols.{Symbol}
use Rattle.agc_trace.specs.Line.{entry_text, happening_text, order_place, registers_text, shown_text}
use Rattle.agc_trace.specs.declared.entry.Entry.{Entry}
use Rattle.agc_word.specs.Octal.{word_digits}

-- an order with its place, the name column, and its word
unfoldable pub named_order : List Symbol → InHand → List ℕ
named_order names order =
    place_text (order_place order.bank order.address) ++ codes " "
    ++ name_column names (location_at order.bank order.address) ++ word_digits order.word
    ++ codes " " ++ order_text order.extracode order.word

-- what happened: printed as without symbols if it is not an order
abbrev pub named_happening : List Symbol → Upcoming → List ℕ
named_happening names (upcoming.Order order) = named_order names order
named_happening names (upcoming.Stop why) = happening_text (upcoming.Stop why)
named_happening names (upcoming.Event what) = happening_text (upcoming.Event what)
named_happening names (upcoming.Timer t) = happening_text (upcoming.Timer t)
named_happening names (upcoming.Interrupt r) = happening_text (upcoming.Interrupt r)

unfoldable pub named_text : List Symbol → Entry → List ℕ
named_text names entry =
    decimal entry.cycle ++ codes " " ++ named_happening names entry.happening
    ++ shown_text entry.write ++ codes " | " ++ registers_text entry.registers

-- an entry without the end of its line, with symbols if there are any
unfoldable pub text_with : Option (List Symbol) → Entry → List ℕ
text_with (Some names) entry = named_text names entry
text_with None entry = entry_text entry

-- the line of an entry, with symbols if there are any
unfoldable pub line_with : Option (List Symbol) → Entry → List ℕ
line_with names entry = text_with names entry ++ codes "\n"
