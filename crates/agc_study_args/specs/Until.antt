-- The text of --until, with symbols resolved.
use Rattle.std.specs.Prelude.{◌≡◌, ℕ, ◌/◌, List, Option, Some, None, option_map, string_bytes}
use Rattle.std.specs.declared.alloc.Global.{Global}
use Rattle.std.specs.declared.string.String.{String}
use Rattle.agc_store.specs.Places.{erasable_bank_size, fixed_bank_size}
use Rattle.agc_machine.specs.StopAddress.{stop_address_of}
use Rattle.agc_machine.specs.declared.stop_address.StopAddress.{StopAddress}
use Rattle.agc_listing.specs.List.{listed_address}
use Rattle.agc_listing.specs.Place.{place_text}
use Rattle.agc_listing.specs.declared.place.Place.{Place}
use Rattle.agc_listing.specs.declared.place.Place.TheVariants as printed
use Rattle.agc_listing.specs.Location.{cell_address, location_at}
use Rattle.agc_listing.specs.declared.location.Location.{Location}
use Rattle.agc_listing.specs.declared.location.Location.TheVariants as location
use Rattle.agc_study_args.specs.Joined.{joined}
use Rattle.agc_symbols.specs.Lookup.{resolve}
use Rattle.agc_symbols.specs.Symbols.{Symbol}

-- the bank and the address by which an order at a location runs, and by which --until names it
abbrev pub stop_place : Location → Place
stop_place (location.Fixed place) = printed.Fixed (place / fixed_bank_size) (listed_address place)
stop_place (location.Erasable cell) = printed.Fixed (cell / erasable_bank_size) (cell_address cell)

-- the location that a text names with symbols, unless it reads as a stop address
abbrev pub stop_unread : Option StopAddress → List Symbol → List ℕ → Option Location
stop_unread (Some stop) names text = None
stop_unread None names text = resolve (Some names) (joined text)

abbrev pub stop_with : Option (List Symbol) → List ℕ → Option Location
stop_with (Some names) text = stop_unread (stop_address_of text) names text
stop_with None text = None

abbrev pub stop_text : Option Location → List ℕ → List ℕ
stop_text (Some at) text = place_text (stop_place at)
stop_text None text = text

-- the text in the form BANK,ADDR if it names a location by a symbol; any other text is unchanged
unfoldable pub until_with : Option (List Symbol) → List ℕ → List ℕ
until_with names text = stop_text (stop_with names text) text

-- an optional text
abbrev pub text_in : Option (String Global) → Option (List ℕ)
text_in until = option_map (λ text. string_bytes text) until

-- an optional text with its symbol resolved
abbrev pub IsUntilWith : Option (List Symbol) → Option (String Global) → Option (String Global) → Type 0
IsUntilWith names before after = text_in after ≡ option_map (until_with names) (text_in before)

-- an order at a location runs at this stop address
abbrev pub StopsAt : Location → Option StopAddress → Type 0
StopsAt at (Some stop) = location_at stop.bank stop.address ≡ at
StopsAt at None = ⊥
