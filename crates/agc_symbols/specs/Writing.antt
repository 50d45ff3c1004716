-- How a symbol file is written: a name with its place as a line.
use Rattle.std.specs.Prelude.{◌≡◌, ℕ, ◌/◌, nat_lt, true, List, [], ◌∷◌, ◌++◌, codes, Option, Some, None}
use Rattle.std.specs.Prelude.{if◌then◌else◌}
use Rattle.std.specs.List.{flat_map}
use Rattle.agc_word.specs.Octal.{octal_digits}
use Rattle.agc_store.specs.Places.{erasable_bank_size, erasable_cells, fixed_words}
use Rattle.agc_listing.specs.List.{listed_place}
use Rattle.agc_listing.specs.Place.{place_text}
use Rattle.agc_listing.specs.declared.place.Place.{Place}
use Rattle.agc_listing.specs.declared.place.Place.TheVariants as printed
use Rattle.agc_listing.specs.Location.{IsWithin, cell_address}
use Rattle.agc_listing.specs.Text.{parsed_by}
use Rattle.agc_listing.specs.declared.location.Location.{Location}
use Rattle.agc_listing.specs.declared.location.Location.TheVariants as location
use Rattle.agc_symbols.specs.Symbols.{Symbol, is_place_name}

-- a place in memory as printed, with its bank
abbrev pub place_of : Location → Option Place
place_of (location.Fixed place) =
    if nat_lt place fixed_words then Some (listed_place place) else None
place_of (location.Erasable cell) =
    if nat_lt cell erasable_cells
    then Some (printed.Erasable (cell / erasable_bank_size) (cell_address cell))
    else None

abbrev pub line_at : Option Place → List ℕ → List ℕ
line_at (Some place) name = place_text place ++ codes " " ++ name ++ codes "\n"
line_at None name = []

-- the line of a name: its place, a space and the name; a place outside memory has none
unfoldable pub name_line : Location → List ℕ → List ℕ
name_line at name = line_at (place_of at) name

-- the line of a channel's name: C and three octal digits, a space and the name
abbrev pub channel_text : ℕ → List ℕ
channel_text channel = codes "C" ++ octal_digits 3 channel

unfoldable pub channel_line : ℕ → List ℕ → List ℕ
channel_line channel name = channel_text channel ++ codes " " ++ name ++ codes "\n"

-- the lines of some names, in their order
abbrev pub line_for : Symbol → List ℕ
line_for named = name_line named.place named.name

unfoldable pub names_text : List Symbol → List ℕ
names_text names = flat_map line_for names

-- a name that a symbol file can hold: its place is in memory, and it is one word that does not begin a comment
pub record IsSayable (named : Symbol) : Type 0 where
  pub place : IsWithin named.place
  pub name : is_place_name named.name ≡ true
  pub word : parsed_by named.name ≡ named.name ∷ []

abbrev pub AreSayable : List Symbol → Type 0
AreSayable [] = Unit {0}
AreSayable (named ∷ names) = IsSayable named × AreSayable names
