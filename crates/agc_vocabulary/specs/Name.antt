-- The names of a source: those of lines, and the computer's own.
use Rattle.std.specs.Prelude.{ℕ, List, Option, Some, None, if◌then◌else◌}
use Rattle.std.specs.Str.{bytes_eq}
use Rattle.std.specs.BTreeMap.{get_by}
use Rattle.std.specs.Cmp.Lexicographic.{slice_cmp}
use Rattle.std.specs.Ordering.{nat_cmp}
use Rattle.agc_vocabulary.specs.declared.names.Names.{Names}
use Rattle.agc_listing.specs.declared.location.Location.{Location}
use Rattle.agc_listing.specs.declared.location.Location.TheVariants as location
use Rattle.agc_symbols.specs.Register.{is_short, register_cell, register_named}
use Rattle.agc_symbols.specs.declared.register.Register.{Register}

-- The names of a source: those of the lines so far; those that an earlier reading found, for references to later lines;
-- and those that orders take as channels, each with the last line that does.
pub record Naming : Type 0 where
  pub given : List ℕ → Option Location
  pub guess : List ℕ → Option Location
  pub channels : List ℕ → Option ℕ

-- the cell of one of the computer's own names; sources have no short ones
abbrev pub own_location : Option Register → Option Location
own_location (Some r) = if is_short r then None else Some (location.Erasable (register_cell r))
own_location None = None

-- a line's name, or else one of the computer's own
abbrev pub known_by : Option Location → Option Location → Option Register → Option Location
known_by (Some place) guess own = Some place
known_by None (Some place) own = Some place
known_by None None own = own_location own

unfoldable pub known : Naming → List ℕ → Option Location
known naming name = known_by (naming.given name) (naming.guess name) (register_named name)

-- no line has a name yet; an earlier reading found these
abbrev pub no_name : List ℕ → Option Location
no_name name = None

abbrev pub no_channel : List ℕ → Option ℕ
no_channel name = None

abbrev pub guessing : (List ℕ → Option Location) → Naming
guessing guess = record { given = no_name; guess = guess; channels = no_channel }

-- the names that every source has
abbrev pub own_names : Naming
own_names = guessing no_name

-- the names in a list
abbrev pub given_of : Names → List ℕ → Option Location
given_of names = λ name. get_by (λ known. slice_cmp nat_cmp name known.now) names.given

abbrev pub guess_of : Names → List ℕ → Option Location
guess_of names = λ name. get_by (λ known. slice_cmp nat_cmp name known.now) names.guess

abbrev pub channels_of : Names → List ℕ → Option ℕ
channels_of names = λ name. get_by (λ known. slice_cmp nat_cmp name known.now) names.channels

abbrev pub naming_of : Names → Naming
naming_of names = record { given = given_of names; guess = guess_of names; channels = channels_of names }

-- these names, and one more
abbrev pub with_given : (List ℕ → Option Location) → List ℕ → Location → List ℕ → Option Location
with_given given name place = λ other. if bytes_eq name other then Some place else given other

abbrev pub with_name : Naming → List ℕ → Location → Naming
with_name naming name place = record naming { given = with_given naming.given name place }

-- a line takes a name as a channel's
abbrev pub with_taken : (List ℕ → Option ℕ) → List ℕ → ℕ → List ℕ → Option ℕ
with_taken channels name line = λ other. if bytes_eq name other then Some line else channels other

abbrev pub with_channel : Naming → List ℕ → ℕ → Naming
with_channel naming name line = record naming { channels = with_taken naming.channels name line }
