-- How a table finds the first of the names at a location.
use Rattle.std.specs.Prelude.{◌≡◌, ℕ, ◌+◌, ◌*◌, ◌%◌, ◌==◌, Bool, min, List, Option, Some, None, get_or, position}
use Rattle.agc_store.specs.Places.{erasable_bank_size, fixed_bank_size}
use Rattle.agc_listing.specs.declared.location.Location.{Location}
use Rattle.agc_listing.specs.declared.location.Location.TheVariants as location
use Rattle.agc_symbols.specs.Symbols.{Symbol}

-- a number for each location: places have the even ones, and cells the odd ones
abbrev pub number_of : Location → ℕ
number_of (location.Fixed place) = 2 * place
number_of (location.Erasable cell) = 2 * cell + 1

-- how many places of the same bank below a location are searched
abbrev pub room_below : Location → ℕ
room_below (location.Fixed place) = min (place % fixed_bank_size) 0o100
room_below (location.Erasable cell) = min (cell % erasable_bank_size) 0o100

abbrev pub stands_at : ℕ → Symbol → Bool
stands_at number named = number_of named.place == number

-- for each number, the index of the first name at it
abbrev pub AreFirst : List (Option ℕ) → List Symbol → Type 0
AreFirst first names = (number : ℕ) → get_or first number None ≡ position (stands_at number) names

-- an index, or else this one
abbrev pub first_or : Option ℕ → ℕ → Option ℕ
first_or (Some first) index = Some first
first_or None index = Some index
