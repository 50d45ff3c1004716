-- The name printed for a place: the nearest one at or below it, in the same bank and at most 100 octal away.
use Rattle.std.specs.Prelude.{◌≡◌, ℕ, ◌-◌, ◌/◌, ◌<◌, ◌≤◌, ◌==◌, nat_lt, nat_le, ◌&&◌, List, [], ◌∷◌, ◌++◌}
use Rattle.std.specs.Prelude.{Option, Some, None, if◌then◌else◌}
use Rattle.agc_store.specs.Places.{erasable_bank_size, fixed_bank_size}
use Rattle.agc_listing.specs.declared.location.Location.{Location}
use Rattle.agc_listing.specs.declared.location.Location.TheVariants as location
use Rattle.agc_symbols.specs.Symbols.{Symbol}
use Rattle.agc_symbols.specs.declared.symbol_table.Nearest.{Nearest}

-- how many words a place is beyond another one of its bank, if at most 100 octal
abbrev pub beyond_in : ℕ → ℕ → ℕ → Option ℕ
beyond_in size from at =
    if (from / size == at / size) && nat_le from at && nat_le (at - from) 0o100
    then Some (at - from)
    else None

abbrev pub beyond : Location → Location → Option ℕ
beyond (location.Fixed from) (location.Fixed at) = beyond_in fixed_bank_size from at
beyond (location.Erasable from) (location.Erasable at) = beyond_in erasable_bank_size from at
beyond _ _ = None

-- a name, and how many words a place is beyond it
pub record Nearby : Type 0 where
  pub name : List ℕ
  pub offset : ℕ

abbrev pub nearby : List ℕ → Option ℕ → Option Nearby
nearby name (Some offset) = Some (record { name = name; offset = offset })
nearby name None = None

-- the nearer of two; the first if both are equally near
abbrev pub nearer : Option Nearby → Option Nearby → Option Nearby
nearer (Some first) (Some second) =
    if nat_lt second.offset first.offset then Some second else Some first
nearer (Some first) None = Some first
nearer None second = second

-- the nearest of some names at or below a place
unfoldable pub nearest : List Symbol → Location → Option Nearby
nearest [] at = None
nearest (named ∷ names) at = nearer (nearby named.name (beyond named.place at)) (nearest names at)

-- as the code returns it
abbrev pub as_nearby : Nearest → Nearby
as_nearby near = record { name = near.name.now; offset = near.offset }

-- The same without a search.

-- no name is at a place or within reach below it
abbrev pub NoneReaches : List Symbol → Location → Type 0
NoneReaches [] at = Unit {0}
NoneReaches (named ∷ names) at = (beyond named.place at ≡ None) × NoneReaches names at

-- a distance above a number, if there is a distance
abbrev pub IsAbove : ℕ → Option ℕ → Type 0
IsAbove least (Some offset) = least < offset
IsAbove least None = Unit {0}

abbrev pub AllAbove : ℕ → List Symbol → Location → Type 0
AllAbove least [] at = Unit {0}
AllAbove least (named ∷ names) at = IsAbove least (beyond named.place at) × AllAbove least names at

-- a distance not below a number, if there is a distance
abbrev pub IsNotBelow : ℕ → Option ℕ → Type 0
IsNotBelow least (Some offset) = least ≤ offset
IsNotBelow least None = Unit {0}

abbrev pub NoneBelow : ℕ → List Symbol → Location → Type 0
NoneBelow least [] at = Unit {0}
NoneBelow least (named ∷ names) at =
    IsNotBelow least (beyond named.place at) × NoneBelow least names at

-- it is one of the names: those before it are farther away, and those after it are not nearer
pub record IsNearest (names : List Symbol) (at : Location) (near : Nearby) : Type 0 where
  pub before : List Symbol
  pub named : Symbol
  pub after : List Symbol
  pub all : names ≡ before ++ named ∷ after
  pub name : near.name ≡ named.name
  pub offset : beyond named.place at ≡ Some near.offset
  pub first : AllAbove near.offset before at
  pub least : NoneBelow near.offset after at
