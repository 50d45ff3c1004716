-- How listings print a place in memory.
use Rattle.std.specs.Prelude.{ℕ, ◌<◌, List, ◌++◌, codes}
use Rattle.agc_word.specs.Octal.{octal_digits}
use Rattle.agc_listing.specs.declared.place.Place.{Place}
use Rattle.agc_listing.specs.declared.place.Place.TheVariants as place

-- an address of twelve bits and its bank fit their digits
abbrev pub IsInPrint : Place → Type 0
IsInPrint (place.Plain address) = address < 0o10000
IsInPrint (place.Erasable bank address) = (bank < 0o10) × (address < 0o10000)
IsInPrint (place.Fixed bank address) = (bank < 0o100) × (address < 0o10000)

-- a place as printed: `oooo`, `En,oooo` or `bb,oooo`
abbrev pub place_text : Place → List ℕ
place_text (place.Plain address) = octal_digits 4 address
place_text (place.Erasable bank address) =
    codes "E" ++ octal_digits 1 bank ++ codes "," ++ octal_digits 4 address
place_text (place.Fixed bank address) =
    octal_digits 2 bank ++ codes "," ++ octal_digits 4 address
