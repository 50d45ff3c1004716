-- The digits of the panel: the digit for each relay code, and how it is printed.
use Rattle.std.specs.Prelude.{ℕ, ◌==◌, Bool, List, [], ◌∷◌, codes, find}
use Rattle.std.specs.Option.{option_map_or}
use Rattle.agc_panel.specs.declared.digit.Digit.{Digit}
use Rattle.agc_panel.specs.declared.digit.Digit.TheVariants.{Blank, Zero, One, Two, Three, Four}
use Rattle.agc_panel.specs.declared.digit.Digit.TheVariants.{Five, Six, Seven, Eight, Nine, Unknown}

-- the five relays of each digit, as a number
abbrev pub relay_codes : List (ℕ × Digit)
relay_codes =
    (0o00, Blank) ∷ (0o25, Zero) ∷ (0o03, One) ∷ (0o31, Two) ∷ (0o33, Three) ∷ (0o17, Four)
    ∷ (0o36, Five) ∷ (0o34, Six) ∷ (0o23, Seven) ∷ (0o35, Eight) ∷ (0o37, Nine) ∷ []

-- whether a row of that table has a code
abbrev pub has_code : ℕ → ℕ × Digit → Bool
has_code code row = row.0 == code

-- the digit that a code stands for
unfoldable pub digit_of : ℕ → Digit
digit_of code = option_map_or (λ row. row.1) (find (has_code code) relay_codes) Unknown

-- the character that a digit is printed as
unfoldable pub glyph : Digit → List ℕ
glyph Blank = codes "_"
glyph Zero = codes "0"
glyph One = codes "1"
glyph Two = codes "2"
glyph Three = codes "3"
glyph Four = codes "4"
glyph Five = codes "5"
glyph Six = codes "6"
glyph Seven = codes "7"
glyph Eight = codes "8"
glyph Nine = codes "9"
glyph Unknown = codes "?"
