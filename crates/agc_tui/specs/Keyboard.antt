-- The keyboard: which byte types which key, and the event and the name of each key.
use Rattle.std.specs.Prelude.{ℕ, ◌==◌, Bool, true, List, [], ◌∷◌, codes, find, Option}
use Rattle.std.specs.Option.{option_map}
use Rattle.agc_script.specs.Key.{name_of}
use Rattle.agc_script.specs.declared.event.What.{What}
use Rattle.agc_script.specs.declared.event.What.TheVariants as what
use Rattle.agc_script.specs.declared.key.Key.{Key}
use Rattle.agc_script.specs.declared.key.Key.TheVariants as key
use Rattle.agc_tui.specs.declared.keyboard.Button.{Button}
use Rattle.agc_tui.specs.declared.keyboard.Button.TheVariants as button

-- the bytes that type keys: a carriage return and a line feed both type ENTR
abbrev pub typed_keys : List (ℕ × Button)
typed_keys =
    (0o60, button.Coded key.Zero) ∷ (0o61, button.Coded key.One) ∷ (0o62, button.Coded key.Two)
    ∷ (0o63, button.Coded key.Three) ∷ (0o64, button.Coded key.Four) ∷ (0o65, button.Coded key.Five)
    ∷ (0o66, button.Coded key.Six) ∷ (0o67, button.Coded key.Seven) ∷ (0o70, button.Coded key.Eight)
    ∷ (0o71, button.Coded key.Nine) ∷ (0o53, button.Coded key.Plus) ∷ (0o55, button.Coded key.Minus)
    ∷ (0o166, button.Coded key.Verb) ∷ (0o156, button.Coded key.Noun) ∷ (0o15, button.Coded key.Enter)
    ∷ (0o12, button.Coded key.Enter) ∷ (0o143, button.Coded key.Clear) ∷ (0o153, button.Coded key.KeyRelease)
    ∷ (0o162, button.Coded key.Reset) ∷ (0o160, button.Pro) ∷ []

-- whether a row of that table has a byte
abbrev pub has_byte : ℕ → ℕ × Button → Bool
has_byte byte row = row.0 == byte

-- the key that a byte types
unfoldable pub from_byte : ℕ → Option Button
from_byte byte = option_map (λ row. row.1) (find (has_byte byte) typed_keys)

-- the event of pressing a key
abbrev pub press_of : Button → What
press_of (button.Coded which) = what.Key which
press_of button.Pro = what.Pro true

-- the name on a key
abbrev pub cap_name : Button → List ℕ
cap_name (button.Coded which) = name_of which
cap_name button.Pro = codes "PRO"
