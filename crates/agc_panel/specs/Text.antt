-- The panel's eight lines.
use Rattle.std.specs.Prelude.{ℕ, Bool, if◌then◌else◌, List, [], ◌∷◌, ◌++◌, codes, filter}
use Rattle.std.specs.List.{join_by}
use Rattle.std.specs.Str.{bytes_eq}
use Rattle.agc_panel.specs.declared.face.Face.{Face}
use Rattle.agc_panel.specs.declared.face.Pair.{Pair}
use Rattle.agc_panel.specs.declared.face.Register.{Register}
use Rattle.agc_panel.specs.declared.lamp.Lamp.{Lamp}
use Rattle.agc_panel.specs.declared.lamp.Lamps.{Lamps}
use Rattle.agc_panel.specs.declared.text.Sign.{Sign}
use Rattle.agc_panel.specs.declared.text.Sign.TheVariants.{Plus, Minus, Blank}
use Rattle.agc_panel.specs.Digit.{glyph}
use Rattle.agc_panel.specs.Lamp.{is_lit, printed_order, words_on}

-- the sign of a register: plus if the plus relay is on, otherwise minus if the minus relay is on
abbrev pub sign_of : Register → Sign
sign_of register = if register.plus then Plus else (if register.minus then Minus else Blank)

-- `+`, `-` or `_`
abbrev pub sign_glyph : Sign → List ℕ
sign_glyph Plus = codes "+"
sign_glyph Minus = codes "-"
sign_glyph Blank = codes "_"

-- a name and two digits
unfoldable pub pair_line : List ℕ → Pair → List ℕ
pair_line name pair = name ++ codes " " ++ glyph pair.left ++ glyph pair.right ++ codes "\n"

-- the five digits of a register
unfoldable pub digits_text : Register → List ℕ
digits_text r = glyph r.d1 ++ glyph r.d2 ++ glyph r.d3 ++ glyph r.d4 ++ glyph r.d5

-- a name, a sign and five digits
unfoldable pub register_line : List ℕ → Register → List ℕ
register_line name r =
    name ++ codes " " ++ sign_glyph (sign_of r) ++ digits_text r ++ codes "\n"

-- whether verb and noun flash
unfoldable pub flash_line : Bool → List ℕ
flash_line flash = codes "FLASH " ++ (if flash then codes "on" else codes "off") ++ codes "\n"

-- names with a comma and a space between, or `none`
abbrev pub names_of_lamps : List Lamp → List ℕ
names_of_lamps [] = codes "none"
names_of_lamps (lamp ∷ lamps) = join_by words_on (codes ", ") (lamp ∷ lamps)

-- the lamps that are on, in print order
abbrev pub lit_lamps : Lamps → List Lamp
lit_lamps lamps = filter (is_lit lamps) printed_order

unfoldable pub lamps_line : Lamps → List ℕ
lamps_line lamps = codes "LAMPS " ++ names_of_lamps (lit_lamps lamps) ++ codes "\n"

-- the panel's text
unfoldable pub panel_text : Face → List ℕ
panel_text face =
    pair_line (codes "PROG") face.program
    ++ pair_line (codes "VERB") face.verb
    ++ pair_line (codes "NOUN") face.noun
    ++ register_line (codes "R1") face.r1
    ++ register_line (codes "R2") face.r2
    ++ register_line (codes "R3") face.r3
    ++ flash_line face.flash
    ++ lamps_line face.lamps

-- the same lines, one by one
unfoldable pub panel_lines : Face → List (List ℕ)
panel_lines face =
    pair_line (codes "PROG") face.program
    ∷ pair_line (codes "VERB") face.verb
    ∷ pair_line (codes "NOUN") face.noun
    ∷ register_line (codes "R1") face.r1
    ∷ register_line (codes "R2") face.r2
    ∷ register_line (codes "R3") face.r3
    ∷ flash_line face.flash
    ∷ lamps_line face.lamps
    ∷ []

-- two panels show the same: their texts are equal
abbrev pub shows_same : Face → Face → Bool
shows_same one other = bytes_eq (panel_text one) (panel_text other)
