-- One line of the panel: how it is parsed and printed, and when the panel shows it.
use Rattle.std.specs.Prelude.{ℕ, Bool, true, false, not, ◌&&◌, if◌then◌else◌, List, [], ◌∷◌, ◌++◌, Option, None, Some, codes, find, option_map}
use Rattle.std.specs.Str.{bytes_eq}
use Rattle.agc_panel.specs.Digit.{glyph}
use Rattle.agc_panel.specs.Lamp.{is_lit, printed_order, words_on}
use Rattle.agc_panel.specs.Text.{sign_glyph, sign_of}
use Rattle.agc_panel.specs.declared.digit.Digit.{Digit}
use Rattle.agc_panel.specs.declared.digit.Digit.TheVariants as digit
use Rattle.agc_panel.specs.declared.face.Face.{Face}
use Rattle.agc_panel.specs.declared.face.Pair.{Pair}
use Rattle.agc_panel.specs.declared.face.Register.{Register}
use Rattle.agc_panel.specs.declared.lamp.Lamp.{Lamp}
use Rattle.agc_panel.specs.declared.text.Sign.{Sign}
use Rattle.agc_panel.specs.declared.text.Sign.TheVariants as sign
use Rattle.agc_word.specs.Text.{words_of}
use Rattle.agc_panel.specs.declared.panel_line.PanelLine.{PanelLine}
use Rattle.agc_panel.specs.declared.panel_line.PanelLine.TheVariants as line
use Rattle.agc_panel.specs.declared.panel_line.SignedDigits.{SignedDigits}

-- the digit and the sign that are printed as a character
abbrev pub all_digits : List Digit
all_digits =
    digit.Blank ∷ digit.Zero ∷ digit.One ∷ digit.Two ∷ digit.Three ∷ digit.Four
    ∷ digit.Five ∷ digit.Six ∷ digit.Seven ∷ digit.Eight ∷ digit.Nine ∷ digit.Unknown ∷ []

unfoldable pub digit_in : ℕ → Option Digit
digit_in byte = find (λ d. bytes_eq (glyph d) (byte ∷ [])) all_digits

abbrev pub all_signs : List Sign
all_signs = sign.Plus ∷ sign.Minus ∷ sign.Blank ∷ []

unfoldable pub sign_in : ℕ → Option Sign
sign_in byte = find (λ s. bytes_eq (sign_glyph s) (byte ∷ [])) all_signs

-- two digits
abbrev pub pair_with : Option Digit → Option Digit → Option Pair
pair_with (Some left) (Some right) = Some (record { left = left; right = right })
pair_with left right = None

unfoldable pub pair_in : List ℕ → Option Pair
pair_in (left ∷ right ∷ []) = pair_with (digit_in left) (digit_in right)
pair_in word = None

-- a sign and five digits
abbrev pub signed_with : Option Sign → Option Pair → Option Pair → Option Digit → Option SignedDigits
signed_with (Some s) (Some first) (Some second) (Some last) =
    Some (record { sign = s; d1 = first.left; d2 = first.right; d3 = second.left; d4 = second.right; d5 = last })
signed_with s first second last = None

unfoldable pub signed_in : List ℕ → Option SignedDigits
signed_in (s ∷ d1 ∷ d2 ∷ d3 ∷ d4 ∷ d5 ∷ []) =
    signed_with (sign_in s) (pair_with (digit_in d1) (digit_in d2)) (pair_with (digit_in d3) (digit_in d4)) (digit_in d5)
signed_in word = None

-- `on` or `off`
unfoldable pub flash_in : List ℕ → Option Bool
flash_in word =
    if bytes_eq word (codes "on") then Some true
    else if bytes_eq word (codes "off") then Some false
    else None

-- a field of one word, by the name that the panel prints before it
unfoldable pub field_in : List ℕ → List ℕ → Option PanelLine
field_in name word =
    if bytes_eq name (codes "PROG") then option_map line.Program (pair_in word)
    else if bytes_eq name (codes "VERB") then option_map line.Verb (pair_in word)
    else if bytes_eq name (codes "NOUN") then option_map line.Noun (pair_in word)
    else if bytes_eq name (codes "R1") then option_map line.R1 (signed_in word)
    else if bytes_eq name (codes "R2") then option_map line.R2 (signed_in word)
    else if bytes_eq name (codes "R3") then option_map line.R3 (signed_in word)
    else if bytes_eq name (codes "FLASH") then option_map line.Flash (flash_in word)
    else None

-- the lamp with this legend, which has one word or two
unfoldable pub same_words : List (List ℕ) → List (List ℕ) → Bool
same_words [] [] = true
same_words (one ∷ ones) (other ∷ others) = bytes_eq one other && same_words ones others
same_words ones others = false

unfoldable pub lamp_in : List (List ℕ) → Option Lamp
lamp_in words = find (λ lamp. same_words (words_of (words_on lamp)) words) printed_order

-- a line of the panel; for the lamps, the name of one
abbrev pub one_word : List ℕ → List (List ℕ) → Option PanelLine
one_word name (word ∷ []) = field_in name word
one_word name words = None

unfoldable pub line_in : List (List ℕ) → Option PanelLine
line_in [] = None
line_in (name ∷ words) =
    if bytes_eq name (codes "LAMPS") then option_map line.Lamp (lamp_in words) else one_word name words

-- such a line in print
unfoldable pub pair_text : Pair → List ℕ
pair_text pair = glyph pair.left ++ glyph pair.right

unfoldable pub signed_text : SignedDigits → List ℕ
signed_text r = sign_glyph r.sign ++ glyph r.d1 ++ glyph r.d2 ++ glyph r.d3 ++ glyph r.d4 ++ glyph r.d5

unfoldable pub line_text : PanelLine → List ℕ
line_text (line.Program pair) = codes "PROG " ++ pair_text pair
line_text (line.Verb pair) = codes "VERB " ++ pair_text pair
line_text (line.Noun pair) = codes "NOUN " ++ pair_text pair
line_text (line.R1 r) = codes "R1 " ++ signed_text r
line_text (line.R2 r) = codes "R2 " ++ signed_text r
line_text (line.R3 r) = codes "R3 " ++ signed_text r
line_text (line.Flash on) = codes "FLASH " ++ (if on then codes "on" else codes "off")
line_text (line.Lamp lamp) = codes "LAMPS " ++ words_on lamp

-- a digit, and a pair of them, shows these characters
abbrev pub same_digit : Digit → Digit → Bool
same_digit one other = bytes_eq (glyph one) (glyph other)

abbrev pub same_pair : Pair → Pair → Bool
same_pair one other = same_digit one.left other.left && same_digit one.right other.right

-- a register shows this sign and these digits
abbrev pub is_signed : SignedDigits → Register → Bool
is_signed r register =
    bytes_eq (sign_glyph r.sign) (sign_glyph (sign_of register))
    && same_digit r.d1 register.d1 && same_digit r.d2 register.d2 && same_digit r.d3 register.d3
    && same_digit r.d4 register.d4 && same_digit r.d5 register.d5

-- The panel shows a line: its field has the same characters; for a lamp, it is lit.
unfoldable pub shows : PanelLine → Face → Bool
shows (line.Program pair) face = same_pair pair face.program
shows (line.Verb pair) face = same_pair pair face.verb
shows (line.Noun pair) face = same_pair pair face.noun
shows (line.R1 r) face = is_signed r face.r1
shows (line.R2 r) face = is_signed r face.r2
shows (line.R3 r) face = is_signed r face.r3
shows (line.Flash on) face = if on then face.flash else not face.flash
shows (line.Lamp lamp) face = is_lit face.lamps lamp
