-- What is shown can be read back from the panel's text.
use Rattle.std.proofs.Common.{◌≡◌, ◌∙◌, ◌==◌, ap, arith, ℕ, Bool, true, false, List, [], ◌∷◌, ◌++◌, codes, drop, get_or, refl, sym, if◌then◌else◌}
use Rattle.agc_panel.specs.Digit.{glyph}
use Rattle.agc_panel.specs.Laws.{ShowSame}
use Rattle.agc_panel.proofs.LampNames.{same_lamps}
use Rattle.agc_panel.specs.Text.{digits_text, flash_line, lamps_line, pair_line, panel_text, register_line, sign_glyph}
use Rattle.agc_panel.specs.declared.digit.Digit.{Digit}
use Rattle.agc_panel.specs.declared.digit.Digit.TheVariants.{Blank, Zero, One, Two, Three, Four, Five, Six, Seven, Eight, Nine, Unknown}
use Rattle.agc_panel.specs.declared.face.Face.{Face}
use Rattle.agc_panel.specs.declared.face.Pair.{Pair}
use Rattle.agc_panel.specs.declared.text.Sign.{Sign}
use Rattle.agc_panel.specs.declared.text.Sign.TheVariants as sign

digit_code : Digit → ℕ
unfolding glyph
digit_code digit = get_or (glyph digit) 0 0

-- a digit in print is one character
one_glyph : (digit : Digit) → glyph digit ≡ digit_code digit ∷ []
unfolding glyph digit_code
one_glyph Blank = refl
one_glyph Zero = refl
one_glyph One = refl
one_glyph Two = refl
one_glyph Three = refl
one_glyph Four = refl
one_glyph Five = refl
one_glyph Six = refl
one_glyph Seven = refl
one_glyph Eight = refl
one_glyph Nine = refl
one_glyph Unknown = refl

digit_read : ℕ → Digit
digit_read code =
    if code == 95 then Blank else (if code == 48 then Zero else (if code == 49 then One else (if code == 50 then Two
    else (if code == 51 then Three else (if code == 52 then Four else (if code == 53 then Five else (if code == 54 then Six
    else (if code == 55 then Seven else (if code == 56 then Eight else (if code == 57 then Nine else Unknown))))))))))

read_back : (digit : Digit) → digit_read (digit_code digit) ≡ digit
unfolding digit_read digit_code glyph
read_back Blank = refl
read_back Zero = refl
read_back One = refl
read_back Two = refl
read_back Three = refl
read_back Four = refl
read_back Five = refl
read_back Six = refl
read_back Seven = refl
read_back Eight = refl
read_back Nine = refl
read_back Unknown = refl

same_digit : (a b : Digit) → digit_code a ≡ digit_code b → a ≡ b
same_digit a b h = sym (read_back a) ∙ ap digit_read h ∙ read_back b

sign_code : Sign → ℕ
sign_code shown = get_or (sign_glyph shown) 0 0

one_sign : (shown : Sign) → sign_glyph shown ≡ sign_code shown ∷ []
unfolding sign_code
one_sign sign.Plus = refl
one_sign sign.Minus = refl
one_sign sign.Blank = refl

sign_read : ℕ → Sign
sign_read code = if code == 43 then sign.Plus else (if code == 45 then sign.Minus else sign.Blank)

sign_back : (shown : Sign) → sign_read (sign_code shown) ≡ shown
unfolding sign_read sign_code
sign_back sign.Plus = refl
sign_back sign.Minus = refl
sign_back sign.Blank = refl

same_sign : (a b : Sign) → sign_code a ≡ sign_code b → a ≡ b
same_sign a b h = sym (sign_back a) ∙ ap sign_read h ∙ sign_back b

pair_from : {a b : Pair} → a.left ≡ b.left → a.right ≡ b.right → a ≡ b
pair_from {a} {b} l r = rw (l, r) refl

-- the text after FLASH shows whether the flash is on, and equal texts go on alike
flash_word : Bool → List ℕ
flash_word flash = (if flash then codes "on" else codes "off") ++ codes "\n"

same_flash : (a b : Bool) (s t : List ℕ) → flash_word a ++ s ≡ flash_word b ++ t → (a ≡ b) × (s ≡ t)
unfolding flash_word
same_flash true true s t h = (refl, ap (drop 3) h)
same_flash true false s t h = absurd (let e : 110 ≡ 102 = ap (λ (text : List ℕ). get_or text 1 0) h in omega arith)
same_flash false true s t h = absurd (let e : 102 ≡ 110 = ap (λ (text : List ℕ). get_or text 1 0) h in omega arith)
same_flash false false s t h = (refl, ap (drop 4) h)

pub same_text : (a b : Face) → panel_text a ≡ panel_text b → ShowSame a b
unfolding panel_text pair_line register_line digits_text flash_line lamps_line flash_word
same_text a b h =
    let texts = simp (one_glyph, one_sign) at h in
    let at = λ (k : ℕ). ap (λ (text : List ℕ). get_or text k 0) texts in
    let ends = same_flash a.flash b.flash (lamps_line a.lamps) (lamps_line b.lamps) (ap (drop 60) texts) in
    record {
      program = pair_from (same_digit _ _ (at 5)) (same_digit _ _ (at 6));
      verb = pair_from (same_digit _ _ (at 13)) (same_digit _ _ (at 14));
      noun = pair_from (same_digit _ _ (at 21)) (same_digit _ _ (at 22));
      r1 = record {
        sign = same_sign _ _ (at 27);
        d1 = same_digit _ _ (at 28);
        d2 = same_digit _ _ (at 29);
        d3 = same_digit _ _ (at 30);
        d4 = same_digit _ _ (at 31);
        d5 = same_digit _ _ (at 32);
      };
      r2 = record {
        sign = same_sign _ _ (at 37);
        d1 = same_digit _ _ (at 38);
        d2 = same_digit _ _ (at 39);
        d3 = same_digit _ _ (at 40);
        d4 = same_digit _ _ (at 41);
        d5 = same_digit _ _ (at 42);
      };
      r3 = record {
        sign = same_sign _ _ (at 47);
        d1 = same_digit _ _ (at 48);
        d2 = same_digit _ _ (at 49);
        d3 = same_digit _ _ (at 50);
        d4 = same_digit _ _ (at 51);
        d5 = same_digit _ _ (at 52);
      };
      flash = ends.0;
      lamps = same_lamps a.lamps b.lamps (ap (drop 6) ends.1);
    }
