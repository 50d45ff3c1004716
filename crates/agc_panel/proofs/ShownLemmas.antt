-- Panels show the same just if their texts are equal.
use Rattle.std.proofs.Common.{◌≡◌, ◌∙◌, ap, ℕ, Bool, List, length, refl, sym}
use Rattle.std.specs.Bool.{Decides}
use Rattle.std.proofs.lemmas.List.Elements.{filter_agree}
use mathlib.Core.Bool.{beq}
use Rattle.std.proofs.lemmas.Slice.Eq.{bytes_eq-Decides, slice_eq-Decides}
use Rattle.std.specs.Cmp.{booleans_Decides}
use Rattle.std.specs.Cmp.Lexicographic.{pointwise}
use Rattle.agc_panel.proofs.LampLemmas.{lit_in_order}
use Rattle.agc_panel.proofs.LampNames.{same_Bool}
use Rattle.agc_panel.proofs.LawLemmas.{map_agree}
use Rattle.agc_panel.proofs.TextLemmas.{same_text}
use Rattle.agc_panel.specs.Lamp.{is_lit, printed_order}
use Rattle.agc_panel.specs.Laws.{ShowSame, ShowSameRegister}
use Rattle.agc_panel.specs.Text.{digits_text, lamps_line, panel_text, register_line, shows_same}
use Rattle.agc_panel.specs.declared.face.Face.{Face}
use Rattle.agc_panel.specs.declared.face.Register.{Register}
use Rattle.agc_panel.specs.declared.lamp.Lamp.{Lamp}
use Rattle.agc_panel.specs.declared.lamp.Lamps.{Lamps}

-- the same sign and digits print the same line
same_line : (name : List ℕ) (a b : Register) → ShowSameRegister a b → register_line name a ≡ register_line name b
unfolding register_line digits_text
same_line name a b h = rw (h.sign, h.d1, h.d2, h.d3, h.d4, h.d5) refl

-- the same lamps print the same line
same_lamp_line : (a b : Lamps) → ((lamp : Lamp) → is_lit a lamp ≡ is_lit b lamp) → lamps_line a ≡ lamps_line b
unfolding lamps_line
same_lamp_line a b h = rw (filter_agree (is_lit a) (is_lit b) h printed_order) refl

text_of_same : (a b : Face) → ShowSame a b → panel_text a ≡ panel_text b
unfolding panel_text
text_of_same a b h =
    rw (h.program, h.verb, h.noun, same_line _ a.r1 b.r1 h.r1, same_line _ a.r2 b.r2 h.r2, same_line _ a.r3 b.r3 h.r3, h.flash, same_lamp_line a.lamps b.lamps h.lamps) refl

-- a test of what is shown is a test of the texts
pub shown_by_text : (a b : Face) (same : Bool) → Decides same (ShowSame a b) → same ≡ shows_same a b
shown_by_text a b same h =
    let texts = bytes_eq-Decides (panel_text a) (panel_text b) in
    same_Bool same (shows_same a b)
    (λ yes. texts.1 (text_of_same a b (h.0 yes)))
    (λ yes. h.1 (same_text a b (texts.0 yes)))

-- the states of the lamps are equal just if the same lamps are on
pub states_of_same : (a b : Lamps) (same : Bool) → length a.lit ≡ length printed_order → length b.lit ≡ length printed_order
    → same ≡ pointwise beq a.lit b.lit → Decides same ((lamp : Lamp) → is_lit a lamp ≡ is_lit b lamp)
states_of_same a b same la lb h =
    let states = slice_eq-Decides booleans_Decides a.lit b.lit same h in (
      λ yes lamp. ap (λ (lit : List Bool). is_lit (record { lit = lit }) lamp) (states.0 yes),
      λ lit. states.1 (lit_in_order a la ∙ map_agree (is_lit a) (is_lit b) lit printed_order ∙ sym (lit_in_order b lb)),
    )
