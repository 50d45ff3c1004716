-- A write that names no field leaves the panel as it is.
use Rattle.std.proofs.Common.{◌≡◌, ◌∙◌, ◌≤◌, ℕ, ap, arith, false, length, [], ◌∷◌, refl, sym}
use Rattle.std.specs.Prelude.{◌==◌}
use Rattle.std.proofs.lemmas.Bool.{and_left, and_right, ne_eqb}
use Rattle.agc_word.specs.Channels.{out0}
use Rattle.agc_word.specs.declared.channel_write.ChannelWrite.{ChannelWrite}
use Rattle.agc_panel.specs.Face.{face_after, pair_after}
use Rattle.agc_panel.specs.Field.{field_after}
use Rattle.agc_panel.specs.Lamp.{bit_given, is_from, printed_order}
use Rattle.agc_panel.specs.RelayWord.{bits, left_of_row, names_row, right_of_row, sign_of_row}
use Rattle.agc_panel.specs.declared.face.Face.{Face}
use Rattle.agc_panel.specs.declared.lamp.Source.TheVariants.{Dsalmout}
use Rattle.agc_panel.proofs.LampLemmas.{no_lamp_named}

pub unnamed : (face : Face) (write : ChannelWrite) → length face.lamps.lit ≡ length printed_order
    → ((row : ℕ) → 1 ≤ row → row ≤ 12 → names_row row write ≡ false) → is_from Dsalmout write ≡ false
    → face_after face (write ∷ []) ≡ face
unfolding face_after pair_after field_after sign_of_row left_of_row right_of_row bit_given
unnamed face write long h d =
    let lamps = no_lamp_named face.lamps write long (h 12 (omega arith) (omega arith)) d in
    rw (
      lamps,
      d,
      h 1 (omega arith) (omega arith),
      h 2 (omega arith) (omega arith),
      h 3 (omega arith) (omega arith),
      h 4 (omega arith) (omega arith),
      h 5 (omega arith) (omega arith),
      h 6 (omega arith) (omega arith),
      h 7 (omega arith) (omega arith),
      h 8 (omega arith) (omega arith),
      h 9 (omega arith) (omega arith),
      h 10 (omega arith) (omega arith),
      h 11 (omega arith) (omega arith),
    ) refl

-- a word of one row names no other
pub other_row : (write : ChannelWrite) (row n : ℕ) → n ≡ bits 15 12 write.value → (n ≡ row → ⊥) → names_row row write ≡ false
other_row write row n is apart =
    and_right (write.channel == out0) (bits 15 12 write.value == row) (ap (λ (k : ℕ). k == row) (sym is) ∙ ne_eqb n row apart)

-- a write of another channel names no row
pub other_channel : (write : ChannelWrite) (row : ℕ) → (write.channel ≡ out0 → ⊥) → names_row row write ≡ false
other_channel write row apart =
    and_left (write.channel == out0) (bits 15 12 write.value == row) (ne_eqb write.channel out0 apart)
