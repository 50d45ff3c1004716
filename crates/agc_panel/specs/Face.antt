-- The panel of a list of channel writes: each field has the value of the last write that names it.
use Rattle.std.specs.Prelude.{ℕ, false, List}
use Rattle.agc_word.specs.declared.channel_write.ChannelWrite.{ChannelWrite}
use Rattle.agc_panel.specs.declared.digit.Digit.TheVariants.{Blank}
use Rattle.agc_panel.specs.declared.face.Face.{Face}
use Rattle.agc_panel.specs.declared.face.Pair.{Pair}
use Rattle.agc_panel.specs.declared.face.Register.{Register}
use Rattle.agc_panel.specs.declared.lamp.Source.TheVariants.{Dsalmout}
use Rattle.agc_panel.specs.Lamp.{bit_given, lamps_after, dark_lamps}
use Rattle.agc_panel.specs.RelayWord.{sign_of_row, left_of_row, right_of_row}
use Rattle.agc_panel.specs.Field.{field_after}

-- Two digits that share a row, after a list of writes.
unfoldable pub pair_after : ℕ → Pair → List ChannelWrite → Pair
pair_after row before writes = record {
  left = field_after before.left (left_of_row row) writes;
  right = field_after before.right (right_of_row row) writes;
}

-- the bit of DSALMOUT that makes verb and noun flash
abbrev pub flash_bit : ℕ
flash_bit = 6

-- The fields after a list of writes, each beside the row or the bit that names it.
unfoldable pub face_after : Face → List ChannelWrite → Face
face_after before writes = record {
  program = pair_after 11 before.program writes;
  verb = pair_after 10 before.verb writes;
  noun = pair_after 9 before.noun writes;
  r1 = record {
    plus = field_after before.r1.plus (sign_of_row 7) writes;
    minus = field_after before.r1.minus (sign_of_row 6) writes;
    d1 = field_after before.r1.d1 (right_of_row 8) writes;
    d2 = field_after before.r1.d2 (left_of_row 7) writes;
    d3 = field_after before.r1.d3 (right_of_row 7) writes;
    d4 = field_after before.r1.d4 (left_of_row 6) writes;
    d5 = field_after before.r1.d5 (right_of_row 6) writes;
  };
  r2 = record {
    plus = field_after before.r2.plus (sign_of_row 5) writes;
    minus = field_after before.r2.minus (sign_of_row 4) writes;
    d1 = field_after before.r2.d1 (left_of_row 5) writes;
    d2 = field_after before.r2.d2 (right_of_row 5) writes;
    d3 = field_after before.r2.d3 (left_of_row 4) writes;
    d4 = field_after before.r2.d4 (right_of_row 4) writes;
    d5 = field_after before.r2.d5 (left_of_row 3) writes;
  };
  r3 = record {
    plus = field_after before.r3.plus (sign_of_row 2) writes;
    minus = field_after before.r3.minus (sign_of_row 1) writes;
    d1 = field_after before.r3.d1 (right_of_row 3) writes;
    d2 = field_after before.r3.d2 (left_of_row 2) writes;
    d3 = field_after before.r3.d3 (right_of_row 2) writes;
    d4 = field_after before.r3.d4 (left_of_row 1) writes;
    d5 = field_after before.r3.d5 (right_of_row 1) writes;
  };
  flash = field_after before.flash (bit_given Dsalmout flash_bit) writes;
  lamps = lamps_after before.lamps writes;
}

-- two digits that show nothing
abbrev pub blank_pair : Pair
blank_pair = record { left = Blank; right = Blank }

-- a register that shows neither sign nor digit
abbrev pub blank_register : Register
blank_register = record {
  plus = false;
  minus = false;
  d1 = Blank;
  d2 = Blank;
  d3 = Blank;
  d4 = Blank;
  d5 = Blank;
}

-- before any write every digit is blank, and every sign and lamp and the flash is off
unfoldable pub blank_face : Face
blank_face = record {
  program = blank_pair;
  verb = blank_pair;
  noun = blank_pair;
  r1 = blank_register;
  r2 = blank_register;
  r3 = blank_register;
  flash = false;
  lamps = dark_lamps;
}

-- the panel of a list of writes
abbrev pub panel_of : List ChannelWrite → Face
panel_of writes = face_after blank_face writes
