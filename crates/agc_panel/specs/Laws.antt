-- The terms of the panel's laws: what a write names, and when two panels show the same.
use Rattle.std.specs.Prelude.{◌≡◌, ◌≢◌, ℕ, ◌==◌, if◌then◌else◌, List, All}
use Rattle.agc_word.specs.declared.channel_write.ChannelWrite.{ChannelWrite}
use Rattle.agc_word.specs.Channels.{dsalmout, out0}
use Rattle.agc_panel.specs.declared.face.Face.{Face}
use Rattle.agc_panel.specs.declared.face.Register.{Register}
use Rattle.agc_panel.specs.declared.lamp.Lamp.{Lamp}
use Rattle.agc_panel.specs.declared.lamp.Source.{Source}
use Rattle.agc_panel.specs.declared.lamp.Source.TheVariants.{Dsalmout, LampRow}
use Rattle.agc_panel.specs.Lamp.{is_lit, wiring}
use Rattle.agc_panel.specs.RelayWord.{bits}
use Rattle.agc_panel.specs.Text.{sign_of}

-- fields that one word sets together: those of a relay row, those of DSALMOUT, or none
pub data Fields : Type 0 where
  OfRow : ℕ → Fields
  OfDsalmout : Fields
  NoFields : Fields

-- the fields that a write names
abbrev pub fields_named : ChannelWrite → Fields
fields_named write =
    if write.channel == out0 then OfRow (bits 15 12 write.value)
    else if write.channel == dsalmout then OfDsalmout
    else NoFields

-- no write names these fields
abbrev pub AreUnnamed : Fields → List ChannelWrite → Type 0
AreUnnamed fields writes = All (λ write. fields_named write ≢ fields) writes

-- the fields that a lamp belongs to
abbrev pub fields_of_source : Source → Fields
fields_of_source LampRow = OfRow 12
fields_of_source Dsalmout = OfDsalmout

abbrev pub fields_with : Lamp → Fields
fields_with lamp = fields_of_source (wiring lamp).source

-- two registers show the same sign and the same digits
pub record ShowSameRegister (a b : Register) : Type 0 where
  pub sign : sign_of a ≡ sign_of b
  pub d1 : a.d1 ≡ b.d1
  pub d2 : a.d2 ≡ b.d2
  pub d3 : a.d3 ≡ b.d3
  pub d4 : a.d4 ≡ b.d4
  pub d5 : a.d5 ≡ b.d5

-- two panels show the same digits, signs, flash and lamps
pub record ShowSame (a b : Face) : Type 0 where
  pub program : a.program ≡ b.program
  pub verb : a.verb ≡ b.verb
  pub noun : a.noun ≡ b.noun
  pub r1 : ShowSameRegister a.r1 b.r1
  pub r2 : ShowSameRegister a.r2 b.r2
  pub r3 : ShowSameRegister a.r3 b.r3
  pub flash : a.flash ≡ b.flash
  pub lamps : (lamp : Lamp) → is_lit a.lamps lamp ≡ is_lit b.lamps lamp
