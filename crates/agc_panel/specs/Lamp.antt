-- The lamps: where each is wired, its legend, and which of them are on.
use denote.Enum.Declared.{tag_of}
use Rattle.std.specs.Prelude.{ℕ, ◌==◌, Bool, false, if◌then◌else◌, List, [], ◌∷◌, Option, Some}
use Rattle.std.specs.Prelude.{None, codes, get_or, map}
use Rattle.agc_word.specs.declared.channel_write.ChannelWrite.{ChannelWrite}
use Rattle.agc_word.specs.Channels.{dsalmout}
use Rattle.agc_panel.specs.declared.lamp.Lamp.{Lamp}
use Rattle.agc_panel.specs.declared.lamp.Lamps.{Lamps}
use Rattle.agc_panel.specs.declared.lamp.Source.{Source}
use Rattle.agc_panel.specs.declared.lamp.Lamp.TheVariants.{CompActy, UplinkActy, NoAtt, Temp}
use Rattle.agc_panel.specs.declared.lamp.Lamp.TheVariants.{GimbalLock, Prog, KeyRel, OprErr}
use Rattle.agc_panel.specs.declared.lamp.Lamp.TheVariants.{Tracker, Alt, Vel, Iss}
use Rattle.agc_panel.specs.declared.lamp.Source.TheVariants.{LampRow, Dsalmout}
use Rattle.agc_panel.specs.contracts.lamp.Lamp.{the_type}
use Rattle.agc_panel.specs.RelayWord.{is_bit_on, names_row}
use Rattle.agc_panel.specs.Field.{field_after}

-- a row of the wiring table: the word that lights a lamp, its bit there, and the legend on the lamp
pub record Wiring : Type 0 where
  pub source : Source
  pub bit : ℕ
  pub words : List ℕ

-- the wiring table
abbrev pub wiring : Lamp → Wiring
wiring CompActy = record { source = Dsalmout; bit = 2; words = codes "COMP ACTY" }
wiring UplinkActy = record { source = Dsalmout; bit = 3; words = codes "UPLINK ACTY" }
wiring NoAtt = record { source = LampRow; bit = 4; words = codes "NO ATT" }
wiring Temp = record { source = Dsalmout; bit = 4; words = codes "TEMP" }
wiring GimbalLock = record { source = LampRow; bit = 6; words = codes "GIMBAL LOCK" }
wiring Prog = record { source = LampRow; bit = 9; words = codes "PROG" }
wiring KeyRel = record { source = Dsalmout; bit = 5; words = codes "KEY REL" }
wiring OprErr = record { source = Dsalmout; bit = 7; words = codes "OPR ERR" }
wiring Tracker = record { source = LampRow; bit = 8; words = codes "TRACKER" }
wiring Alt = record { source = LampRow; bit = 5; words = codes "ALT" }
wiring Vel = record { source = LampRow; bit = 3; words = codes "VEL" }
wiring Iss = record { source = Dsalmout; bit = 1; words = codes "ISS" }

-- the legend on a lamp
abbrev pub words_on : Lamp → List ℕ
words_on lamp = (wiring lamp).words

-- the order in which the lamps are printed, and in which their states are kept
abbrev pub printed_order : List Lamp
printed_order =
    CompActy ∷ UplinkActy ∷ NoAtt ∷ Temp ∷ GimbalLock ∷ Prog
    ∷ KeyRel ∷ OprErr ∷ Tracker ∷ Alt ∷ Vel ∷ Iss ∷ []

-- whether a write is such a word
abbrev pub is_from : Source → ChannelWrite → Bool
is_from LampRow write = names_row 12 write
is_from Dsalmout write = write.channel == dsalmout

-- what a write sets a bit of such a word to
unfoldable pub bit_given : Source → ℕ → ChannelWrite → Option Bool
bit_given source bit write = if is_from source write then Some (is_bit_on bit write.value) else None

-- what a write sets a lamp to
abbrev pub lamp_given : Lamp → ChannelWrite → Option Bool
lamp_given lamp write = bit_given (wiring lamp).source (wiring lamp).bit write

-- a lamp's position in print order, in which its variants are declared
abbrev pub lamp_place : Lamp → ℕ
lamp_place lamp = tag_of the_type lamp

-- whether a lamp is on
abbrev pub is_lit : Lamps → Lamp → Bool
is_lit lamps lamp = get_or lamps.lit (lamp_place lamp) false

-- all lamps off
abbrev pub dark_lamps : Lamps
dark_lamps = record { lit = map (λ _. false) printed_order }

-- a lamp after a list of writes
abbrev pub lit_after : Lamps → List ChannelWrite → Lamp → Bool
lit_after before writes lamp = field_after (is_lit before lamp) (lamp_given lamp) writes

-- the lamps after a list of writes
abbrev pub lamps_after : Lamps → List ChannelWrite → Lamps
lamps_after before writes = record { lit = map (lit_after before writes) printed_order }
