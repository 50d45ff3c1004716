-- What the display keeps of the writes that it took, and what it finds in its ring.
use Rattle.std.specs.Prelude.{◌≡◌, Bool, false, true, List}
use Rattle.agc_word.specs.declared.channel_write.ChannelWrite.{ChannelWrite}
use Rattle.agc_panel.specs.Face.{panel_of}
use Rattle.agc_pipe.specs.declared.display.Poll.{Poll}
use Rattle.agc_pipe.specs.declared.display.Poll.TheVariants as look
use Rattle.agc_pipe.specs.declared.display.Display.{Display}

-- the log is these writes and the panel is theirs, unless the log ran out of memory
abbrev pub IsShowing : Display → List ChannelWrite → Type 0
IsShowing display writes =
    display.refused ≡ false → (display.log.items ≡ writes) × (display.panel ≡ panel_of writes)

-- a poll found the end
abbrev pub is_end : Poll → Bool
is_end look.Nothing = false
is_end look.Items = false
is_end look.End = true
