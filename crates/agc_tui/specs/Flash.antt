-- What is seen of the panel while verb and noun flash.
use Rattle.std.specs.Prelude.{Bool, ◌&&◌, if◌then◌else◌}
use Rattle.agc_panel.specs.declared.face.Face.{Face}
use Rattle.agc_panel.specs.Face.{blank_pair}

-- the visible face: verb and noun are blank in the dark half of their flash
abbrev pub seen : Bool → Face → Face
seen blink_off face =
    if face.flash && blink_off then record face { verb = blank_pair; noun = blank_pair } else face
