-- The key events of a script.
use Rattle.std.specs.Prelude.{Bool, true, false, List, filter}
use Rattle.agc_script.specs.declared.event.Event.{Event}
use Rattle.agc_script.specs.declared.event.What.{What}
use Rattle.agc_script.specs.declared.event.What.TheVariants as what

-- a key is pressed, or PRO is pressed or released
abbrev pub is_on_keyboard : What → Bool
is_on_keyboard (what.Key key) = true
is_on_keyboard (what.Pro down) = true
is_on_keyboard (what.Input channel value) = false
is_on_keyboard (what.Pulse counter kind) = false
is_on_keyboard (what.Raise number) = false
is_on_keyboard (what.Poke bank offset value) = false

-- the key events among some events, in order
unfoldable pub presses_of : List Event → List Event
presses_of events = filter (λ event. is_on_keyboard event.what) events
