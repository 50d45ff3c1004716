-- How a script is written as text: a line for each event.
use Rattle.std.specs.Prelude.{ℕ, false, List, ◌++◌, codes}
use Rattle.std.specs.Fmt.{decimal, digits}
use Rattle.std.specs.List.{flat_map}
use Rattle.agc_word.specs.Octal.{word_digits}
use Rattle.agc_word.specs.Pulses.{pulse_name}
use Rattle.agc_script.specs.Grammar.{direction_name}
use Rattle.agc_script.specs.Key.{name_of}
use Rattle.agc_script.specs.declared.event.Event.{Event}
use Rattle.agc_script.specs.declared.event.What.{What}
use Rattle.agc_script.specs.declared.event.What.TheVariants as what

-- a number in octal, without zeros in front
abbrev pub plain_octal : ℕ → List ℕ
plain_octal n = digits 8 false n

-- an event, as the command of a script
unfoldable pub what_text : What → List ℕ
what_text (what.Key key) = codes "key " ++ name_of key
what_text (what.Pro down) = codes "pro " ++ direction_name down
what_text (what.Input channel value) =
    codes "input " ++ plain_octal channel ++ codes " " ++ word_digits value
what_text (what.Pulse counter kind) =
    codes "pulse " ++ plain_octal counter ++ codes " " ++ pulse_name kind
what_text (what.Raise number) = codes "raise " ++ decimal number
what_text (what.Poke bank offset value) =
    codes "poke " ++ plain_octal bank ++ codes " " ++ plain_octal offset ++ codes " "
    ++ word_digits value

-- an event as a line: its cycle in decimal, and its command
abbrev pub event_text : Event → List ℕ
event_text event = decimal event.cycle ++ codes " " ++ what_text event.what ++ codes "\n"

-- a script as a file
unfoldable pub script_text : List Event → List ℕ
script_text events = flat_map event_text events
