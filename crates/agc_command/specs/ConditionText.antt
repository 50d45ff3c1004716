-- What a breakpoint is at, as an answer prints it.
use Rattle.std.specs.Prelude.{ℕ, List, [], ◌++◌, codes, Option, None, Some}
use Rattle.agc_listing.specs.Cell.{cell_place}
use Rattle.agc_listing.specs.List.{listed_place}
use Rattle.agc_listing.specs.Place.{place_text}
use Rattle.agc_listing.specs.declared.location.Location.{Location}
use Rattle.agc_listing.specs.declared.location.Location.TheVariants as location
use Rattle.agc_processor.specs.Interrupt.{rupt_name}
use Rattle.agc_command.specs.Comparison.{comparison_text}
use Rattle.agc_panel.specs.PanelLine.{line_text}
use Rattle.agc_processor.specs.declared.interrupt.Rupt.{Rupt}
use Rattle.agc_session.specs.declared.condition.Condition.{Condition}
use Rattle.agc_session.specs.declared.condition.Condition.TheVariants as condition
use Rattle.agc_word.specs.Number.{Number}
use Rattle.agc_word.specs.Octal.{octal_digits, word_digits}

-- a place as traces print it
abbrev pub location_text : Location → List ℕ
location_text (location.Fixed place) = place_text (listed_place place)
location_text (location.Erasable cell) = place_text (cell_place cell)

-- a channel, a word or an interrupt, if it is one of them alone that hits
abbrev pub channel_text : Option ℕ → List ℕ
channel_text (Some channel) = codes " " ++ octal_digits 3 channel
channel_text None = []

abbrev pub word_text : Option Number → List ℕ
word_text (Some word) = codes " " ++ word_digits word
word_text None = []

abbrev pub interrupt_text : Option Rupt → List ℕ
interrupt_text (Some rupt) = codes " " ++ rupt_name rupt
interrupt_text None = []

-- what a numbered breakpoint is at
unfoldable pub breakpoint_text : Condition → List ℕ
breakpoint_text (condition.Order place) = codes "order " ++ location_text place
breakpoint_text (condition.OrderIf place comparison) =
    codes "order " ++ location_text place ++ comparison_text comparison
breakpoint_text (condition.Write channel word) = codes "write" ++ channel_text channel ++ word_text word
breakpoint_text (condition.Cell cell) = codes "cell " ++ place_text (cell_place cell)
breakpoint_text (condition.Interrupt which) = codes "interrupt" ++ interrupt_text which
breakpoint_text (condition.Caller caller) = codes "caller"
breakpoint_text condition.Panel = codes "panel"
breakpoint_text (condition.Shows line) = codes "panel " ++ line_text line
breakpoint_text condition.Boundary = codes "boundary"
