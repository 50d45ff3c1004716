-- How a line is parsed as a command, with symbols for places if there are any: one definition for each command, on
-- the words after its name.
use Rattle.std.specs.Prelude.{◌≡◌, ℕ, ◌+◌, ◌≤◌, ◌<◌, ◌==◌, ◌||◌, nat_lt, is_none, is_some, Bool, true, false, List, [], ◌∷◌, length, codes, drop, position}
use Rattle.std.specs.Prelude.{Option, Some, None, IfSome, Result, Ok, Err, if◌then◌else◌}
use Rattle.std.specs.List.{list_any}
use Rattle.std.specs.Option.{ok_or}
use Rattle.std.specs.Str.{bytes_eq}
use Rattle.agc_panel.specs.WatchSpec.{watch_fault_of}
use Rattle.agc_symbols.specs.Symbols.{Symbol}
use Rattle.agc_script.specs.Command.{command_of}
use Rattle.agc_script.specs.Event.{IsWhatInRange, last_cycle}
use Rattle.agc_script.specs.Grammar.{command_named}
use Rattle.agc_script.specs.Line.{begins_comment, is_beyond_ascii, longest_line}
use Rattle.agc_word.specs.Text.{words_of}
use Rattle.agc_script.specs.declared.event.What.{What}
use Rattle.agc_script.specs.declared.fault.FaultKind.{FaultKind}
use Rattle.agc_script.specs.declared.fault.FaultKind.TheVariants as kind
use Rattle.agc_script.specs.declared.key.Key.{Key}
use Rattle.agc_script.specs.declared.key.Key.TheVariants as key
use Rattle.agc_store.specs.Places.{erasable_cells}
use Rattle.agc_listing.specs.Line.{is_comma}
use Rattle.agc_listing.specs.Location.{IsWithin}
use Rattle.agc_word.specs.Channels.{IsIoChannel, last_io_channel}
use Rattle.agc_command.specs.Comparison.{after_order, only_order, order_in}
use Rattle.agc_command.specs.FileName.{name_of}
use Rattle.agc_command.specs.Name.{name_named}
use Rattle.agc_command.specs.Number.{interrupt_in, word_in}
use Rattle.agc_command.specs.Number.{channel_in, cycles_in, spec_in, written_channel_in}
use Rattle.agc_panel.specs.PanelLine.{line_in}
use Rattle.agc_command.specs.Place.{cell_in, cells_after}
use Rattle.agc_command.specs.Words.{alone, and_then, only_word}
use Rattle.agc_command.specs.declared.command.Command.{Command}
use Rattle.agc_command.specs.declared.command.Command.TheVariants as command
use Rattle.agc_command.specs.declared.command.Limits.{Limits}
use Rattle.agc_command.specs.declared.fault.CommandFault.{CommandFault}
use Rattle.agc_command.specs.declared.fault.CommandFault.TheVariants as fault
use Rattle.agc_command.specs.declared.name.CommandName.{CommandName}
use Rattle.agc_command.specs.declared.name.CommandName.TheVariants as name
use Rattle.agc_session.specs.Comparison.{IsComparisonInRange}
use Rattle.agc_session.specs.Condition.{IsConditionInRange, IsJobInRange}
use Rattle.agc_session.specs.declared.calls.CallStep.{CallStep}
use Rattle.agc_session.specs.declared.calls.CallStep.TheVariants as call
use Rattle.agc_session.specs.declared.condition.Condition.{Condition}
use Rattle.agc_session.specs.declared.condition.Condition.TheVariants as condition

-- a number of cycles or of boundaries, and no other words
abbrev pub only_cycles : CommandName → List (List ℕ) → Result ℕ CommandFault
only_cycles n words = and_then (only_word n words) cycles_in

-- `go N` and `go to C`
unfoldable pub go_of : List (List ℕ) → Result Command CommandFault
go_of [] = Err (fault.Usage name.Go)
go_of (first ∷ words) =
    if bytes_eq first (codes "to")
    then and_then (only_cycles name.Go words) (λ cycle. Ok (command.GoTo cycle))
    else and_then (only_cycles name.Go (first ∷ words)) (λ cycles. Ok (command.Go cycles))

-- `cell PLACE` after the number of boundaries, or nothing
unfoldable pub step_cell : Option (List Symbol) → List (List ℕ) → Result (Option ℕ) CommandFault
step_cell names [] = Ok None
step_cell names (first ∷ words) =
    if bytes_eq first (codes "cell")
    then and_then (and_then (only_word name.Step words) (cell_in names)) (λ cell. Ok (Some cell))
    else Err (fault.Usage name.Step)

-- `step`, `step N` and `step N cell PLACE`
unfoldable pub step_of : Option (List Symbol) → List (List ℕ) → Result Command CommandFault
step_of names [] = Ok (command.Step (record { boundaries = 1; cell = None }))
step_of names (first ∷ words) =
    and_then (cycles_in first)
    (λ boundaries. and_then (step_cell names words)
    (λ cell. Ok (command.Step (record { boundaries = boundaries; cell = cell }))))

-- `ahead` and `ahead N`
unfoldable pub ahead_of : List (List ℕ) → Result Command CommandFault
ahead_of [] = Ok (command.Ahead 1)
ahead_of (first ∷ words) =
    and_then (only_cycles name.Ahead (first ∷ words)) (λ boundaries. Ok (command.Ahead boundaries))

-- the words after an option and its value, if they begin with it
unfoldable pub after_option : List ℕ → List (List ℕ) → List (List ℕ)
after_option option [] = []
after_option option (first ∷ words) = if bytes_eq first option then drop 1 words else first ∷ words

-- `within N` at the end, or 1,000,000 cycles
unfoldable pub within_of : CommandName → List (List ℕ) → Result ℕ CommandFault
within_of n [] = Ok 1000000
within_of n (first ∷ words) =
    if bytes_eq first (codes "within") then only_cycles n words else Err (fault.Usage n)

-- `ignore N` at the beginning of some words, or 0
abbrev pub ignored_number : CommandName → List (List ℕ) → Result ℕ CommandFault
ignored_number n [] = Err (fault.Usage n)
ignored_number n (number ∷ words) = cycles_in number

unfoldable pub ignored_in : CommandName → List (List ℕ) → Result ℕ CommandFault
ignored_in n [] = Ok 0
ignored_in n (first ∷ words) = if bytes_eq first (codes "ignore") then ignored_number n words else Ok 0

-- `ignore N`, and `within N` after it
unfoldable pub limits_of : CommandName → List (List ℕ) → Result Limits CommandFault
limits_of n words =
    and_then (ignored_in n words)
    (λ ignore. and_then (within_of n (after_option (codes "ignore") words))
    (λ within. Ok (record { ignore = ignore; within = within })))

-- `job CELL` at the beginning of some words
abbrev pub job_cell : Option (List Symbol) → CommandName → List (List ℕ) → Result (Option ℕ) CommandFault
job_cell names n [] = Err (fault.Usage n)
job_cell names n (place ∷ words) = and_then (cell_in names place) (λ cell. Ok (Some cell))

unfoldable pub job_in : Option (List Symbol) → CommandName → List (List ℕ) → Result (Option ℕ) CommandFault
job_in names n [] = Ok None
job_in names n (first ∷ words) = if bytes_eq first (codes "job") then job_cell names n words else Ok None

-- `over` and `finish`
unfoldable pub call_of : Option (List Symbol) → CommandName → CallStep → List (List ℕ) → Result Command CommandFault
call_of names n step words =
    and_then (job_in names n words)
    (λ job. and_then (within_of n (after_option (codes "job") words))
    (λ within. Ok (command.StepCall (record { step = step; job = job; within = within }))))

unfoldable pub until_target : Condition → List (List ℕ) → Result Command CommandFault
until_target what words = and_then (limits_of name.Until words) (λ limits. Ok (command.Until what limits))

-- `until write CCC`
abbrev pub until_write : List (List ℕ) → Result Command CommandFault
until_write [] = Err (fault.Usage name.Until)
until_write (channel ∷ words) =
    and_then (written_channel_in channel) (λ number. until_target (condition.Write (Some number) None) words)

-- `until cell PLACE`
abbrev pub until_cell : Option (List Symbol) → List (List ℕ) → Result Command CommandFault
until_cell names [] = Err (fault.Usage name.Until)
until_cell names (place ∷ words) =
    and_then (cell_in names place) (λ cell. until_target (condition.Cell cell) words)

-- `until PLACE` and `until PLACE if CELL < WORD`
abbrev pub until_place : Option (List Symbol) → List (List ℕ) → Result Command CommandFault
until_place names words = and_then (order_in names name.Until words) (λ what. until_target what (after_order words))

-- the same, or one of the two before
unfoldable pub until_of : Option (List Symbol) → List (List ℕ) → Result Command CommandFault
until_of names [] = Err (fault.Usage name.Until)
until_of names (first ∷ words) =
    if bytes_eq first (codes "write") then until_write words
    else if bytes_eq first (codes "cell") then until_cell names words
    else until_place names (first ∷ words)

-- a breakpoint
abbrev pub break_at : Condition → Command
break_at what = command.Break what

-- `break write CCC` and `break write CCC WORD`
unfoldable pub break_write_of : ℕ → List (List ℕ) → Result Command CommandFault
break_write_of channel [] = Ok (break_at (condition.Write (Some channel) None))
break_write_of channel (word ∷ words) =
    and_then (word_in word)
    (λ value. alone (break_at (condition.Write (Some channel) (Some value))) name.Break words)

abbrev pub break_write : List (List ℕ) → Result Command CommandFault
break_write [] = Err (fault.Usage name.Break)
break_write (channel ∷ words) =
    and_then (written_channel_in channel) (λ number. break_write_of number words)

-- a breakpoint at a cell
abbrev pub break_at_cell : Option (List Symbol) → List ℕ → Result Command CommandFault
break_at_cell names word = and_then (cell_in names word) (λ cell. Ok (break_at (condition.Cell cell)))

-- `break cell PLACE`
abbrev pub break_cell : Option (List Symbol) → List (List ℕ) → Result Command CommandFault
break_cell names words = and_then (only_word name.Break words) (break_at_cell names)

-- `break interrupt NAME`
abbrev pub break_interrupt : List (List ℕ) → Result Command CommandFault
break_interrupt words =
    and_then (and_then (only_word name.Break words) interrupt_in)
    (λ rupt. Ok (break_at (condition.Interrupt (Some rupt))))

-- `break PLACE` and `break PLACE if CELL < WORD`
abbrev pub break_place : Option (List Symbol) → List (List ℕ) → Result Command CommandFault
break_place names words = and_then (only_order names name.Break words) (λ what. Ok (break_at what))

-- `break panel` and `break panel TEXT`
unfoldable pub break_panel : List (List ℕ) → Result Command CommandFault
break_panel [] = Ok (command.Break condition.Panel)
break_panel (first ∷ words) =
    and_then (ok_or (line_in (first ∷ words)) fault.BadLine) (λ line. Ok (command.Break (condition.Shows line)))

-- the same, or one of the four before
unfoldable pub break_of : Option (List Symbol) → List (List ℕ) → Result Command CommandFault
break_of names [] = Err (fault.Usage name.Break)
break_of names (first ∷ words) =
    if bytes_eq first (codes "write") then break_write words
    else if bytes_eq first (codes "cell") then break_cell names words
    else if bytes_eq first (codes "interrupt") then break_interrupt words
    else if bytes_eq first (codes "panel") then break_panel words
    else break_place names (first ∷ words)

-- `delete N`
unfoldable pub delete_of : List (List ℕ) → Result Command CommandFault
delete_of words = and_then (only_cycles name.Delete words) (λ number. Ok (command.Delete number))

-- `continue`, with `ignore N` or `within N` or both after it
unfoldable pub continue_of : List (List ℕ) → Result Command CommandFault
continue_of words =
    and_then (limits_of name.Continue words) (λ limits. Ok (command.Continue limits))

-- `quiet` and `quiet off`
unfoldable pub quiet_of : List (List ℕ) → Result Command CommandFault
quiet_of [] = Ok (command.Quiet true)
quiet_of (first ∷ words) =
    if bytes_eq first (codes "off")
    then alone (command.Quiet false) name.Quiet words
    else Err (fault.Usage name.Quiet)

-- tables have two commas or more, and a place at most one
abbrev pub has_second_comma : Option ℕ → List ℕ → Bool
has_second_comma (Some first) word = is_some (position is_comma (drop (first + 1) word))
has_second_comma None word = false

unfoldable pub is_tables : List ℕ → Bool
is_tables word = has_second_comma (position is_comma word) word

-- `watch SPEC` and `watch PLACE`
abbrev pub watch_word : Option (List Symbol) → List ℕ → Result Command CommandFault
watch_word names word =
    if is_tables word
    then and_then (spec_in word) (λ spec. Ok (command.Watch spec))
    else break_at_cell names word

unfoldable pub watch_of : Option (List Symbol) → List (List ℕ) → Result Command CommandFault
watch_of names words = and_then (only_word name.Watch words) (watch_word names)

-- `cell PLACE` and `cell PLACE N`
unfoldable pub cells_of : Option (List Symbol) → List (List ℕ) → Result Command CommandFault
cells_of names [] = Err (fault.Usage name.Cell)
cells_of names (place ∷ words) =
    and_then (cell_in names place)
    (λ first. and_then (cells_after name.Cell first words) (λ count. Ok (command.Cells first count)))

-- `print PLACE` and `print PLACE N`
unfoldable pub print_of : Option (List Symbol) → List (List ℕ) → Result Command CommandFault
print_of names [] = Err (fault.Usage name.Print)
print_of names (place ∷ words) =
    and_then (cell_in names place)
    (λ first. and_then (cells_after name.Print first words) (λ count. Ok (command.Print first count)))

-- `channel CCC`
unfoldable pub channel_of : List (List ℕ) → Result Command CommandFault
channel_of words =
    and_then (and_then (only_word name.Channel words) channel_in)
    (λ channel. Ok (command.Channel channel))

-- a search for the last hit before some that are passed over
abbrev pub hit_past : ℕ → Condition → Command
hit_past ignore what = command.BackTo (record { what = what; count = ignore + 1; lists = false })

-- `back step` and `back step N`
abbrev pub steps_back : ℕ → Result Command CommandFault
steps_back boundaries =
    if boundaries == 0
    then Err fault.NoStep
    else Ok (command.BackTo (record { what = condition.Boundary; count = boundaries; lists = false }))

unfoldable pub back_step : List (List ℕ) → Result Command CommandFault
back_step [] = Ok (hit_past 0 condition.Boundary)
back_step (first ∷ words) = and_then (only_cycles name.Back (first ∷ words)) steps_back

-- `back over` and `back finish`
unfoldable pub back_call_of : Option (List Symbol) → CallStep → List (List ℕ) → Result Command CommandFault
back_call_of names step words =
    and_then (job_in names name.Back words)
    (λ job. alone (command.BackCall (record { step = step; job = job; lists = false })) name.Back
    (after_option (codes "job") words))

-- the words after what a search looks for: `ignore N`, or none
unfoldable pub back_target : Condition → List (List ℕ) → Result Command CommandFault
back_target what words =
    and_then (ignored_in name.Back words)
    (λ ignore. alone (hit_past ignore what) name.Back (after_option (codes "ignore") words))

-- `back until write CCC` and `back until write CCC WORD`, with `ignore N` or without it
unfoldable pub back_write_of : ℕ → List (List ℕ) → Result Command CommandFault
back_write_of channel [] = back_target (condition.Write (Some channel) None) []
back_write_of channel (word ∷ words) =
    if bytes_eq word (codes "ignore")
    then back_target (condition.Write (Some channel) None) (word ∷ words)
    else and_then (word_in word) (λ value. back_target (condition.Write (Some channel) (Some value)) words)

abbrev pub back_write : List (List ℕ) → Result Command CommandFault
back_write [] = Err (fault.Usage name.Back)
back_write (channel ∷ words) =
    and_then (written_channel_in channel) (λ number. back_write_of number words)

-- `back until cell PLACE`
abbrev pub back_cell : Option (List Symbol) → List (List ℕ) → Result Command CommandFault
back_cell names [] = Err (fault.Usage name.Back)
back_cell names (place ∷ words) =
    and_then (cell_in names place) (λ cell. back_target (condition.Cell cell) words)

-- `back until interrupt` and `back until interrupt NAME`, with `ignore N` or without it
unfoldable pub back_interrupt : List (List ℕ) → Result Command CommandFault
back_interrupt [] = back_target (condition.Interrupt None) []
back_interrupt (first ∷ words) =
    if bytes_eq first (codes "ignore")
    then back_target (condition.Interrupt None) (first ∷ words)
    else and_then (interrupt_in first) (λ rupt. back_target (condition.Interrupt (Some rupt)) words)

-- `back until PLACE` and `back until PLACE if CELL < WORD`
abbrev pub back_place : Option (List Symbol) → List (List ℕ) → Result Command CommandFault
back_place names words =
    and_then (order_in names name.Back words) (λ what. back_target what (after_order words))

-- the same, `back until panel`, or one of the three before
unfoldable pub back_until : Option (List Symbol) → List (List ℕ) → Result Command CommandFault
back_until names [] = Err (fault.Usage name.Back)
back_until names (first ∷ words) =
    if bytes_eq first (codes "write") then back_write words
    else if bytes_eq first (codes "cell") then back_cell names words
    else if bytes_eq first (codes "interrupt") then back_interrupt words
    else if bytes_eq first (codes "panel") then back_target condition.Panel words
    else back_place names (first ∷ words)

-- `back C`, or one of the searches before
unfoldable pub way_back : Option (List Symbol) → List (List ℕ) → Result Command CommandFault
way_back names [] = Err (fault.Usage name.Back)
way_back names (first ∷ words) =
    if bytes_eq first (codes "step") then back_step words
    else if bytes_eq first (codes "until") then back_until names words
    else if bytes_eq first (codes "over") then back_call_of names call.Over words
    else if bytes_eq first (codes "finish") then back_call_of names call.Finish words
    else and_then (only_cycles name.Back (first ∷ words))
    (λ cycle. Ok (command.Back (record { cut = cycle; cycle = cycle; lists = false })))

-- the same command, which lists what it drops if it goes back
unfoldable pub listing : Command → Command
listing (command.Back way) = command.Back (record way { lists = true })
listing (command.BackTo search) = command.BackTo (record search { lists = true })
listing (command.BackCall back) = command.BackCall (record back { lists = true })
listing c = c

-- the same, or `list` before it
unfoldable pub back_of : Option (List Symbol) → List (List ℕ) → Result Command CommandFault
back_of names [] = Err (fault.Usage name.Back)
back_of names (first ∷ words) =
    if bytes_eq first (codes "list")
    then and_then (way_back names words) (λ c. Ok (listing c))
    else way_back names (first ∷ words)

-- `save FILE`
unfoldable pub save_of : List (List ℕ) → Result Command CommandFault
save_of words = and_then (only_word name.Save words) (λ word. Ok (command.Save (name_of word)))

-- how the words after a name are parsed
unfoldable pub command_by : Option (List Symbol) → CommandName → List (List ℕ) → Result Command CommandFault
command_by names name.Go words = go_of words
command_by names name.Step words = step_of names words
command_by names name.Over words = call_of names name.Over call.Over words
command_by names name.Finish words = call_of names name.Finish call.Finish words
command_by names name.Until words = until_of names words
command_by names name.Break words = break_of names words
command_by names name.Breaks words = alone command.Breaks name.Breaks words
command_by names name.Delete words = delete_of words
command_by names name.Continue words = continue_of words
command_by names name.Quiet words = quiet_of words
command_by names name.Panel words = alone command.Panel name.Panel words
command_by names name.Watch words = watch_of names words
command_by names name.Registers words = alone command.Registers name.Registers words
command_by names name.Next words = alone command.Next name.Next words
command_by names name.Ahead words = ahead_of words
command_by names name.Where words = alone command.Where name.Where words
command_by names name.Cell words = cells_of names words
command_by names name.Print words = print_of names words
command_by names name.Channel words = channel_of words
command_by names name.Writes words = alone command.Writes name.Writes words
command_by names name.Back words = back_of names words
command_by names name.Script words = alone command.Script name.Script words
command_by names name.Save words = save_of words
command_by names name.Help words = alone command.Help name.Help words
command_by names name.Quit words = alone command.Quit name.Quit words

-- the key with the first letter of a word, in upper or lower case
unfoldable pub key_from : ℕ → Option Key
key_from letter =
    if letter == 86 || letter == 118 then Some key.Verb
    else if letter == 78 || letter == 110 then Some key.Noun
    else if letter == 82 || letter == 114 then Some key.Reset
    else if letter == 75 || letter == 107 then Some key.KeyRelease
    else if letter == 69 || letter == 101 then Some key.Enter
    else if letter == 67 || letter == 99 then Some key.Clear
    else None

unfoldable pub key_fault : List ℕ → CommandFault
key_fault [] = fault.UnknownKey None
key_fault (letter ∷ letters) =
    if letter == 80 || letter == 112 then fault.ProKey else fault.UnknownKey (key_from letter)

-- the fault of an event: of a single word after `key`, that it is no key
unfoldable pub event_fault : FaultKind → List ℕ → List (List ℕ) → CommandFault
event_fault kind.UnknownWord first (word ∷ []) =
    if bytes_eq first (codes "key") then key_fault word else fault.BadEvent kind.UnknownWord
event_fault why first words = fault.BadEvent why

-- an event in the words of a script
abbrev pub injected : List ℕ → List (List ℕ) → Result What FaultKind → Result Command CommandFault
injected first words (Ok what) = Ok (command.Inject what)
injected first words (Err why) = Err (event_fault why first words)

-- a line whose first word is none of the console's own commands
unfoldable pub event_of : List ℕ → List (List ℕ) → Result Command CommandFault
event_of first words =
    if is_none (command_named first) then Err fault.UnknownCommand
    else injected first words (command_of (first ∷ words))

-- a command by its first word
abbrev pub named_or_event : Option (List Symbol) → Option CommandName → List ℕ → List (List ℕ)
    → Result Command CommandFault
named_or_event names (Some n) first words = command_by names n words
named_or_event names None first words = event_of first words

abbrev pub requested : Command → Result (Option Command) CommandFault
requested command = Ok (Some command)

-- how words are parsed: no words, and a comment, give no command
unfoldable pub words_request : Option (List Symbol) → List (List ℕ) → Result (Option Command) CommandFault
words_request names [] = Ok None
words_request names (first ∷ words) =
    if begins_comment first then Ok None
    else and_then (named_or_event names (name_named first) first words) requested

-- How a line is parsed with these symbols: a command, none, or its fault.
unfoldable pub request_of : Option (List Symbol) → List ℕ → Result (Option Command) CommandFault
request_of names line =
    if nat_lt longest_line (length line) then Err fault.LineTooLong
    else if list_any is_beyond_ascii line then Err fault.NotAscii
    else words_request names (words_of line)

-- each number of a command is in its range
abbrev pub IsChannelInRange : Option ℕ → Type 0
IsChannelInRange (Some channel) = IsIoChannel channel
IsChannelInRange None = Unit {0}

unfoldable pub IsBreakpointInRange : Condition → Type 0
IsBreakpointInRange (condition.Caller caller) = IsJobInRange caller.job
IsBreakpointInRange (condition.Order place) = IsWithin place
IsBreakpointInRange (condition.OrderIf place comparison) = IsWithin place × IsComparisonInRange comparison
IsBreakpointInRange (condition.Write channel word) = IsChannelInRange channel
IsBreakpointInRange (condition.Cell cell) = cell < erasable_cells
IsBreakpointInRange (condition.Interrupt which) = Unit {0}
IsBreakpointInRange condition.Panel = Unit {0}
IsBreakpointInRange (condition.Shows line) = Unit {0}
IsBreakpointInRange condition.Boundary = Unit {0}

abbrev pub IsJobCell : Option ℕ → Type 0
IsJobCell job = IfSome job (λ cell. cell < erasable_cells)

unfoldable pub IsCommandInRange : Command → Type 0
IsCommandInRange (command.StepCall step) = IsJobCell step.job × (step.within ≤ last_cycle)
IsCommandInRange (command.BackCall back) = IsJobCell back.job
IsCommandInRange (command.Go cycles) = cycles ≤ last_cycle
IsCommandInRange (command.GoTo cycle) = cycle ≤ last_cycle
IsCommandInRange (command.Step steps) = (steps.boundaries ≤ last_cycle) × IsJobCell steps.cell
IsCommandInRange (command.Ahead boundaries) = boundaries ≤ last_cycle
IsCommandInRange (command.Until what limits) = IsBreakpointInRange what × (limits.within ≤ last_cycle)
IsCommandInRange (command.Break what) = IsBreakpointInRange what
IsCommandInRange (command.Continue limits) = limits.within ≤ last_cycle
IsCommandInRange (command.Inject what) = IsWhatInRange what
IsCommandInRange (command.Watch spec) = watch_fault_of spec ≡ None
IsCommandInRange (command.Cells first count) = first + count ≤ erasable_cells
IsCommandInRange (command.Print first count) = first + count ≤ erasable_cells
IsCommandInRange (command.Channel channel) = channel ≤ last_io_channel
IsCommandInRange (command.Back way) = (way.cut ≤ last_cycle) × (way.cycle ≤ last_cycle)
IsCommandInRange (command.BackTo search) = (0 < search.count) × IsConditionInRange search.what
IsCommandInRange command = Unit {0}
