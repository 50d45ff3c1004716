-- How a source is assembled: first its names, then its words.
use Rattle.std.specs.Prelude.{◌≡◌, ◌<◌, ◌==◌, ℕ, zero, suc, ◌+◌, ◌/◌, nat_lt, Bool, true, false, not, ◌&&◌, ◌∷◌, List, [], length}
use Rattle.std.specs.Prelude.{Option, Some, None, Result, Ok, Err, is_some, if◌then◌else◌, IfSome}
use Rattle.std.specs.List.{list_all, list_any}
use Rattle.agc_interpretive.specs.Pending.{fault_at_end, fault_before_basic}
use Rattle.agc_interpretive.specs.declared.fault.Fault.{Fault}
use Rattle.agc_interpretive.specs.declared.pending.Pending.{Pending}
use Rattle.agc_word.specs.Number.{Number, number_from_pattern}
use Rattle.agc_store.specs.Places.{fixed_words}
use Rattle.agc_store.specs.declared.rope_file.RopeForm.{RopeForm}
use Rattle.agc_word.specs.Text.{lines_of}
use Rattle.agc_listing.specs.Line.{is_no_text, line_named}
use Rattle.agc_listing.specs.Order.{next_is_extracode}
use Rattle.agc_listing.specs.Weave.{parsed_in, with_placed_word, unless_named, woven_file}
use Rattle.agc_listing.specs.declared.fault.LineFault.{LineFault}
use Rattle.agc_listing.specs.declared.fault.LineFault.TheVariants as line_fault
use Rattle.agc_listing.specs.declared.fault.WeaveFault.{WeaveFault}
use Rattle.agc_listing.specs.declared.fault.WeaveFault.TheVariants as weave
use Rattle.agc_listing.specs.declared.line.PlacedWord.{PlacedWord}
use Rattle.agc_store.specs.Places.{erasable_bank_size, erasable_cells, fixed_fixed}
use Rattle.agc_vocabulary.specs.Body.{line_label, body_in, has_non_ascii_comment, is_include, plain_line, spelled}
use Rattle.agc_encode.specs.Interpretive.{due_behind, role_of, spoken_meaning, spoken_words}
use Rattle.agc_encode.specs.LocationCounter.{IsAt, after_cells, after_words, due_there, first_counter, location_at, room_at}
use Rattle.agc_encode.specs.Encode.{banks_after, cell_in, is_banked, encode_pair, place_in, superbank, encode_word, writes_order}
use Rattle.agc_asm.specs.Channels.{channels_from}
use Rattle.agc_vocabulary.specs.Name.{Naming, guessing, known, no_name, with_name}
use Rattle.agc_encode.specs.Operand.{location_apart, location_beside, location_in}
use Rattle.agc_encode.specs.LineKind.{counter_after, kind_of}
use Rattle.agc_listing.specs.Text.{after_first, are_listed, is_name, parsed_by}
use Rattle.agc_encode.specs.declared.location_counter.At.{At}
use Rattle.agc_encode.specs.declared.location_counter.At.TheVariants as at
use Rattle.agc_encode.specs.declared.location_counter.LocationCounter.{LocationCounter}
use Rattle.agc_vocabulary.specs.declared.source_fault.SourceFault.{SourceFault}
use Rattle.agc_vocabulary.specs.declared.source_fault.SourceFault.TheVariants as fault
use Rattle.agc_asm.specs.declared.fault.AssemblyFault.{AssemblyFault}
use Rattle.agc_asm.specs.declared.fault.AssemblyFault.TheVariants as trouble
use Rattle.agc_asm.specs.declared.pass1.Labelled.{Labelled}
use Rattle.agc_listing.specs.declared.location.Location.{Location}
use Rattle.agc_listing.specs.declared.location.Location.TheVariants as location
use Rattle.agc_encode.specs.declared.encode.Banks.{Banks}
use Rattle.agc_encode.specs.declared.encode.Pair.{Pair}
use Rattle.agc_encode.specs.declared.line_kind.LineKind.{LineKind}
use Rattle.agc_encode.specs.declared.line_kind.LineKind.TheVariants as kind
use Rattle.agc_encode.specs.declared.role.Role.{Role}
use Rattle.agc_encode.specs.declared.role.Role.TheVariants as role
use Rattle.agc_asm.specs.declared.pass2.State.{State}
use Rattle.agc_asm.specs.declared.pass2.Step.{Step}

-- The first pass: the location of each name.

-- the location of the next line, if there is room for a word or a cell
abbrev pub here_fixed : Result ℕ SourceFault → Result (Option Location) SourceFault
here_fixed (Ok place) = Ok (Some (location.Fixed place))
here_fixed (Err why) = Err why

abbrev pub here_place : LocationCounter → At → Result (Option Location) SourceFault
here_place counter (at.Bank bank) = here_fixed (room_at counter (at.Bank bank) 1)
here_place counter (at.Cell cell) =
    if nat_lt cell erasable_cells then Ok (Some (location.Erasable cell)) else Err fault.Full

abbrev pub some_place : Result Location SourceFault → Result (Option Location) SourceFault
some_place (Ok place) = Ok (Some place)
some_place (Err why) = Err why

-- The location of a line's name: its first word or cell, or the location that the line states; with SETLOC, EBANK= and
-- SBANK= that of the next line.
abbrev pub label_place : LocationCounter → LineKind → Result (Option Location) SourceFault
label_place counter kind.Word = Ok (Some (location_at counter counter.at))
label_place counter kind.Pair = Ok (Some (location_at counter counter.at))
label_place counter (kind.Cells count) = Ok (Some (location_at counter counter.at))
label_place counter (kind.Range first end) = Ok (Some (location.Erasable first))
label_place counter (kind.StandsFor place) = Ok (Some place)
label_place counter kind.StandsHere = here_place counter counter.at
label_place counter (kind.StandsBeside by) = some_place (location_beside (location_at counter counter.at) by)
label_place counter (kind.StandsApart from) = some_place (location_apart (location_at counter counter.at) from)
label_place counter (kind.Moves place) = Ok (Some place)
label_place counter kind.Ebank = here_place counter counter.at
label_place counter kind.Sbank = here_place counter counter.at
label_place counter kind.Nothing = Ok None
label_place counter (kind.Checks place) = Ok None
label_place counter s = Err fault.MisplacedName

-- a line without a name
abbrev pub no_label : LineKind → Result (Option Location) SourceFault
no_label (kind.StandsFor place) = Err fault.MisplacedName
no_label kind.StandsHere = Err fault.MisplacedName
no_label (kind.StandsBeside by) = Err fault.MisplacedName
no_label (kind.StandsApart from) = Err fault.MisplacedName
no_label (kind.Checks place) = Err fault.MisplacedName
no_label s = Ok None

-- `CHECK=` takes a name that is known, here or later, and that is one for its location.
abbrev pub is_same : Location → Location → Bool
is_same (location.Erasable cell) (location.Erasable other) = cell == other
is_same (location.Fixed place) (location.Fixed other) = place == other
is_same one other = false

abbrev pub checked : Option Location → Location → Result (Option Location) SourceFault
checked (Some one) place = if is_same one place then Ok None else Err fault.CheckFailed
checked None place = Err fault.CheckFailed

abbrev pub place_of_name : Naming → LocationCounter → LineKind → List ℕ → Result (Option Location) SourceFault
place_of_name naming counter (kind.Checks place) label = checked (known naming label) place
place_of_name naming counter s label =
    if is_some (naming.given label) then Err fault.NameTwice else label_place counter s

abbrev pub place_labelled : Naming → LocationCounter → LineKind → Option (List ℕ) → Result (Option Location) SourceFault
place_labelled naming counter s None = no_label s
place_labelled naming counter s (Some label) =
    if not (is_name label) then Err fault.BadName else place_of_name naming counter s label

abbrev pub labelled : Result LocationCounter SourceFault → Result (Option Location) SourceFault → Result Labelled SourceFault
labelled (Err why) place = Err why
labelled (Ok next) (Err why) = Err why
labelled (Ok next) (Ok place) = Ok (record { counter = next; place = place })

abbrev pub shape_labelled : Naming → LocationCounter → Option (List ℕ) → Result LineKind SourceFault → Result Labelled SourceFault
shape_labelled naming counter label (Err why) = Err why
shape_labelled naming counter label (Ok s) =
    labelled (counter_after counter s) (place_labelled naming counter s label)

-- a listing line has no name
abbrev pub listed_labelled : LocationCounter → Result (Option PlacedWord) LineFault → Result Labelled SourceFault
listed_labelled counter (Ok parsed) = Ok (record { counter = counter; place = None })
listed_labelled counter (Err why) = Err (fault.Listed why)

-- an interpretive line has one word, and may have a name
abbrev pub with_due : Pending → Result Labelled SourceFault → Result Labelled SourceFault
with_due due (Ok next) = Ok (record { counter = due_there due next.counter; place = next.place })
with_due due (Err why) = Err why

abbrev pub spoken_labelled : Naming → LocationCounter → List ℕ → Pending → Result Labelled SourceFault
spoken_labelled naming counter line due =
    if list_any is_no_text line
    then Err (fault.Listed line_fault.NotText)
    else with_due due (shape_labelled naming counter (line_label line) (Ok kind.Word))

abbrev pub basic_labelled : Naming → LocationCounter → List ℕ → Result Labelled SourceFault
basic_labelled naming counter line =
    if are_listed (parsed_by line)
    then listed_labelled counter (line_named line)
    else (if list_any is_no_text line
    then Err (fault.Listed line_fault.NotText)
    else (if is_include line
    then Err fault.Include
    else shape_labelled naming counter (line_label line) (kind_of naming (spelled (body_in line)))))

abbrev pub labelled_as : Naming → LocationCounter → List ℕ → Role → Result Labelled SourceFault
labelled_as naming counter line role.Basic = basic_labelled naming counter line
labelled_as naming counter line role.Operand =
    spoken_labelled naming counter line (due_behind counter.due role.Operand (spoken_words line))
labelled_as naming counter line (role.Operation o) =
    spoken_labelled naming counter line (due_behind counter.due (role.Operation o) (spoken_words line))

-- the location of a line's name, if it has one, and where the next line goes
unfoldable pub define_label : Naming → LocationCounter → List ℕ → Result Labelled SourceFault
define_label naming counter line = labelled_as naming counter line (role_of counter.due line)

abbrev pub naming_after : Naming → Option (List ℕ) → Option Location → Naming
naming_after naming (Some label) (Some place) = with_name naming label place
naming_after naming _ _ = naming

-- the names of lines, or the first fault of these lines; n is the number of the first line
unfoldable pub names_from : ℕ → Naming → LocationCounter → List (List ℕ) → Result Naming AssemblyFault
names_from n naming counter [] = Ok naming
names_from n naming counter (line ∷ lines) =
    elim (define_label naming counter (plain_line line)) [
      | Ok next ↦ names_from (n + 1) (naming_after naming (line_label (plain_line line)) next.place) next.counter lines
      | Err why ↦ Err (trouble.Line n why)
    ]

-- The names that earlier readings of a source find, for references to later lines. Such a reading passes over faulty
-- lines, among them those with a reference that it cannot follow; the next reading can follow it.
unfoldable pub found_from : Naming → LocationCounter → List (List ℕ) → List ℕ → Option Location
found_from naming counter [] = naming.given
found_from naming counter (line ∷ lines) =
    elim (define_label naming counter (plain_line line)) [
      | Ok next ↦ found_from (naming_after naming (line_label (plain_line line)) next.place) next.counter lines
      | Err why ↦ found_from naming counter lines
    ]

abbrev pub found_again : List (List ℕ) → (List ℕ → Option Location) → List ℕ → Option Location
found_again lines guess = found_from (guessing guess) first_counter lines

unfoldable pub found_after : ℕ → List (List ℕ) → List ℕ → Option Location
found_after zero lines = no_name
found_after (suc times) lines = found_again lines (found_after times lines)

-- the names before the first line: those that ten earlier readings found, one after the other, and the channels
unfoldable pub first_names : List (List ℕ) → Naming
first_names lines = channels_from 1 (guessing (found_after 10 lines)) lines

unfoldable pub names_in : List (List ℕ) → Result Naming AssemblyFault
names_in lines = names_from 1 (first_names lines) first_counter lines

-- The second pass: the words.

abbrev pub first_banks : Banks
first_banks = record { erasable = 0; before = None; superbank = 0 }

abbrev pub first_state : State
first_state = record { counter = first_counter; leads = false; banks = first_banks }

abbrev pub word_at : ℕ → Number → Option PlacedWord
word_at place word = Some (record { place = place; word = word })

-- a line of one word: after data no extracode is expected
abbrev pub one_word : State → ℕ → List (List ℕ) → Result Number SourceFault → Result Step SourceFault
one_word state place body (Err why) = Err why
one_word state place body (Ok word) =
    Ok (record {
      state = record {
        counter = after_words state.counter state.counter.at 1;
        leads = writes_order body && next_is_extracode state.leads word;
        banks = banks_after (is_banked body) state.banks;
      };
      first = word_at place word;
      second = None;
    })

-- a line of two words
abbrev pub two_words : State → ℕ → List (List ℕ) → Result Pair SourceFault → Result Step SourceFault
two_words state place body (Err why) = Err why
two_words state place body (Ok pair) =
    Ok (record {
      state = record {
        counter = after_words state.counter state.counter.at 2;
        leads = false;
        banks = banks_after (is_banked body) state.banks;
      };
      first = word_at place pair.upper;
      second = word_at (place + 1) pair.lower;
    })

-- an extracode is no longer expected after a line that moves to another place
abbrev pub stays_put : LineKind → Bool
stays_put (kind.Moves place) = false
stays_put (kind.Bank bank) = false
stays_put kind.Resumes = false
stays_put s = true

-- a line without words
abbrev pub no_word : State → LineKind → Result LocationCounter SourceFault → Result Step SourceFault
no_word state s (Err why) = Err why
no_word state s (Ok next) =
    Ok (record {
      state = record { counter = next; leads = state.leads && stays_put s; banks = state.banks };
      first = None;
      second = None;
    })

abbrev pub word_placed : Naming → State → List (List ℕ) → Result ℕ SourceFault → Result Step SourceFault
word_placed naming state body (Err why) = Err why
word_placed naming state body (Ok place) =
    one_word state place body (encode_word naming place state.leads state.banks body)

abbrev pub pair_placed : Naming → State → List (List ℕ) → Result ℕ SourceFault → Result Step SourceFault
pair_placed naming state body (Err why) = Err why
pair_placed naming state body (Ok place) =
    two_words state place body (encode_pair naming place state.banks body)

-- Words in erasable memory take cells. They are not in the rope, but their faults count: they are read as in bank 02,
-- which may name places in any bank.
abbrev pub in_cells : State → List (List ℕ) → Bool → Result LocationCounter SourceFault → Result Step SourceFault
in_cells state body leads (Err why) = Err why
in_cells state body leads (Ok next) =
    Ok (record {
      state = record { counter = next; leads = leads; banks = banks_after (is_banked body) state.banks };
      first = None;
      second = None;
    })

abbrev pub word_in_cell : State → List (List ℕ) → Result LocationCounter SourceFault → Result Number SourceFault → Result Step SourceFault
word_in_cell state body next (Err why) = Err why
word_in_cell state body next (Ok word) = in_cells state body (writes_order body && next_is_extracode state.leads word) next

abbrev pub pair_in_cells : State → List (List ℕ) → Result LocationCounter SourceFault → Result Pair SourceFault → Result Step SourceFault
pair_in_cells state body next (Err why) = Err why
pair_in_cells state body next (Ok pair) = in_cells state body false next

abbrev pub word_at_counter : Naming → State → List (List ℕ) → At → Result Step SourceFault
word_at_counter naming state body (at.Bank bank) = word_placed naming state body (room_at state.counter (at.Bank bank) 1)
word_at_counter naming state body (at.Cell cell) =
    word_in_cell state body (after_cells state.counter (at.Cell cell) 1)
    (encode_word naming fixed_fixed state.leads state.banks body)

abbrev pub pair_at_counter : Naming → State → List (List ℕ) → At → Result Step SourceFault
pair_at_counter naming state body (at.Bank bank) = pair_placed naming state body (room_at state.counter (at.Bank bank) 2)
pair_at_counter naming state body (at.Cell cell) =
    pair_in_cells state body (after_cells state.counter (at.Cell cell) 2)
    (encode_pair naming fixed_fixed state.banks body)

-- EBANK= names the bank of a cell, and SBANK= the superbank of a place
abbrev pub with_banks : State → Banks → Step
with_banks state banks = record { state = record state { banks = banks }; first = None; second = None }

abbrev pub ebank_parsed : State → Result ℕ SourceFault → Result Step SourceFault
ebank_parsed state (Ok cell) =
    Ok (with_banks state (record {
      erasable = cell / erasable_bank_size;
      before = Some state.banks.erasable;
      superbank = state.banks.superbank;
    }))
ebank_parsed state (Err why) = Err why

abbrev pub sbank_parsed : State → Result ℕ SourceFault → Result Step SourceFault
sbank_parsed state (Ok place) =
    Ok (with_banks state (record {
      erasable = state.banks.erasable;
      before = state.banks.before;
      superbank = superbank 0 place;
    }))
sbank_parsed state (Err why) = Err why

abbrev pub shape_woven : Naming → State → List (List ℕ) → Result LineKind SourceFault → Result Step SourceFault
shape_woven naming state body (Err why) = Err why
shape_woven naming state body (Ok kind.Word) =
    word_at_counter naming state body state.counter.at
shape_woven naming state body (Ok kind.Pair) =
    pair_at_counter naming state body state.counter.at
shape_woven naming state body (Ok kind.Ebank) =
    ebank_parsed state (cell_in (location_in naming (after_first (spelled body))))
shape_woven naming state body (Ok kind.Sbank) =
    sbank_parsed state (place_in (location_in naming (after_first (spelled body))))
shape_woven naming state body (Ok s) = no_word state s (counter_after state.counter s)

-- a listing line changes nothing but its place
abbrev pub listed_woven : State → Result (Option PlacedWord) LineFault → Result Step SourceFault
listed_woven state (Ok parsed) = Ok (record { state = state; first = parsed; second = None })
listed_woven state (Err why) = Err (fault.Listed why)

-- No operand may be missing before a line that writes words or moves to another place. One that does neither leaves what
-- is due.
abbrev pub leaves_due : LineKind → Bool
leaves_due (kind.StandsFor place) = true
leaves_due kind.StandsHere = true
leaves_due (kind.StandsBeside by) = true
leaves_due (kind.StandsApart place) = true
leaves_due (kind.Checks place) = true
leaves_due kind.Ebank = true
leaves_due kind.Sbank = true
leaves_due kind.Nothing = true
leaves_due s = false

-- Before words nothing is popped. Behind a move a pair may stand.
abbrev pub writes_words : LineKind → Bool
writes_words kind.Word = true
writes_words kind.Pair = true
writes_words s = false

abbrev pub fault_before : Pending → Result LineKind SourceFault → Option Fault
fault_before due (Ok s) =
    if leaves_due s then None else (if writes_words s then fault_before_basic due else fault_at_end due false)
fault_before due (Err why) = None

abbrev pub unless_missing : Option Fault → Result Step SourceFault → Result Step SourceFault
unless_missing (Some why) step = Err (fault.Interpretive why)
unless_missing None step = step

abbrev pub basic_woven : Naming → State → List (List ℕ) → Result LineKind SourceFault → Result Step SourceFault
basic_woven naming state body s =
    unless_missing (fault_before state.counter.due s) (shape_woven naming state body s)

-- an interpretive line: its word is data
abbrev pub spoken_state : State → Pending → LocationCounter → State
spoken_state state due counter = record {
  counter = due_there due counter;
  leads = false;
  banks = banks_after false state.banks;
}

abbrev pub spoken_placed : State → Pending → ℕ → Result ℕ SourceFault → Result Step SourceFault
spoken_placed state due place (Err why) = Err why
spoken_placed state due place (Ok word) =
    Ok (record {
      state = spoken_state state due (after_words state.counter state.counter.at 1);
      first = word_at place (number_from_pattern 15 word);
      second = None;
    })

abbrev pub spoken_in_rope : Naming → State → Role → List (List ℕ) → Result ℕ SourceFault → Result Step SourceFault
spoken_in_rope naming state r words (Err why) = Err why
spoken_in_rope naming state r words (Ok place) =
    spoken_placed state (due_behind state.counter.due r words) place
    (spoken_meaning naming place state.counter.due r words)

abbrev pub spoken_next : State → Pending → Result LocationCounter SourceFault → Result Step SourceFault
spoken_next state due (Err why) = Err why
spoken_next state due (Ok counter) =
    Ok (record { state = spoken_state state due counter; first = None; second = None })

abbrev pub spoken_in_cell : State → Pending → Result LocationCounter SourceFault → Result ℕ SourceFault → Result Step SourceFault
spoken_in_cell state due next (Err why) = Err why
spoken_in_cell state due next (Ok word) = spoken_next state due next

abbrev pub spoken_at : Naming → State → Role → List (List ℕ) → At → Result Step SourceFault
spoken_at naming state r words (at.Bank bank) =
    spoken_in_rope naming state r words (room_at state.counter (at.Bank bank) 1)
spoken_at naming state r words (at.Cell cell) =
    spoken_in_cell state (due_behind state.counter.due r words) (after_cells state.counter (at.Cell cell) 1)
    (spoken_meaning naming fixed_fixed state.counter.due r words)

abbrev pub woven_as : Naming → State → List ℕ → Role → Result Step SourceFault
woven_as naming state line role.Basic =
    if are_listed (parsed_by line)
    then listed_woven state (line_named line)
    else basic_woven naming state (body_in line) (kind_of naming (spelled (body_in line)))
woven_as naming state line role.Operand = spoken_at naming state role.Operand (spoken_words line) state.counter.at
woven_as naming state line (role.Operation o) =
    spoken_at naming state (role.Operation o) (spoken_words line) state.counter.at

-- the words of a line, with their places, and where the next line goes
unfoldable pub assemble_line : Naming → State → List ℕ → Result Step SourceFault
assemble_line naming state line = woven_as naming state line (role_of state.counter.due line)

-- no place is named twice
abbrev pub parsed_added : List PlacedWord → Result (Option PlacedWord) LineFault → Result (List PlacedWord) SourceFault
parsed_added parsed (Ok word) = Ok (with_placed_word parsed word)
parsed_added parsed (Err why) = Err (fault.Listed why)

abbrev pub word_added : List PlacedWord → Option PlacedWord → Result (List PlacedWord) SourceFault
word_added parsed word = parsed_added parsed (unless_named parsed (Ok word))

abbrev pub also_added : Result (List PlacedWord) SourceFault → Option PlacedWord → Result (List PlacedWord) SourceFault
also_added (Ok parsed) word = word_added parsed word
also_added (Err why) word = Err why

abbrev pub two_added : List PlacedWord → Option PlacedWord → Option PlacedWord → Result (List PlacedWord) SourceFault
two_added parsed first second = also_added (word_added parsed first) second

-- the result of a line, with its number if it is faulty
abbrev pub reported_at : ℕ → Result (List PlacedWord) SourceFault → Result (List PlacedWord) AssemblyFault
reported_at n (Ok parsed) = Ok parsed
reported_at n (Err why) = Err (trouble.Line n why)

-- the words of lines after other words, or the first fault of these lines
unfoldable pub words_from : ℕ → Naming → State → List PlacedWord → List (List ℕ) → Result (List PlacedWord) AssemblyFault
words_from n naming state parsed [] = Ok parsed
words_from n naming state parsed (line ∷ lines) =
    elim (assemble_line naming state (plain_line line)) [
      | Ok step ↦ elim (two_added parsed step.first step.second) [
        | Ok more ↦ words_from (n + 1) naming step.state more lines
        | Err why ↦ Err (trouble.Line n why)
      ]
      | Err why ↦ Err (trouble.Line n why)
    ]

-- the operands that are due behind the last line
unfoldable pub due_from : Naming → State → List (List ℕ) → Pending
due_from naming state [] = state.counter.due
due_from naming state (line ∷ lines) =
    elim (assemble_line naming state (plain_line line)) [
      | Ok step ↦ due_from naming step.state lines
      | Err why ↦ state.counter.due
    ]

-- no operand may be missing there: that is a fault of the last line
abbrev pub ended : ℕ → Option Fault → List PlacedWord → Result (List PlacedWord) AssemblyFault
ended n (Some why) parsed = Err (trouble.Line n (fault.Interpretive why))
ended n None parsed = Ok parsed

abbrev pub closed : ℕ → Pending → Result (List PlacedWord) AssemblyFault → Result (List PlacedWord) AssemblyFault
closed n due (Ok parsed) = ended n (fault_at_end due false) parsed
closed n due (Err why) = Err why

unfoldable pub words_in : Naming → List (List ℕ) → Result (List PlacedWord) AssemblyFault
words_in naming lines =
    closed (length lines) (due_from naming first_state lines) (words_from 1 naming first_state [] lines)

-- The faults of the first pass come before those of the second.
abbrev pub words_after_names : List (List ℕ) → Result Naming AssemblyFault → Result (List PlacedWord) AssemblyFault
words_after_names lines (Ok naming) = words_in naming lines
words_after_names lines (Err why) = Err why

-- a text with only places and words, and with comments that are text, is a listing
abbrev pub is_listing_line : List ℕ → Bool
is_listing_line line = are_listed (parsed_by line) && not (has_non_ascii_comment line)

unfoldable pub is_listing : List ℕ → Bool
is_listing text = list_all (λ line. is_listing_line line) (lines_of text)

abbrev pub as_source : Result (List PlacedWord) WeaveFault → Result (List PlacedWord) AssemblyFault
as_source (Ok parsed) = Ok parsed
as_source (Err (weave.Line n why)) = Err (trouble.Line n (fault.Listed why))
as_source (Err weave.Memory) = Err trouble.Memory

-- the words of a text, each with its place, or its first fault
unfoldable pub source_in : List ℕ → Result (List PlacedWord) AssemblyFault
source_in text =
    if is_listing text then as_source (parsed_in text) else words_after_names (lines_of text) (names_in (lines_of text))

-- the file that a source assembles to
abbrev pub IsSourceWoven : RopeForm → List ℕ → List ℕ → Type 0
IsSourceWoven form text file =
    (parsed : List PlacedWord) × (source_in text ≡ Ok parsed) × (file ≡ woven_file form parsed)

-- the places of a step are in the rope
abbrev pub IsPlaced : Step → Type 0
IsPlaced step =
    IfSome step.first (λ word. word.place < fixed_words)
    × IfSome step.second (λ word. word.place < fixed_words)

-- a state whose next line goes into memory, and whose banks fit a word for BB
abbrev pub AreBanks : Banks → Type 0
AreBanks banks = (banks.erasable < 8) × IfSome banks.before (λ bank. bank < 8) × (banks.superbank < 8)

abbrev pub IsState : State → Type 0
IsState state = IsAt state.counter.at × AreBanks state.banks
