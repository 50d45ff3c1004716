-- One rope from several dumps of it: each place has the word of a dump, chosen by parity, by the sum of its bank, or
-- because most dumps have it.
use Rattle.std.specs.Prelude.{ℕ, ◌+◌, ◌*◌, ◌/◌, ◌==◌, Bool, true, false, not, ◌&&◌, ◌||◌, nat_lt}
use Rattle.std.specs.Prelude.{List, [], ◌∷◌, filter, get_or, length, map, Option, Some, None, slice_get, if◌then◌else◌}
use Rattle.std.specs.List.{list_any, range_with_len}
use Rattle.agc_word.specs.Number.{Number}
use Rattle.agc_store.specs.Cells.{narrow_number}
use Rattle.agc_store.specs.Places.{fixed_bank_size}
use Rattle.agc_store.specs.RopeFile.{is_bad_parity, rope_words}
use Rattle.agc_store.specs.declared.rope_file.RopeForm.TheVariants as form
use Rattle.agc_mend.specs.FileWords.{file_of_words}
use Rattle.agc_mend.specs.Parity.{with_right_parity}
use Rattle.agc_mend.specs.Repair.{makes_sum_fit}
use Rattle.agc_mend.specs.declared.merging.Dump.{Dump}
use Rattle.agc_mend.specs.declared.merging.DumpWord.{DumpWord}
use Rattle.agc_mend.specs.declared.merging.Choice.{Choice}
use Rattle.agc_mend.specs.declared.merging.Decision.{Decision}
use Rattle.agc_mend.specs.declared.merging.Decision.TheVariants as by

-- the sixteen bits of a dump at a place; 0 is no word
abbrev pub bits_of : Option Dump → ℕ → ℕ
bits_of None place = 0
bits_of (Some dump) place = get_or dump.words.items place 0

abbrev pub has_parity_of : Option Dump → Bool
has_parity_of None = false
has_parity_of (Some dump) = dump.has_parity

-- what the dump at an index has at a place
unfoldable pub word_of_dump : List Dump → ℕ → ℕ → DumpWord
word_of_dump dumps place index =
    record { dump = index; bits = bits_of (slice_get dumps index) place; has_parity = has_parity_of (slice_get dumps index) }

-- the words that dumps have at a place, in the order of the dumps
unfoldable pub words_at : List Dump → ℕ → List DumpWord
words_at dumps place =
    map (word_of_dump dumps place)
    (filter (λ index. not ((word_of_dump dumps place index).bits == 0)) (range_with_len 0 (length dumps)))

-- whether the parity of a word says that it is wrong, and that it is right
abbrev pub is_wrong : DumpWord → Bool
is_wrong word = word.has_parity && is_bad_parity word.bits

abbrev pub is_sound : DumpWord → Bool
is_sound word = word.has_parity && not (is_bad_parity word.bits)

-- whether one of these words has other fifteen bits than these
unfoldable pub has_other : List DumpWord → ℕ → Bool
has_other words bits = list_any (λ word. not (word.bits / 2 == bits)) words

-- whether words have the same fifteen bits
abbrev pub are_same : List DumpWord → Bool
are_same [] = true
are_same (word ∷ words) = not (has_other words (word.bits / 2))

-- The words between which is chosen: those with right parity or, if there is none, those without a parity bit.
unfoldable pub candidates : List DumpWord → List DumpWord
candidates words =
    if list_any (λ word. is_sound word) words
    then filter (λ word. is_sound word) words
    else filter (λ word. not (is_wrong word)) words

-- Why the first candidate is chosen. Dumps that agree decide, unless the parity of one is wrong; else the candidates
-- decide, if they agree.
abbrev pub decision_among : List DumpWord → List DumpWord → Decision
decision_among words chosen =
    if list_any (λ word. is_wrong word) words || not (are_same words)
    then (if are_same chosen then by.Parity else by.Undecided)
    else by.Agreed

-- the choice by the words of a place alone, among candidates
abbrev pub choice_among : List DumpWord → List DumpWord → Choice
choice_among [] chosen = record { bits = 0; decision = by.Nothing }
choice_among (word ∷ words) [] = record { bits = word.bits; decision = by.Undecided }
choice_among (word ∷ words) (first ∷ rest) =
    record { bits = first.bits; decision = decision_among (word ∷ words) (first ∷ rest) }

unfoldable pub choice_by_words : List DumpWord → Choice
choice_by_words words = choice_among words (candidates words)

unfoldable pub choices_by_words : List Dump → ℕ → List Choice
choices_by_words dumps count = map (λ place. choice_by_words (words_at dumps place)) (range_with_len 0 count)

-- a file in the form with parity of these choices, and the rope that it holds
unfoldable pub file_of_choices : List Choice → List ℕ
file_of_choices choices = file_of_words (map (λ choice. with_right_parity choice.bits) choices)

abbrev pub rope_of_choices : List Choice → List Number
rope_of_choices choices = rope_words form.Parity (file_of_choices choices)

abbrev pub is_undecided_by : Decision → Bool
is_undecided_by by.Undecided = true
is_undecided_by _ = false

abbrev pub is_undecided_as : Option Choice → Bool
is_undecided_as None = false
is_undecided_as (Some choice) = is_undecided_by choice.decision

unfoldable pub is_undecided_at : List Choice → ℕ → Bool
is_undecided_at choices place = is_undecided_as (slice_get choices place)

-- whether this is another place than one, and undecided
unfoldable pub is_other_undecided : List Choice → ℕ → ℕ → Bool
is_other_undecided choices place other = not (other == place) && is_undecided_at choices other

-- whether another place of the bank that begins at a place is undecided
unfoldable pub has_other_undecided : List Choice → ℕ → ℕ → Bool
has_other_undecided choices place first =
    list_any (λ offset. is_other_undecided choices place (first + offset)) (range_with_len 0 fixed_bank_size)

-- whether no other place of the bank is undecided
unfoldable pub is_only_undecided : List Choice → ℕ → Bool
is_only_undecided choices place =
    not (has_other_undecided choices place (fixed_bank_size * (place / fixed_bank_size)))

-- the candidates with which the sum of the bank is right
unfoldable pub fitting : List Number → ℕ → List DumpWord → List DumpWord
fitting rope place words =
    filter (λ word. makes_sum_fit rope place (narrow_number (word.bits / 2))) (candidates words)

-- how many of these words have fifteen bits
unfoldable pub count_of : List DumpWord → ℕ → ℕ
count_of words bits = length (filter (λ word. word.bits / 2 == bits) words)

-- the candidates that more than half of the dumps with a word at the place have
unfoldable pub in_most : List DumpWord → List DumpWord
in_most words = filter (λ word. nat_lt (length words / 2) (count_of words (word.bits / 2))) (candidates words)

-- the choice of a word that was found in one of two ways
abbrev pub choice_of : List DumpWord → List DumpWord → Choice → Choice
choice_of [] [] choice = choice
choice_of [] (word ∷ words) choice = record { bits = word.bits; decision = by.Majority }
choice_of (word ∷ words) _ choice = record { bits = word.bits; decision = by.Sum }

-- The candidates among which the sum decides: if it fits with one word only, and no other place of the bank is undecided.
unfoldable pub shown_by_sum : List Choice → List Number → ℕ → List DumpWord → List DumpWord
shown_by_sum choices rope place words =
    if is_only_undecided choices place && are_same (fitting rope place words) then fitting rope place words else []

-- The choice at a place, after the words alone have decided what they can: by the sum of its bank or, if that does not
-- decide, because most dumps agree.
unfoldable pub settled : List Choice → List Number → ℕ → List DumpWord → Choice → Choice
settled choices rope place words choice =
    if is_undecided_by choice.decision
    then choice_of (shown_by_sum choices rope place words) (in_most words) choice
    else choice

unfoldable pub settled_at : List Dump → List Choice → List Number → ℕ → Choice
settled_at dumps choices rope place =
    let words = words_at dumps place in settled choices rope place words (choice_by_words words)

unfoldable pub settled_choices : List Dump → List Choice → List Number → ℕ → List Choice
settled_choices dumps choices rope count = map (settled_at dumps choices rope) (range_with_len 0 count)

-- the choices of a merged rope of this many places
abbrev pub merged : List Dump → ℕ → List Choice
merged dumps count =
    let choices = choices_by_words dumps count in settled_choices dumps choices (rope_of_choices choices) count
