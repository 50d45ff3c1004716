-- What a program sends by the downlink, as a log has it.
use Rattle.std.specs.Prelude.{ℕ, ◌==◌, not, ◌&&◌, ◌||◌, List, [], ◌∷◌, ◌++◌, Option, Some, None, if◌then◌else◌}
use Rattle.std.specs.List.{flat_map}
use Rattle.agc_word.specs.Numeral.{decimal_number, octal_number}
use Rattle.agc_word.specs.Text.{lines_of, words_of}
use Rattle.agc_quantities.specs.declared.sent.Pair.{Pair}
use Rattle.agc_quantities.specs.declared.sent.SentWord.{SentWord}

-- a cycle, a channel and a word are a word of the downlink if the channel is 34 or 35 octal
abbrev pub sent_with : Option ℕ → Option ℕ → Option ℕ → Option SentWord
sent_with (Some cycle) (Some channel) (Some bits) =
    if (channel == 0o34) || (channel == 0o35)
    then Some (record { cycle = cycle; is_second = channel == 0o35; bits = bits })
    else None
sent_with (Some cycle) (Some channel) None = None
sent_with (Some cycle) None bits = None
sent_with None channel bits = None

-- a line of a log: the cycle in decimal, the channel and the word in octal
abbrev pub sent_of : List (List ℕ) → Option SentWord
sent_of [] = None
sent_of (cycle ∷ []) = None
sent_of (cycle ∷ channel ∷ []) = None
sent_of (cycle ∷ channel ∷ word ∷ []) =
    sent_with (decimal_number 13 cycle) (octal_number 3 channel) (octal_number 5 word)
sent_of (cycle ∷ channel ∷ word ∷ more ∷ words) = None

abbrev pub sent_if : Option SentWord → List SentWord
sent_if (Some word) = word ∷ []
sent_if None = []

abbrev pub sent_on : List ℕ → List SentWord
sent_on line = sent_if (sent_of (words_of line))

-- the words of both channels, in the order of the log's lines
abbrev pub sent_in : List ℕ → List SentWord
sent_in log = flat_map sent_on (lines_of log)

-- two words that follow each other are a pair if channel 34 has the first one and channel 35 the second
abbrev pub pair_of : SentWord → SentWord → List Pair
pair_of first second =
    if not first.is_second && second.is_second
    then (record { cycle = first.cycle; first = first.bits; second = second.bits }) ∷ []
    else []

abbrev pub pair_with : SentWord → List SentWord → List Pair
pair_with word [] = []
pair_with word (next ∷ words) = pair_of word next

-- each word that is a pair with the next one
unfoldable pub pairs_of : List SentWord → List Pair
pairs_of [] = []
pairs_of (word ∷ words) = pair_with word words ++ pairs_of words

-- the pairs of a log
abbrev pub pairs_in : List ℕ → List Pair
pairs_in log = pairs_of (sent_in log)
