-- What the sixteen bits of a rope file's words mean in a reading, and the same rope in another reading.
use Rattle.std.specs.Prelude.{◌≡◌, ℕ, ◌+◌, ◌*◌, ◌/◌, ◌%◌, ◌^◌, ◌<◌, ◌==◌, Bool, true, false, List, map, length, get_or, max, ◌++◌, replicate, ◌-◌, if◌then◌else◌}
use Rattle.std.specs.List.{range_with_len}
use Rattle.agc_store.specs.Places.{fixed_words}
use Rattle.agc_store.specs.RopeFile.{file_index, is_bad_parity}
use Rattle.agc_store.specs.declared.rope_file.RopeForm.{RopeForm}
use Rattle.agc_store.specs.declared.rope_file.RopeForm.TheVariants as form
use Rattle.agc_mend.specs.Parity.{with_right_parity}
use Rattle.agc_mend.specs.declared.reading.ParityBit.{ParityBit}
use Rattle.agc_mend.specs.declared.reading.ParityBit.TheVariants as parity
use Rattle.agc_mend.specs.declared.reading.Reading.{Reading}

-- sixteen bits with their two bytes exchanged
abbrev pub exchanged : ℕ → ℕ
exchanged bits = 256 * (bits % 256) + bits / 256

-- a word with its first bit moved to the end, and with its last bit moved to the front
abbrev pub first_bit_moved : ℕ → ℕ
first_bit_moved bits = 2 * (bits % 2 ^ 15) + bits / 2 ^ 15

abbrev pub last_bit_moved : ℕ → ℕ
last_bit_moved word = 2 ^ 15 * (word % 2) + word / 2

-- the bits of a file's word in the order of its bytes
abbrev pub bytes_in_order : Bool → ℕ → ℕ
bytes_in_order true bits = exchanged bits
bytes_in_order false bits = bits

-- a word with the parity bit at the end, and as a reading writes it
abbrev pub parity_at_end : ParityBit → ℕ → ℕ
parity_at_end parity.First bits = first_bit_moved bits
parity_at_end _ bits = bits

abbrev pub parity_in_place : ParityBit → ℕ → ℕ
parity_in_place parity.First word = last_bit_moved word
parity_in_place _ word = word

-- The word that sixteen bits of a file mean in a reading: the fifteen bits of the rope's word, then the parity bit.
unfoldable pub word_meant : Reading → ℕ → ℕ
word_meant reading bits = parity_at_end reading.parity (bytes_in_order reading.is_swapped bits)

-- the sixteen bits that a reading has for a word
unfoldable pub bits_for : Reading → ℕ → ℕ
bits_for reading word = bytes_in_order reading.is_swapped (parity_in_place reading.parity word)

-- A word without parity: its last bit is 0. The last bit of +0 stays, since it shows that the place has a word.
unfoldable pub without_parity : ℕ → ℕ
without_parity word = if word / 2 == 0 then word else 2 * (word / 2)

-- What becomes of the parity bit: a reading that does not use it gets 0, and one that does gets the right parity from
-- one that does not. Between two readings that use it, it stays as it is, even if it is wrong.
unfoldable pub carried_over : ParityBit → ParityBit → ℕ → ℕ
carried_over parity.Unused parity.Unused word = word
carried_over parity.Unused _ word = with_right_parity word
carried_over _ parity.Unused word = without_parity word
carried_over _ _ word = word

-- the word at a place of the rope, in a reading of a file's words
unfoldable pub word_at : Reading → List ℕ → ℕ → ℕ
word_at reading words place = word_meant reading (get_or words (file_index reading.order place) 0)

-- whether two readings have the same order of banks
abbrev pub is_same_order : RopeForm → RopeForm → Bool
is_same_order form.Classic form.Classic = true
is_same_order form.Parity form.Parity = true
is_same_order _ _ = false

-- The words of a file as another reading keeps them. With another order of the banks they have four banks at least.
abbrev pub length_for : RopeForm → RopeForm → ℕ → ℕ
length_for before after len = if is_same_order before after then len else max len (4 * 0o2000)

-- the words of a file with zeros after them, as many as the other order of banks needs
unfoldable pub padded_for : RopeForm → RopeForm → List ℕ → List ℕ
padded_for before after words = words ++ replicate (length_for before after (length words) - length words) 0

-- a file in one reading and a file in another hold the same rope
pub record IsConverted (before after : Reading) (words converted : List ℕ) : Type 0 where
  pub long : length converted ≡ length_for before.order after.order (length words)
  pub same : (place : ℕ) → place < fixed_words → word_at after converted place ≡ carried_over before.parity after.parity (word_at before words place)
  pub bits : (place : ℕ) → place < fixed_words → word_at after converted place / 2 ≡ word_at before words place / 2

-- the sixteen bits at an index of the file in the other reading
unfoldable pub converted_at : Reading → Reading → List ℕ → ℕ → ℕ
converted_at before after words index =
    bits_for after (carried_over before.parity after.parity (word_at before words (file_index after.order index)))

unfoldable pub converted : Reading → Reading → List ℕ → List ℕ
converted before after words =
    map (converted_at before after words) (range_with_len 0 (length_for before.order after.order (length words)))

-- A word that comes back from the other reading. To a reading that uses parity, the unused bit has to be 0, but for
-- +0; from such a reading, the parity has to be right.
abbrev pub ComesBack : ParityBit → ParityBit → ℕ → Type 0
ComesBack parity.Unused parity.Unused word = Unit {0}
ComesBack parity.Unused _ word = without_parity word ≡ word
ComesBack _ parity.Unused word = is_bad_parity word ≡ false
ComesBack _ _ word = Unit {0}
