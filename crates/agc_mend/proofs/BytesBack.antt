-- The file of some words holds them, and the words of a file make it again.
use Rattle.std.specs.Prelude.{◌≡◌, ℕ, zero, suc, ◌+◌, ◌*◌, ◌/◌, ◌%◌, ◌<◌, All, List, [], ◌∷◌, length, get_or}
use Rattle.std.specs.List.{flat_map}
use Rattle.std.proofs.Common.{refl, ap, sym, ◌∙◌, arith}
use Rattle.std.proofs.lemmas.List.{ext_get_or}
use Rattle.std.proofs.lemmas.List.Elements.{All-get_or}
use Rattle.std.proofs.lemmas.List.FromFn.{fill_by_all, get_or-map-range_with_len, length-map-range_with_len}
use Rattle.agc_store.specs.RopeFile.{file_word}
use Rattle.agc_mend.specs.FileWords.{file_of_words, file_words, word_bytes}

high_byte : (words : List ℕ) (i : ℕ) → get_or (flat_map word_bytes words) (2 * i) 0 ≡ get_or words i 0 / 256
high_byte [] i = refl
high_byte (word ∷ words) zero = refl
high_byte (word ∷ words) (suc i) =
    let next : 2 * suc i ≡ suc (suc (2 * i)) = omega arith in
    rw next (high_byte words i)

low_byte : (words : List ℕ) (i : ℕ) → get_or (flat_map word_bytes words) (2 * i + 1) 0 ≡ get_or words i 0 % 256
low_byte [] i = refl
low_byte (word ∷ words) zero = refl
low_byte (word ∷ words) (suc i) =
    let next : 2 * suc i + 1 ≡ suc (suc (2 * i + 1)) = omega arith in
    rw next (low_byte words i)

length_bytes : (words : List ℕ) → length (flat_map word_bytes words) ≡ 2 * length words
length_bytes [] = refl
length_bytes (word ∷ words) = omega (arith, length_bytes words)

pub length_file : (words : List ℕ) → length (file_of_words words) ≡ 2 * length words
unfolding file_of_words
length_file words = length_bytes words

pub length_words : (file : List ℕ) → length (file_words file) ≡ length file / 2
unfolding file_words
length_words file = length-map-range_with_len (file_word file) 0 (length file / 2)

-- a word of the file of some words
pub word_back : (words : List ℕ) (i : ℕ) → file_word (file_of_words words) i ≡ get_or words i 0
unfolding file_word file_of_words
word_back words i = rw (high_byte words i, low_byte words i) (omega arith)

-- a word of a file's words
pub word_there : (file : List ℕ) (i : ℕ) → i < length file / 2 → get_or (file_words file) i 0 ≡ file_word file i
unfolding file_words
word_there file i inside = get_or-map-range_with_len (file_word file) 0 (length file / 2) i i 0 inside (omega arith)

pub words_back : (words : List ℕ) → file_words (file_of_words words) ≡ words
unfolding file_words
words_back words =
    let half : length words ≡ length (file_of_words words) / 2 = omega (arith, length_file words) in
    sym (fill_by_all (file_word (file_of_words words)) words (length (file_of_words words) / 2) 0 half (λ i inside. sym (word_back words i)))

high_of : (file : List ℕ) (i : ℕ) → get_or file (2 * i + 1) 0 < 256 → file_word file i / 256 ≡ get_or file (2 * i) 0
unfolding file_word
high_of file i small = omega arith

low_of : (file : List ℕ) (i : ℕ) → get_or file (2 * i + 1) 0 < 256 → file_word file i % 256 ≡ get_or file (2 * i + 1) 0
unfolding file_word
low_of file i small = omega arith

byte_by : (file : List ℕ) (j rest : ℕ) → j % 2 ≡ rest → length file % 2 ≡ 0 → All (λ byte. byte < 256) file → j < length file
    → get_or (file_of_words (file_words file)) j 0 ≡ get_or file j 0
unfolding file_of_words
byte_by file j zero is even small inside =
    let at : j ≡ 2 * (j / 2) = omega arith in
    let low = All-get_or (λ (byte : ℕ). byte < 256) file (2 * (j / 2) + 1) 0 (omega arith) small in
    rw at (high_byte (file_words file) (j / 2) ∙ ap (λ (word : ℕ). word / 256) (word_there file (j / 2) (omega arith)) ∙ high_of file (j / 2) low)
byte_by file j (suc rest) is even small inside =
    let at : j ≡ 2 * (j / 2) + 1 = omega arith in
    let low = All-get_or (λ (byte : ℕ). byte < 256) file (2 * (j / 2) + 1) 0 (omega arith) small in
    rw at (low_byte (file_words file) (j / 2) ∙ ap (λ (word : ℕ). word % 256) (word_there file (j / 2) (omega arith)) ∙ low_of file (j / 2) low)

pub file_back : (file : List ℕ) → length file % 2 ≡ 0 → All (λ byte. byte < 256) file → file_of_words (file_words file) ≡ file
file_back file even small =
    let long : length (file_of_words (file_words file)) ≡ length file = omega (arith, length_file (file_words file), length_words file) in
    ext_get_or 0 (file_of_words (file_words file)) file long (λ j inside. byte_by file j (j % 2) refl even small (omega (arith, long)))
