-- The report on a rope file: what it holds, or its fault and what would be right.
use Rattle.std.specs.Prelude.{ℕ, ◌+◌, ◌*◌, ◌/◌, ◌%◌, ◌<◌, List, ◌++◌, length, codes, count_ones}
use Rattle.std.specs.Prelude.{Option, Some, None}
use Rattle.std.specs.Fmt.{decimal}
use Rattle.agc_word.specs.Number.{Number, pattern_of}
use Rattle.agc_word.specs.Octal.{octal_digits}
use Rattle.agc_store.specs.Cells.{narrow_number}
use Rattle.agc_store.specs.Places.{fixed_bank_size, fixed_banks}
use Rattle.agc_store.specs.RopeFile.{file_word, rope_fault_of, rope_words}
use Rattle.agc_store.specs.declared.rope_file.RopeForm.{RopeForm}
use Rattle.agc_store.specs.declared.rope_file.RopeFault.{RopeFault}
use Rattle.agc_store.specs.declared.rope_file.RopeFault.TheVariants as rope
use Rattle.agc_listing.specs.List.{listed_address}
use Rattle.agc_listing.specs.Place.{place_text}
use Rattle.agc_listing.specs.declared.place.Place.TheVariants as place
use Rattle.agc_load.specs.Fault.{refusal_text}
use Rattle.agc_load.specs.declared.fault.LoadFault.TheVariants as refusal
use Rattle.agc_check.specs.Holdings.{rope_holdings}
use Rattle.agc_check.specs.Vectors.{vectors_text}
use Rattle.agc_check.specs.declared.holdings.RopeHoldings.{RopeHoldings}

-- a parity fault is in one of the 36 banks
abbrev pub IsPlaced : RopeFault → Type 0
IsPlaced (rope.Parity bank offset) = (bank < fixed_banks) × (offset < fixed_bank_size)
IsPlaced fault = Unit {0}

unfoldable pub rope_holdings_text : RopeHoldings → List ℕ
rope_holdings_text held =
    codes "rope: words " ++ decimal held.words
    ++ codes ", banks " ++ decimal held.banks ++ codes "\n"

-- the word in sixteen bits of a file, their parity bit, and how many of them are one
unfoldable pub word_with_parity : ℕ → List ℕ
word_with_parity word =
    codes " is " ++ octal_digits 5 (pattern_of 15 (narrow_number (word / 2)))
    ++ codes " with parity bit " ++ decimal (word % 2)
    ++ codes ": " ++ decimal (count_ones word) ++ codes " one bits; the count must be odd\n"

-- a place as listings name it, and its sixteen bits in the file
unfoldable pub bad_word_text : ℕ → ℕ → ℕ → List ℕ
bad_word_text bank address word =
    codes "    the word at " ++ place_text (place.Fixed bank address) ++ word_with_parity word

-- which word has wrong parity
unfoldable pub parity_why : List ℕ → ℕ → ℕ → List ℕ
parity_why file bank offset =
    let index = fixed_bank_size * bank + offset in
    bad_word_text bank (listed_address index) (file_word file index)

unfoldable pub rope_why : List ℕ → RopeFault → List ℕ
rope_why file rope.Empty =
    codes "    the file is empty; a rope has at least one word, of two bytes\n"
rope_why file rope.OddLength =
    codes "    the file has " ++ decimal (length file) ++ codes " bytes; the count must be even, two bytes a word\n"
rope_why file rope.TooLong =
    codes "    the file has " ++ decimal (length file)
    ++ codes " bytes; at most 73728 are allowed: 36 banks of 1024 words\n"
rope_why file (rope.Parity bank offset) = parity_why file bank offset
rope_why file rope.Memory = codes ""

-- a fault worded as in `agc`, and what would be right
unfoldable pub rope_fault_text : List ℕ → RopeFault → List ℕ
rope_fault_text file fault =
    refusal_text (refusal.Rope fault) ++ codes "\n" ++ rope_why file fault

-- what a rope holds, and which interrupt vectors hold +0
unfoldable pub sound_rope_text : List Number → List ℕ
sound_rope_text words = rope_holdings_text (rope_holdings words) ++ vectors_text words

abbrev pub rope_reported : Option RopeFault → List ℕ → List Number → List ℕ
rope_reported None file words = sound_rope_text words
rope_reported (Some fault) file words = rope_fault_text file fault

-- the report on a rope file
unfoldable pub rope_report : RopeForm → List ℕ → List ℕ
rope_report form file = rope_reported (rope_fault_of form file) file (rope_words form file)
