-- The place in a line of the tables, and its name.
use Rattle.std.specs.Prelude.{ℕ, ◌+◌, ◌-◌, ◌/◌, ◌%◌, ◌==◌, ◌&&◌, nat_le, nat_lt, List, [], ◌++◌, codes, drop, length, take}
use Rattle.std.specs.Prelude.{Option, Some, None, if◌then◌else◌}
use Rattle.std.specs.Str.{bytes_eq}
use Rattle.agc_store.specs.Places.{fixed_window}
use Rattle.agc_listing.specs.Location.{location_at}
use Rattle.agc_listing.specs.declared.location.Location.{Location}
use Rattle.agc_symbols.specs.Column.{name_text}
use Rattle.agc_symbols.specs.Symbols.{Symbol}
use Rattle.agc_word.specs.Numeral.{octal_number}

-- the fixed bank that a word in the form of BB selects: that of bits 15 to 11, and with bit 7, as in channel 7, the
-- banks 30 to 37 are 40 to 47
unfoldable pub fixed_bank_in : ℕ → ℕ
fixed_bank_in banks =
    let bank = banks / 0o2000 in
    if nat_le 0o30 bank && (banks / 0o100 % 2 == 1) then bank + 0o10 else bank

-- the bank in which such a word has an address: the erasable bank of bits 3 to 1, or the fixed bank
abbrev pub bank_in : ℕ → ℕ → ℕ
bank_in banks address = if nat_lt address fixed_window then banks % 8 else fixed_bank_in banks

-- the place of an address of twelve bits with such banks
unfoldable pub place_in : ℕ → ℕ → Option Location
place_in banks address =
    if nat_lt address 0o10000 then Some (location_at (bank_in banks address) address) else None

abbrev pub place_with : Option ℕ → Option ℕ → Option Location
place_with (Some banks) (Some address) = place_in banks address
place_with _ _ = None

-- the word in five octal digits of a line, this many characters before its end
unfoldable pub word_before : ℕ → List ℕ → Option ℕ
word_before after line = octal_number 5 (take 5 (drop (length line - (after + 5)) line))

-- The place in a line: of a job LOC with the banks in BANKSET, `LOC wwwww BANKSET wwwww` at its end, and of a task its
-- address with the banks after it, `wwwww wwwww`.
unfoldable pub line_place : List ℕ → Option Location
line_place line =
    if bytes_eq (take 3 line) (codes "SET") then place_with (word_before 0 line) (word_before 14 line)
    else if bytes_eq (take 4 line) (codes "LST2") then place_with (word_before 0 line) (word_before 6 line)
    else None

-- a name after a space, if there is one
abbrev pub after_space : List ℕ → List ℕ
after_space name = if length name == 0 then [] else codes " " ++ name

abbrev pub name_at : List Symbol → Option Location → List ℕ
name_at names (Some at) = after_space (name_text names at)
name_at names None = []

-- the name of the place in a line, after a space; nothing without names, without a place, or without a name
abbrev pub name_after : Option (List Symbol) → List ℕ → List ℕ
name_after (Some names) line = name_at names (line_place line)
name_after None line = []
