-- The text BANK,ADDR that names a stop address, in octal.
use Rattle.std.specs.Prelude.{ℕ, ◌==◌, nat_lt, nat_le, Bool, ◌&&◌, List}
use Rattle.std.specs.Prelude.{length, Option, Some, None, if◌then◌else◌}
use Rattle.std.specs.List.{position_or_len, before_first, after_first}
use Rattle.agc_word.specs.Numeral.{octal_number}
use Rattle.agc_machine.specs.declared.stop_address.StopAddress.{StopAddress}

abbrev pub is_bank_comma : ℕ → Bool
is_bank_comma b = b == 44

-- banks go up to 47 octal, addresses up to 7777 octal
abbrev pub place_in_range : Option ℕ → Option ℕ → Option StopAddress
place_in_range (Some bank) (Some address) =
    if nat_le bank 0o47 && nat_le address 0o7777
    then Some (record { bank = bank; address = address })
    else None
place_in_range bank address = None

-- The stop address of a text: the bank before the first comma, the address after it, each of one to
-- six digits. Any other text has none.
unfoldable pub stop_address_of : List ℕ → Option StopAddress
stop_address_of text =
    if nat_lt (position_or_len is_bank_comma text) (length text)
    then
    place_in_range (octal_number 6 (before_first is_bank_comma text))
    (octal_number 6 (after_first is_bank_comma text))
    else None
