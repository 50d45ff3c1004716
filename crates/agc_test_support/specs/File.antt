-- The rope file that the words of a listing make.
use Rattle.std.specs.Prelude.{ℕ, ◌+◌, ◌-◌, ◌*◌, ◌/◌, ◌%◌, nat_lt, List}
use Rattle.std.specs.Prelude.{◌++◌, length, replicate, set, if◌then◌else◌}

-- The index of a place's word in the file: a place is 2000 octal times its bank, plus its offset, and banks 02 and 03
-- come before 00 and 01 in the file.
unfoldable pub index_in_file : ℕ → ℕ
index_in_file place =
    if nat_lt place 0o4000 then place + 0o4000
    else if nat_lt place 0o10000 then place - 0o4000
    else place

-- a file extended with zeros to this many bytes
unfoldable pub lengthened : ℕ → List ℕ → List ℕ
lengthened len bytes = bytes ++ replicate (len - length bytes) 0

-- a file with one word written: sixteen bits, high byte first, of which the left fifteen count
unfoldable pub with_word : ℕ → ℕ → List ℕ → List ℕ
with_word index word bytes =
    let room = lengthened (2 * index + 2) bytes in
    set (set room (2 * index) (2 * word / 256)) (2 * index + 1) (2 * word % 256)
