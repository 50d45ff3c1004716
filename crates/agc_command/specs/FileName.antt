-- The name of a file in a command.
use Rattle.std.specs.Prelude.{ℕ, List, ◌++◌, length, min, take, drop, replicate}
use Rattle.agc_command.specs.declared.file_name.FileName.{FileName}

-- the name that a word is: its bytes, and zeros up to the length of a line
unfoldable pub name_of : List ℕ → FileName
name_of word =
    let most : ℕ = min (length word) 120 in
    record { bytes = take most word ++ drop most (replicate 120 0); length = most }
