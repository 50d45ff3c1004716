-- What a symbol file holds, and how it is rejected.
use Rattle.std.specs.Prelude.{◌≡◌, ◌≤◌, ℕ, length, List, ◌++◌, Option, Ok, Err, IfSome, codes}
use Rattle.std.specs.Fmt.{decimal}
use Rattle.agc_symbols.specs.Symbols.{Symbol, names_in}
use Rattle.agc_symbols.specs.FaultText.{fault_text}
use Rattle.agc_symbols.specs.declared.fault.SymbolTableFault.{SymbolTableFault}
use Rattle.agc_symbols.specs.declared.fault.SymbolTableFault.TheVariants as trouble
use Rattle.agc_symbols.specs.declared.names_file.SymbolFileFault.{SymbolFileFault}
use Rattle.agc_symbols.specs.declared.names_file.SymbolFileFault.TheVariants as refusal

-- a text has at most 16,777,216 bytes, and these are its names
pub record AreNames (text : List ℕ) (named : List Symbol) : Type 0 where
  pub short : length text ≤ 16777216
  pub read : names_in text ≡ Ok named

-- a text has at most 16,777,216 bytes, and this is its first fault
pub record AreFaulty (text : List ℕ) (why : SymbolTableFault) : Type 0 where
  pub short : length text ≤ 16777216
  pub fault : names_in text ≡ Err why

-- why a symbol file may be rejected: a read failed, it has too many bytes, out of memory, or a line is faulty
abbrev pub IsRefused : Option (List ℕ) → SymbolFileFault → Type 0
IsRefused known refusal.CannotRead = Unit {0}
IsRefused known (refusal.Names trouble.Memory) = Unit {0}
IsRefused known (refusal.Names (trouble.Line n why)) =
    IfSome known (λ text. AreFaulty text (trouble.Line n why))

-- the messages of these faults
abbrev pub names_text : SymbolTableFault → List ℕ
names_text (trouble.Line n why) =
    codes "names line " ++ decimal n ++ codes ": " ++ fault_text why
names_text trouble.Memory = codes "memory"

abbrev pub names_refusal_text : SymbolFileFault → List ℕ
names_refusal_text refusal.CannotRead = codes "cannot read names"
names_refusal_text (refusal.Names why) = names_text why
