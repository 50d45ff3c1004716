-- The messages for a faulty symbol file.
use Rattle.std.specs.Prelude.{List, ℕ, ◌++◌, codes}
use Rattle.std.specs.Fmt.{decimal}
use Rattle.agc_symbols.specs.declared.fault.NameFault.{NameFault}
use Rattle.agc_symbols.specs.declared.fault.NameFault.TheVariants as fault
use Rattle.agc_symbols.specs.declared.fault.SymbolTableFault.{SymbolTableFault}
use Rattle.agc_symbols.specs.declared.fault.SymbolTableFault.TheVariants as trouble

-- what is wrong with a line, and what is right
abbrev pub fault_text : NameFault → List ℕ
fault_text fault.NotText = codes "a byte is neither a tab nor printable ASCII"
fault_text fault.BadPlace =
    codes "the first word is no place (octal 4000, 05,2071, 0100 or E3,1400) and no channel (C015)"
fault_text fault.BadName =
    codes "after the place comes a name: 1 to 8 characters, no comma, not only digits and signs"
fault_text fault.MoreWords = codes "a word follows the name; start comments with #"

abbrev pub trouble_text : SymbolTableFault → List ℕ
trouble_text (trouble.Line n why) = codes "line " ++ decimal n ++ codes ": " ++ fault_text why
trouble_text trouble.Memory = codes "memory"
