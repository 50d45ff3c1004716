-- The result for a symbol file that was read to its end.
use Rattle.std.proofs.Common.{◌≡◌, ◌≢◌, ◌≤◌, ℕ, List, length}
use Rattle.std.specs.Prelude.{Option, Err}
use Rattle.std.specs.Io.KnownBytes.{Consumes, IsAtEnd}
use Rattle.agc_symbols.specs.Symbols.{names_in}
use Rattle.agc_symbols.specs.declared.fault.SymbolTableFault.{SymbolTableFault}
use Rattle.agc_symbols.specs.declared.fault.SymbolTableFault.TheVariants as trouble
use Rattle.agc_io.proofs.Whole.{of_all}
use Rattle.agc_symbols.specs.NamesFile.{AreFaulty, IsRefused}
use Rattle.agc_symbols.specs.declared.names_file.SymbolFileFault.{SymbolFileFault}
use Rattle.agc_symbols.specs.declared.names_file.SymbolFileFault.TheVariants as refusal

pub names_refused : (before after : Option (List ℕ)) (text : List ℕ) (t : SymbolFileFault) → Consumes before after text → IsAtEnd after → length text ≤ 16777216
    → (why : SymbolTableFault) × (t ≡ refusal.Names why) × (why ≢ trouble.Memory → names_in text ≡ Err why) → IsRefused before t
names_refused before after text t c end few (trouble.Memory, is, named) = rw is tt
names_refused before after text t c end few (trouble.Line n why, is, named) =
    rw is (of_all before after text (λ all. AreFaulty all (trouble.Line n why)) c end (record { short = few; fault = named (λ h. cc) }))
