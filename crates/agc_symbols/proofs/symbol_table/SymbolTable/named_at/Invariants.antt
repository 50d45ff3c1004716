use Rattle.agc_symbols.proofs.Nearests.{NoneNearer}
use Rattle.agc_symbols.proofs.symbol_table.SymbolTable.named_at.Given as goal

abbrev pub invariant-loop-offset : goal.invariant-loop-offset
invariant-loop-offset l = NoneNearer l.self l.fn.at l.offset
