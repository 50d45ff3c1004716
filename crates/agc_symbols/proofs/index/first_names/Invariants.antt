use Rattle.std.proofs.Common.{take}
use Rattle.agc_symbols.specs.Index.{AreFirst}
use Rattle.agc_symbols.proofs.index.first_names.Given as goal

abbrev pub invariant-loop-index : goal.invariant-loop-index
invariant-loop-index l = AreFirst l.first.items (take l.index l.names)
