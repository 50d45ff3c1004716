-- What the service of an interrupt must keep, so that RESUME comes back.
use Rattle.std.specs.Prelude.{◌≡◌}
use Rattle.agc_store.specs.Cells.{cell_of}
use Rattle.agc_store.specs.Places.{zrupt_cell, brupt_cell}
use Rattle.agc_processor.specs.declared.processor.Processor.{Processor}

-- ZRUPT and BRUPT are as they were
abbrev pub KeepsRupt : Processor → Processor → Type 0
KeepsRupt p q =
    (cell_of q.store 0 zrupt_cell ≡ cell_of p.store 0 zrupt_cell)
    × (cell_of q.store 0 brupt_cell ≡ cell_of p.store 0 brupt_cell)
