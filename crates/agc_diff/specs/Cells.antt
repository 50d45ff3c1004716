-- The erasable cells in which two memories differ.
use Rattle.std.specs.Prelude.{ℕ, zero, suc, if◌then◌else◌}
use Rattle.std.specs.Prelude.{List, [], ◌∷◌, ◌++◌}
use Rattle.agc_word.specs.Number.{Number}
use Rattle.agc_store.specs.Memory.{cell_at}
use Rattle.agc_listing.specs.Cell.{same_word}
use Rattle.agc_store.specs.Places.{erasable_cells}
use Rattle.agc_diff.specs.declared.cells.CellPair.{CellPair}

-- a cell with its two words, if they differ
abbrev pub differing_cell : ℕ → Number → Number → List CellPair
differing_cell place x y =
    if same_word x y then [] else record { place = place; left = x; right = y } ∷ []

-- the cells that differ among this many first ones
unfoldable pub differing_below : ℕ → List Number → List Number → List CellPair
differing_below zero xs ys = []
differing_below (suc place) xs ys =
    differing_below place xs ys ++ differing_cell place (cell_at place xs) (cell_at place ys)

-- all cells that differ
unfoldable pub cells_that_differ : List Number → List Number → List CellPair
cells_that_differ xs ys = differing_below erasable_cells xs ys
