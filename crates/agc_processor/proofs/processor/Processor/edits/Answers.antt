use Rattle.std.proofs.Common.{◌≡◌, ℕ, ◌≤◌, ◌<◌, Bool, true, false, Some, None, refl, sym, ◌∙◌, arith}
use Rattle.std.specs.Prelude.{◌&&◌, nat_le, if◌then◌else◌}
use Rattle.std.proofs.lemmas.Bool.Decides.{nat_tests}
use Rattle.agc_store.specs.Cells.{is_editing, named_cell}
use Rattle.agc_store.specs.Memory.{is_erasable}
use Rattle.agc_processor.specs.declared.processor.Processor.{Processor}
use Rattle.agc_processor.specs.Idle.{edits}
use Rattle.agc_processor.specs.Row.{place_of}
use Rattle.agc_processor.proofs.processor.Processor.edits.Goals as goal

named_by : (b : Bool) (place cell : ℕ) → Some cell ≡ (if b then Some place else None) → (b && is_editing place) ≡ is_editing cell
named_by true place cell e = cc
named_by false place cell e = cc

unnamed_by : (b : Bool) (place : ℕ) → None ≡ (if b then Some place else None) → (b && is_editing place) ≡ false
unnamed_by true place e = cc
unnamed_by false place e = refl

-- the cell that an address names decides
named : (k cell : ℕ) (p : Processor) → Some cell ≡ named_cell p.store k → edits k p ≡ is_editing cell
unfolding named_cell
named k cell p e = named_by (is_erasable k) (place_of k p) cell e

unnamed : (k : ℕ) (p : Processor) → None ≡ named_cell p.store k → edits k p ≡ false
unfolding named_cell
unnamed k p e = unnamed_by (is_erasable k) (place_of k p) e

from_first : (cell : ℕ) → 0o20 ≤ cell → nat_le cell 0o23 ≡ is_editing cell
from_first cell h = grind (arith, nat_tests)

below_first : (cell : ℕ) → cell < 0o20 → nat_le 0o20 cell ≡ is_editing cell
below_first cell h = grind (arith, nat_tests)

pub returns-then-cell-ge-CYR : goal.returns-then-cell-ge-CYR
returns-then-cell-ge-CYR c = from_first c.in-Some.cell (omega arith) ∙ sym (named _ _ c.args.self.now c.in-Some.ensures)

pub returns-else-cell-ge-CYR : goal.returns-else-cell-ge-CYR
returns-else-cell-ge-CYR c = below_first c.in-Some.cell (omega arith) ∙ sym (named _ _ c.args.self.now c.in-Some.ensures)

pub returns-in-None : goal.returns-in-None
returns-in-None c = sym (unnamed _ c.args.self.now c.in-None.ensures)
