-- Comparisons of a cell with a word.
use Rattle.std.specs.Prelude.{ℕ, ◌<◌, ◌/◌, ◌%◌, nat_eq, Bool, not, int_lt}
use Rattle.agc_word.specs.Number.{Number, pattern_of, value}
use Rattle.agc_store.specs.Cells.{cell_of}
use Rattle.agc_store.specs.Memory.{Memory}
use Rattle.agc_store.specs.Places.{erasable_bank_size, erasable_cells}
use Rattle.agc_session.specs.declared.comparison.Comparison.{Comparison}
use Rattle.agc_session.specs.declared.comparison.Relation.{Relation}
use Rattle.agc_session.specs.declared.comparison.Relation.TheVariants as relation

-- two words have the same fifteen bits: +0 and -0 differ
abbrev pub same_word : Number → Number → Bool
same_word one other = nat_eq (pattern_of 15 one) (pattern_of 15 other)

-- the word of a cell by its number, overflow corrected
abbrev pub word_at : ℕ → Memory → Number
word_at cell m = cell_of m (cell / erasable_bank_size) (cell % erasable_bank_size)

-- one word has a relation to another: by its bits, or by the integers that they stand for, both zeros for 0
abbrev pub is_related : Relation → Number → Number → Bool
is_related relation.Equal one other = same_word one other
is_related relation.Unequal one other = not (same_word one other)
is_related relation.Less one other = int_lt (value one) (value other)
is_related relation.Greater one other = int_lt (value other) (value one)

-- a comparison holds in a memory
abbrev pub holds_in : Memory → Comparison → Bool
holds_in m c = is_related c.relation (word_at c.cell m) c.word

-- the cell of a comparison exists
abbrev pub IsComparisonInRange : Comparison → Type 0
IsComparisonInRange c = c.cell < erasable_cells
