-- The words of cells in a memory, and a sample of a state.
use Rattle.std.specs.Prelude.{◌≡◌, ℕ, Bool, not, List, map}
use Rattle.agc_word.specs.Arithmetic.{narrow_of}
use Rattle.agc_word.specs.Number.{Number}
use Rattle.agc_store.specs.Memory.{Memory, cell_at}
use Rattle.agc_listing.specs.Cell.{same_word}
use Rattle.agc_machine.specs.State.{State}
use Rattle.agc_quantities.specs.declared.sample.CellWord.{CellWord}
use Rattle.agc_quantities.specs.declared.sample.Sample.{Sample}

-- a cell's word in a memory: for A and Q, which have sixteen bits, the overflow is corrected
abbrev pub word_in : Memory → ℕ → Number
word_in m cell = narrow_of (cell_at cell m.erasable)

-- a cell with its word in a memory
abbrev pub seen_in : Memory → ℕ → CellWord
seen_in m cell = record { cell = cell; word = word_in m cell }

-- a cell that was read, and has another word in this memory: +0 and -0 differ
abbrev pub is_changed : Memory → CellWord → Bool
is_changed m seen = not (same_word seen.word (word_in m seen.cell))

-- a sample has the cycle of a state, and each cell with its word in that state's memory
pub record IsSampleOf (cells : List ℕ) (s : State) (sample : Sample) : Type 0 where
  pub cycle : sample.cycle ≡ s.cycle
  pub words : sample.words.items ≡ map (seen_in s.processor.store) cells
