-- The word of a row shows the operand that it was made of.
use Rattle.std.specs.Prelude.{◌≡◌, ℕ, ◌%◌, Ok}
use Rattle.std.proofs.Common.{arith}
use Rattle.std.proofs.lemmas.Bool.Decides.{nat_tests}
use Rattle.agc_order.specs.declared.row.Takes.{Takes}
use Rattle.agc_order.specs.declared.row.Takes.TheVariants as takes
use Rattle.agc_listing.specs.Order.{operand_in}
use Rattle.agc_listing.specs.declared.order.Operand.{Operand}
use Rattle.agc_encode.specs.Row.{row_word}

-- how many words a row has, one for each operand
abbrev pub words_of_row : Takes → ℕ
words_of_row takes.Nothing = 1
words_of_row takes.Erasable = 0o2000
words_of_row takes.ErasablePair = 0o2000
words_of_row takes.Fixed = 0o10000
words_of_row takes.Memory = 0o10000
words_of_row takes.MemoryPair = 0o10000
words_of_row takes.Channel = 0o1000

pub row_shows : (first : ℕ) (wanted : Takes) (given : Operand) (bits : ℕ) → first % words_of_row wanted ≡ 0 → row_word first wanted given ≡ Ok bits → operand_in wanted bits ≡ given
row_shows first takes.Nothing given bits begins is = grind (arith, nat_tests)
row_shows first takes.Erasable given bits begins is = grind (arith, nat_tests)
row_shows first takes.ErasablePair given bits begins is = grind (arith, nat_tests)
row_shows first takes.Fixed given bits begins is = grind (arith, nat_tests)
row_shows first takes.Memory given bits begins is = grind (arith, nat_tests)
row_shows first takes.MemoryPair given bits begins is = grind (arith, nat_tests)
row_shows first takes.Channel given bits begins is = grind (arith, nat_tests)
