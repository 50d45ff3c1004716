-- The law that a rope's source assembles to the rope.
use Rattle.std.specs.Prelude.{ℕ, List}
use Rattle.agc_word.specs.Number.{Number}
use Rattle.agc_store.specs.declared.rope_file.RopeForm.{RopeForm}
use Rattle.agc_listing.specs.Laws.{IsRopeOf}
use Rattle.agc_asm.specs.Source.{IsSourceWoven}

-- in each form a text assembles to a file that holds a rope with these words
abbrev pub WeavesTo : List Number → List ℕ → Type 0
WeavesTo words text =
    (form : RopeForm) → (file : List ℕ) × IsSourceWoven form text file × IsRopeOf form words file
