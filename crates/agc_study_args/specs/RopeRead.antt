-- How a rope file is read: as `agc` reads it, or whatever its parity.
use Rattle.std.specs.Prelude.{ℕ, ◌*◌, ◌%◌, ◌==◌, ◌||◌, nat_lt, Bool, false, true, List, [], ◌∷◌, length, Option, Some, None, option_map}
use Rattle.agc_store.specs.Places.{fixed_words}
use Rattle.agc_store.specs.RopeFile.{rope_fault_of}
use Rattle.agc_store.specs.declared.rope_file.RopeFault.{RopeFault}
use Rattle.agc_store.specs.declared.rope_file.RopeFault.TheVariants as fault
use Rattle.agc_store.specs.declared.rope_file.RopeForm.{RopeForm}
use Rattle.agc_store.specs.declared.rope_file.RopeForm.TheVariants as form
use Rattle.agc_mend.specs.FileWords.{file_words}
use Rattle.agc_mend.specs.Parity.{bad_words}
use Rattle.agc_mend.specs.declared.parity.BadWord.{BadWord}
use Rattle.agc_io.specs.declared.input.ReadFault.TheVariants as read
use Rattle.agc_load.specs.Steps.{Step, checks, refused_if, requires_resource}
use Rattle.agc_load.specs.declared.fault.LoadFault.TheVariants as refusal

-- a fault that is not wrong parity
abbrev pub unless_parity : Option RopeFault → Option RopeFault
unless_parity None = None
unless_parity (Some fault.Empty) = Some fault.Empty
unless_parity (Some fault.OddLength) = Some fault.OddLength
unless_parity (Some fault.TooLong) = Some fault.TooLong
unless_parity (Some (fault.Parity bank offset)) = None
unless_parity (Some fault.Memory) = Some fault.Memory

abbrev pub heeded : Bool → Option RopeFault → Option RopeFault
heeded false found = found
heeded true found = unless_parity found

-- why a rope file is refused, if it is; wrong parity is no fault if it is ignored
unfoldable pub rope_refusal : Bool → RopeForm → List ℕ → Option RopeFault
rope_refusal ignores_parity form file = heeded ignores_parity (rope_fault_of form file)

-- a file is empty, has half a word, or has more words than a rope
abbrev pub has_faulty_length : List ℕ → Bool
has_faulty_length file =
    (length file == 0) || ((length file % 2 == 1) || nat_lt (2 * fixed_words) (length file))

-- the words of a file with wrong parity that are read, in their order
abbrev pub wrong_words : Bool → RopeForm → List ℕ → List BadWord
wrong_words true form.Parity file = bad_words (file_words file)
wrong_words true form.Classic file = []
wrong_words false form file = []

-- a rope file has at most 1,048,576 bytes
unfoldable pub reading_steps : Bool → RopeForm → List ℕ → List Step
reading_steps ignores_parity form file =
    requires_resource (refusal.CannotReadRope read.Failed)
    ∷ requires_resource refusal.Memory
    ∷ checks (refused_if (nat_lt 1048576 (length file)) (refusal.CannotReadRope read.TooMany))
    ∷ checks (option_map refusal.Rope (rope_refusal ignores_parity form file))
    ∷ requires_resource (refusal.Rope fault.Memory)
    ∷ []
