use Rattle.std.proofs.Common.{◌≡◌, ℕ, ◌∙◌, refl, arith}
use Rattle.agc_store.specs.Memory.{Memory, erasable_place, read_of}
use Rattle.agc_store.specs.Places.{z_cell}
use Rattle.agc_store.specs.Registers.{register}
use Rattle.agc_processor.proofs.processor.Processor.context.Goals as goal

-- Z's address reads Z
read_z : (m : Memory) (k : ℕ) → k ≡ z_cell → read_of m k ≡ register z_cell m
unfolding read_of erasable_place register
read_z m k e = rw e refl

pub returns : goal.returns
returns c =
    let z : c.read.result ≡ register z_cell c.args.self.now.store = c.read.ensures.word ∙ read_z _ _ (omega arith) in cc
