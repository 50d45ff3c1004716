-- The channels of a run's writes fit three octal digits.
use Rattle.std.proofs.Common.{ℕ, ◌+◌, ◌<◌, List, [], ◌∷◌, arith}
use Rattle.std.specs.Prelude.{All}
use Rattle.std.proofs.lemmas.List.Elements.{All-nil, All-cons}
use Rattle.agc_word.specs.declared.channel_write.ChannelWrite.{ChannelWrite}
use Rattle.agc_machine.specs.Laws.{AreRising}
use Rattle.agc_machine.specs.Run.{run_of}
use Rattle.agc_machine.specs.State.{State}
use Rattle.agc_machine.proofs.Chain.{run_rises}

abbrev pub InRange : ChannelWrite → Type 0
InRange write = write.channel < 512

rising_in_range : (from : ℕ) (writes : List ChannelWrite) → AreRising from writes → All InRange writes
rising_in_range from [] rising = All-nil InRange
rising_in_range from (write ∷ writes) rising = All-cons InRange write writes (omega (arith, rising.1.1)) (rising_in_range (write.cycle + 1) writes rising.2)

pub run_in_range : (s : State) → All InRange (run_of s).writes
run_in_range s = rising_in_range s.cycle (run_of s).writes (run_rises s)
