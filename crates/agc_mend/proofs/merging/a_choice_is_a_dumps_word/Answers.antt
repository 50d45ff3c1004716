use Rattle.std.specs.Prelude.{◌≡◌, true}
use Rattle.agc_mend.proofs.Merged.{of_settled}
use Rattle.agc_mend.proofs.merging.a_choice_is_a_dumps_word.Goals as goal

pub returns : goal.returns
returns c = λ holds choices rope place word words h. of_settled (λ bits. holds bits ≡ true) choices rope place word words h
