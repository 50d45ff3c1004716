use Rattle.std.specs.Prelude.{◌≡◌, fold, take}
use Rattle.agc_mend.specs.Patch.{with_word}
use Rattle.agc_mend.proofs.patch.with_words.Given as goal

abbrev pub invariant-loop-named : goal.invariant-loop-named
invariant-loop-named l = l.new.items ≡ fold (with_word l.form) l.words (take l.named-index l.parsed)
