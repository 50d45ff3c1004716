use Rattle.std.specs.Prelude.{◌≡◌, take}
use Rattle.std.specs.List.{flat_map}
use Rattle.agc_mend.specs.FileWords.{word_bytes}
use Rattle.agc_mend.proofs.rope_bytes.bytes_of_words.Given as goal

abbrev pub invariant-loop-word : goal.invariant-loop-word
invariant-loop-word l = l.file.items ≡ flat_map word_bytes (take l.word-index l.words)
