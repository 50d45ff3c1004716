use Rattle.std.specs.Prelude.{◌≡◌, take}
use Rattle.agc_listing.specs.Weave.{woven_file}
use Rattle.agc_listing.proofs.build.file_of.Given as goal

abbrev pub invariant-loop-named : goal.invariant-loop-named
invariant-loop-named l = l.bytes.items ≡ woven_file l.form (take l.named-index l.words)
