use Rattle.std.specs.Prelude.{◌≡◌, ◌++◌, string_bytes, take}
use Rattle.agc_listing.specs.Shown.{printable}
use Rattle.agc_listing.proofs.shown.push_file_bytes.Given as goal

abbrev pub invariant-loop-byte : goal.invariant-loop-byte
invariant-loop-byte l = string_bytes l.text ≡ string_bytes l.fn.text ++ printable (take l.byte-index l.bytes)
