use Rattle.std.proofs.Common.{◌≡◌, ◌++◌, string_bytes}
use Rattle.agc_listing.specs.List.{is_extracode_at}
use Rattle.agc_encode.specs.Disassemble.{follows_word, is_wanted_at, resolve_range}
use Rattle.agc_encode.proofs.disassemble.push_places.Given as goal

-- the lines so far, and how the next one is read
abbrev pub invariant-loop-place : goal.invariant-loop-place
invariant-loop-place l = record {
  text : string_bytes l.text ≡ string_bytes l.initial.text ++ resolve_range l.place l.bank l.store.fixed;
  follows : l.read.follows ≡ follows_word l.store.fixed l.place;
  wanted : l.read.wanted ≡ is_wanted_at l.store.fixed l.place;
  extracode : l.read.extracode ≡ is_extracode_at l.store.fixed l.place;
}
