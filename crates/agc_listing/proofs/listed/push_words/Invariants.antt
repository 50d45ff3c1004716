use Rattle.std.proofs.Common.{◌≡◌, ◌++◌, ◌&&◌, not, string_bytes}
use Rattle.agc_listing.specs.List.{starts_run, is_extracode_at, listed_lines}
use Rattle.agc_listing.proofs.listed.push_words.Given as goal

-- the lines so far, and whether the next word is an extracode
abbrev pub invariant-loop-place : goal.invariant-loop-place
invariant-loop-place l =
    (string_bytes l.text ≡ string_bytes l.initial.text ++ listed_lines l.place l.bank l.store.fixed)
    × (l.leads && not (starts_run l.place) ≡ is_extracode_at l.store.fixed l.place)
