use Rattle.std.proofs.Common.{◌≡◌, ◌++◌, ◌&&◌, not, string_bytes}
use Rattle.agc_listing.specs.List.{starts_run, is_extracode_at}
use Rattle.agc_study_args.specs.NamedList.{named_lines}
use Rattle.agc_study_args.proofs.named_list.push_words.Given as goal

-- the lines so far, and whether the next word is an extracode
abbrev pub invariant-loop-place : goal.invariant-loop-place
invariant-loop-place l =
    (string_bytes l.text ≡ string_bytes l.initial.text ++ named_lines l.place l.names l.channels l.bank l.store.fixed)
    × (l.leads && not (starts_run l.place) ≡ is_extracode_at l.store.fixed l.place)
