use Rattle.std.proofs.Common.{◌≡◌, drop}
use Rattle.agc_study_args.specs.Locations.{all_resolved}
use Rattle.agc_study_args.proofs.locations.push_resolved.Given as goal

-- with the texts that are left, all of them
abbrev pub invariant-loop-text : goal.invariant-loop-text
invariant-loop-text l =
    all_resolved l.option l.names l.channels l.several.items (drop l.text-index l.texts) ≡ all_resolved l.option l.names l.channels l.initial.several.items l.texts
