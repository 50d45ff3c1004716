use Rattle.std.specs.Prelude.{◌≡◌}
use Rattle.agc_mend.specs.Merge.{settled_choices}
use Rattle.agc_mend.proofs.merging.settled_choices.Given as goal

abbrev pub invariant-loop-place : goal.invariant-loop-place
invariant-loop-place l = l.new.items ≡ settled_choices l.dumps l.choices l.rope.fixed l.place
