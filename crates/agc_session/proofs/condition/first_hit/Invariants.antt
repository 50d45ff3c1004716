use Rattle.std.proofs.Common.{◌≡◌, drop}
use Rattle.agc_session.specs.Condition.{first_hit}
use Rattle.agc_session.proofs.condition.first_hit.Given as goal

-- among the conditions that are left, as among all
abbrev pub invariant-loop-one : goal.invariant-loop-one
invariant-loop-one l = first_hit (drop l.one-index l.armed) l.before l.machine l.stepped ≡ first_hit l.armed l.before l.machine l.stepped
