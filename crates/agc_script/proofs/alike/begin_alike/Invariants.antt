use Rattle.std.specs.Prelude.{◌≡◌, take}
use Rattle.agc_script.proofs.alike.begin_alike.Given as goal

abbrev pub invariant-loop-i : goal.invariant-loop-i
invariant-loop-i l = take l.i l.one ≡ take l.i l.other
