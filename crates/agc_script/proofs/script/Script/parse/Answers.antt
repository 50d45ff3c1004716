use Rattle.std.proofs.Common.{arith}
use Rattle.std.proofs.lemmas.List.Sorted.{All-permutation, length_permutation}
use Rattle.agc_script.specs.Event.{IsInRange}
use Rattle.agc_script.proofs.Arranged.{arranged-in_order}
use Rattle.agc_script.proofs.Lines.{whole_file, last_line}
use Rattle.agc_script.proofs.Reported.{sound_line, arranged_file}
use Rattle.agc_script.proofs.script.Script.parse.Goals as goal

pub invariant_of-result : goal.invariant_of-result
invariant_of-result c = record {
  in_range = All-permutation IsInRange _ _ c.arrange.ensures.same c.in_ok-events.ensures.range;
  in_order = rw c.in-Ok.ensures.ok (arranged-in_order _);
  few = omega (arith, length_permutation _ _ c.arrange.ensures.same, c.in_ok-events.ensures.bound);
}

pub returns-in-Ok-clause-ok : goal.returns-in-Ok-clause-ok
returns-in-Ok-clause-ok c = rw c.in-Ok.ensures.ok (whole_file _ _ c.in_ok-events.ensures.ok)

pub returns-in-Err-clause-memory : goal.returns-in-Err-clause-memory
returns-in-Err-clause-memory c = λ _. last_line _ _ _ c.in_ok-events.ensures.ok c.in-Err.ensures.err c.in_ok-events.ensures.lines

pub returns-in-Ok-clause-arranged : goal.returns-in-Ok-clause-arranged
returns-in-Ok-clause-arranged c = arranged_file _ _ _ c.in_ok-events.ensures.ok c.arrange.ensures.same c.in-Ok.ensures.ok

pub returns-in-Err-clause-sound : goal.returns-in-Err-clause-sound
returns-in-Err-clause-sound c = λ memory. sound_line _ _ (returns-in-Err-clause-memory c memory)
