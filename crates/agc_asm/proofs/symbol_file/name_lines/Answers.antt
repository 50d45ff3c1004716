use Rattle.std.proofs.Common.{arith, drop, map}
use Rattle.std.proofs.lemmas.Grind.{common_steps}
use Rattle.agc_asm.proofs.ReportedNames.{all_reported, faulty_reported, next_reported}
use Rattle.agc_asm.proofs.symbol_file.name_lines.Goals as goal

pub returns-in-Err-clause-written : goal.returns-in-Err-clause-written
returns-in-Err-clause-written c = (faulty_reported _ _ _ _ _ (map (λ line. line.text.now) (drop 1 c.loop-rest.rest.now)) _ _ c.loop-rest.invariant.reported (grind (arith, common_steps)) c.in-Err.ensures.labelled).0

pub returns-in-Err-clause-read : goal.returns-in-Err-clause-read
returns-in-Err-clause-read c = (faulty_reported _ _ _ _ _ (map (λ line. line.text.now) (drop 1 c.loop-rest.rest.now)) _ _ c.loop-rest.invariant.reported (grind (arith, common_steps)) c.in-Err.ensures.labelled).1

pub loop-rest-preserved : goal.loop-rest-preserved
loop-rest-preserved c = record {
  reported =
      next_reported _ _ _ _ _ _ _ _ _ c.in-Ok.next c.loop-rest.invariant.reported (grind (arith, common_steps)) c.in-Ok.ensures.labelled c.in-Ok.ensures.within
      c.in_ok-tell_label-in-Ok.ensures c.in_ok-note_label-in-Ok.ensures;
  at = c.in-Ok.ensures.range;
}

pub returns-clause-written : goal.returns-clause-written
returns-clause-written c = (all_reported _ _ _ _ _ c.loop-rest.invariant.reported (grind (arith, common_steps))).0

pub returns-clause-read : goal.returns-clause-read
returns-clause-read c = (all_reported _ _ _ _ _ c.loop-rest.invariant.reported (grind (arith, common_steps))).1
