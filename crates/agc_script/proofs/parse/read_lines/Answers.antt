use Rattle.std.proofs.Common.{arith, sym, ◌∙◌}
use Rattle.agc_script.proofs.Lines.{next_lines, faulty_line, takable_line, all_lines}
use Rattle.agc_script.proofs.Reported.{first_fault, sound_line, faultless_file}
use Rattle.agc_script.proofs.parse.read_lines.Goals as goal

pub returns-in-Err-clause-fault : goal.returns-in-Err-clause-fault
returns-in-Err-clause-fault c = λ other.
    let same = rw c.in-Some.ensures.lines at c.loop-line.invariant.same in
    faulty_line _ _ _ _ _ _ _ same (c.in-Err.ensures.fault other)

pub returns-in-Err-clause-memory : goal.returns-in-Err-clause-memory
returns-in-Err-clause-memory c = λ memory.
    let same = rw c.in-Some.ensures.lines at c.loop-line.invariant.same in
    let count = rw c.in-Some.ensures.lines at c.loop-line.invariant.count in
    record {
      first = omega arith;
      last = omega (arith, count);
      sound = takable_line _ _ _ _ _ _ same (c.in-Err.ensures.memory memory);
    }

pub returns-in-Err-clause-first_fault : goal.returns-in-Err-clause-first_fault
returns-in-Err-clause-first_fault c = λ other. first_fault _ _ (returns-in-Err-clause-fault c other)

pub returns-in-Err-clause-sound : goal.returns-in-Err-clause-sound
returns-in-Err-clause-sound c = λ memory. sound_line _ _ (returns-in-Err-clause-memory c memory)

pub returns-clause-faultless : goal.returns-clause-faultless
returns-clause-faultless c =
    let same = rw c.in_default.ensures.lines at c.loop-line.invariant.same in
    faultless_file _ _ (sym same ∙ all_lines _ _ _)

pub loop-line-preserved : goal.loop-line-preserved
loop-line-preserved c =
    let same = rw c.in-Some.ensures.lines at c.loop-line.invariant.same in
    let count = rw c.in-Some.ensures.lines at c.loop-line.invariant.count in
    record {
      same = sym (next_lines _ _ _ _ _ _ _ c.in-Ok.ensures.ok) ∙ same;
      count = omega (arith, count);
      bytes = omega (arith, c.in-Some.ensures.shorter);
      range = c.in-Ok.ensures.range;
      few = c.in-Ok.ensures.bound;
    }

pub returns-clause-ok : goal.returns-clause-ok
returns-clause-ok c =
    let same = rw c.in_default.ensures.lines at c.loop-line.invariant.same in
    sym same ∙ all_lines _ _ _
