use Rattle.agc_run.proofs.Taped.{taped_more}
use Rattle.agc_run.proofs.text.push_tape.Goals as goal

pub loop-place-preserved : goal.loop-place-preserved
loop-place-preserved c =
    taped_more c.args.tape.now c.loop-place.place c.at-cycle.result _ _ _ c.at-cycle.ensures.entry c.loop-place.invariant c.in_ok-push_tape_line.ensures
