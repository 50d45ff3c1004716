use Rattle.std.proofs.lemmas.List.Elements.{All-push}
use Rattle.agc_mend.specs.WordDiff.{IsMoved}
use Rattle.agc_mend.proofs.word_diff.moved_blocks.Goals as goal
use Rattle.agc_mend.proofs.word_diff.moved_blocks.Goals.{in-Some+in_ok-push, in_default}

pub loop-source-preserved : goal.loop-source-preserved
loop-source-preserved c =
    let moved = IsMoved c.args.first.now.fixed c.args.second.now.fixed c.args.least in
    elim c.match-moved_from.branch [
      | in-Some+in_ok-push w ↦
          rw (w.blocks-is, w.in_ok-push.ensures.items) (All-push moved c.loop-source.blocks.items w.in-Some.block c.loop-source.invariant w.in-Some.ensures)
      | in_default w ↦ rw w.blocks-is c.loop-source.invariant
    ]
