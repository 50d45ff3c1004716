use Rattle.std.proofs.Common.{◌≡◌, true, false, ap, sym, ◌∙◌, append-nil, arith}
use Rattle.agc_diff.proofs.Memories.{reported_all, reported_none, reported_none_same, reported_one}
use Rattle.agc_diff.proofs.cells.differing_cells.Goals.{then-not-is_same_word+in_ok-push, else-not-is_same_word}
use Rattle.agc_diff.proofs.cells.differing_cells.Goals as goal

pub loop-place-init : goal.loop-place-init
loop-place-init c = reported_none _ _ _ c.new-cells.ensures.items

pub loop-place-preserved : goal.loop-place-preserved
loop-place-preserved c =
    let left = rw c.new-named.ensures at c.word.ensures.word in
    let right = rw c.new-named.ensures at c.word-in-loop-place.ensures.word in
    elim c.if-not-is_same_word.branch [
      | then-not-is_same_word+in_ok-push w ↦
          reported_one _ _ _ _ _ _ _ left right c.word.ensures.registers c.word-in-loop-place.ensures.registers false
          w.if-not-is_same_word.ensures.0 w.if-not-is_same_word.ensures.1 (ap (λ v. v.items) w.cells-is ∙ w.in_ok-push.ensures.items) c.loop-place.invariant
      | else-not-is_same_word w ↦
          reported_one _ _ _ _ _ _ _ left right c.word.ensures.registers c.word-in-loop-place.ensures.registers true
          w.if-not-is_same_word.ensures.0 w.if-not-is_same_word.ensures.1 (ap (λ v. v.items) w.cells-is ∙ sym (append-nil _)) c.loop-place.invariant
    ]

pub returns : goal.returns
returns c =
    let e : c.loop-place.place ≡ 2048 = omega (arith, c.loop-place.auto.place-end, c.loop-place-test.false) in
    record { cells = reported_all _ _ _ _ e c.loop-place.invariant; none = reported_none_same _ _ _ _ e c.loop-place.invariant }
