use Rattle.std.proofs.Common.{Some, ap, sym, ◌∙◌}
use Rattle.std.proofs.lemmas.List.{nil_from_length}
use Rattle.agc_timeline.proofs.Parted.{part_at_left, part_at_right, part_here, part_later, part_never}
use Rattle.agc_timeline.proofs.divergence.first_difference.Goals as goal

pub returns-then-not-is_same_frame : goal.returns-then-not-is_same_frame
returns-then-not-is_same_frame c =
    ap (λ n. Some n) c.min.ensures
    ∙ part_here _ _ _ _ _ _ c.in-Some-Some.ensures.cases.0 c.in-Some-Some.ensures'.cases.0
    (sym c.if-not-is_same_frame.true ∙ c.is_same_frame.ensures)
    ∙ c.loop-left_frame.invariant

pub loop-left_frame-preserved : goal.loop-left_frame-preserved
loop-left_frame-preserved c =
    part_later _ _ _ _ _ _ c.in-Some-Some.ensures.cases.0 c.in-Some-Some.ensures'.cases.0
    (sym c.if-not-is_same_frame.false ∙ c.is_same_frame.ensures)
    ∙ c.loop-left_frame.invariant

pub returns-in-None-None : goal.returns-in-None-None
returns-in-None-None c =
    part_never _ _ (nil_from_length _ c.in-None-None.ensures.cases) (nil_from_length _ c.in-None-None.ensures'.cases) ∙ c.loop-left_frame.invariant

pub returns-in-Some-None : goal.returns-in-Some-None
returns-in-Some-None c =
    part_at_left _ _ _ _ c.in-Some-None.ensures.cases.0 (nil_from_length _ c.in-Some-None.ensures'.cases) ∙ c.loop-left_frame.invariant

pub returns-in-None-Some : goal.returns-in-None-Some
returns-in-None-Some c =
    part_at_right _ _ _ _ (nil_from_length _ c.in-None-Some.ensures.cases) c.in-None-Some.ensures'.cases.0 ∙ c.loop-left_frame.invariant
