use Rattle.std.proofs.Common.{ap, not, refl, sym, ◌∙◌}
use Rattle.std.proofs.Math.Bool.{not-not}
use Rattle.agc_timeline.proofs.Recorded.{taken_alike, taken_frame}
use Rattle.agc_timeline.proofs.recorder.Recorder.take.Goals as goal

pub returns-then-not-update : goal.returns-then-not-update
returns-then-not-update c =
    let same = ap not (sym c.if-not-update.true ∙ c.update.ensures.changed) ∙ not-not _ in
    λ from before taken h. taken_alike from before taken _ _ _ (c.update.ensures.all _ h.panel) refl same h

pub returns : goal.returns
returns c =
    let other = ap not (sym c.if-not-update.false ∙ c.update.ensures.changed) ∙ not-not _ in
    λ from before taken h. taken_frame from before taken _ _ _ (c.update.ensures.all _ h.panel) c.in_ok-push.ensures.items other h
