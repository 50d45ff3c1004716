use Rattle.std.proofs.Common.{List, [], ◌∷◌, ◌++◌, Global, None, Vec, ap, sym, ◌∙◌}
use Rattle.agc_timeline.specs.declared.frame.Frame.{Frame}
use Rattle.agc_timeline.proofs.Recorded.{opens_blank, opens_with}
use Rattle.agc_timeline.proofs.recorder.Recorder.new.Goals as goal
use Rattle.agc_timeline.proofs.recorder.Recorder.new.Goals.{then-not-shows_same+in_ok-push, else-not-shows_same}

pub returns : goal.returns
returns c =
    let opening : List Frame = record { cycle = c.args.cycle; written = None; panel = c.args.panel } ∷ [] in
    λ before is. elim c.if-not-shows_same.branch [
      | then-not-shows_same+in_ok-push w ↦
          opens_with c.args.cycle before _ c.new.result c.new.ensures is
          (ap (λ (v : Vec Frame Global). v.items) w.frames-is ∙ w.in_ok-push.ensures.items ∙ ap (λ (fs : List Frame). fs ++ opening) c.new-frames.ensures.items)
          (sym w.if-not-shows_same.true ∙ c.shows_same.ensures)
      | else-not-shows_same w ↦
          opens_blank c.args.cycle before _ c.new.result c.new.ensures is
          (ap (λ (v : Vec Frame Global). v.items) w.frames-is ∙ c.new-frames.ensures.items)
          (sym w.if-not-shows_same.false ∙ c.shows_same.ensures)
    ]
