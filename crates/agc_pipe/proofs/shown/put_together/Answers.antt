use Rattle.std.proofs.Common.{◌≡◌, ◌∙◌, ap}
use Rattle.agc_machine.specs.State.{State}
use Rattle.agc_panel.specs.Face.{panel_of}
use Rattle.agc_ring.specs.Items.{shown_in}
use Rattle.agc_pipe.proofs.Takes.{whole_shown}
use Rattle.agc_pipe.proofs.shown.put_together.Goals as goal

pub returns-clause-shown : goal.returns-clause-shown
returns-clause-shown c run h =
    let all : shown_in c.args.taken.receiver.received ≡ run.writes =
    whole_shown c.args.taken.receiver.received c.rejoin-rest.result run.writes c.requires.end (c.rejoin-rest.ensures ∙ h.0) in
    let kept = c.requires.shown c.if-refused.false in
    record {
      log = kept.0 ∙ all;
      panel = kept.1 ∙ ap panel_of all;
      store = c.into_store.ensures ∙ ap (λ (s : State). s.processor.store) h.1;
      stop = h.2;
      cycle = c.cycle-cycle.ensures.cycle ∙ ap (λ (s : State). s.cycle) h.1;
    }
