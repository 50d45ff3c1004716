use Rattle.std.proofs.Common.{◌∙◌, refl, subst, sym}
use Rattle.agc_machine.specs.declared.answer.Stepped.TheVariants as stepped
use Rattle.agc_ring.specs.Ring.{Sending}
use Rattle.agc_pipe.proofs.Lives.{IsLiveSending, sending_starts, after_quiet, after_live_write, at_live_stop}
use Rattle.agc_pipe.proofs.live_sending.send_live_run.Goals as goal

pub loop-init : goal.loop-init
loop-init g c = (
  subst (λ (out : Sending). IsLiveSending c.args.machine c.args.sender out c.args.taker.tape c.args.machine) (sym c.new-block_sender.ensures)
      (sending_starts c.args.machine c.args.sender c.args.taker.tape c.requires.sent c.requires.tape),
  refl,
  refl,
)

pub loop-preserved-in-Quiet : goal.loop-preserved-in-Quiet
loop-preserved-in-Quiet g c = (
  after_quiet c.args.machine c.loop.machine c.go_on.new.machine c.args.sender c.loop.block_sender c.loop.taker.tape c.go_on.new.taker.tape stepped.Quiet refl
      c.in-Quiet.ensures.live c.loop.invariant.0,
  c.in-Quiet.ensures.ring ∙ c.loop.invariant.1,
  c.in-Quiet.ensures.spacing ∙ c.loop.invariant.2,
)

pub loop-preserved : goal.loop-preserved
loop-preserved g c = (
  after_live_write c.args.machine c.loop.machine c.go_on.new.machine c.args.sender c.loop.block_sender c.put.new.self c.loop.taker.tape c.go_on.new.taker.tape
      (stepped.Wrote c.in-Wrote.write) c.in-Wrote.write refl c.in-Wrote.ensures.live c.put.ensures c.loop.invariant.0,
  c.in-Wrote.ensures.ring ∙ c.loop.invariant.1,
  c.in-Wrote.ensures.spacing ∙ c.loop.invariant.2,
)

pub returns-in-Stopped : goal.returns-in-Stopped
returns-in-Stopped g c =
    let done = at_live_stop c.args.machine c.loop.machine c.go_on.new.machine c.args.sender c.loop.block_sender c.finish-sender.result c.loop.taker.tape
    c.go_on.new.taker.tape (stepped.Stopped c.in-Stopped.stop) c.in-Stopped.stop c.requires.start refl c.in-Stopped.ensures.live c.in-Stopped.ensures.stop
    c.finish-sender.ensures c.loop.invariant.0 in
    record {
      sent = record { sender = done.items; machine = done.last; stop = done.stop };
      below = done.below;
      taken = done.taken;
      ring = c.in-Stopped.ensures.ring ∙ c.loop.invariant.1;
      spacing = c.in-Stopped.ensures.spacing ∙ c.loop.invariant.2;
    }
