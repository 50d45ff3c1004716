use Rattle.std.proofs.Common.{◌≡◌, ◌∙◌, List, IfOk, ap, subst}
use Rattle.agc_script.specs.declared.key.Key.{Key}
use Rattle.agc_machine.specs.State.{State}
use Rattle.agc_ring.specs.Ring.{Sending}
use Rattle.agc_pipe.specs.Keys.{Feeding, Taking}
use Rattle.agc_pipe.specs.Live.{IsSentLive, ShowsLive}
use Rattle.agc_pipe.specs.declared.live.SendsLiveRun.{SendsLiveRun}
use Rattle.agc_pipe.proofs.Lives.{memory_or_thread}
use Rattle.agc_pipe.proofs.live.fn.show_live_between.scope.Goals as goal

pub returns : goal.returns
returns g c =
    let same : c.in-Ok.child.promise ≡ c.captures.promise = c.in-Ok.ensures.ok in
    let machine : c.in-Ok.child.promise.machine.value ≡ c.captures.machine =
    ap (λ (p : SendsLiveRun). p.machine.value) same ∙ c.requires.promise.0 in
    let sender : c.in-Ok.child.promise.sender.value ≡ c.captures.sender =
    ap (λ (p : SendsLiveRun). p.sender.value) same ∙ c.requires.promise.1 in
    let taker : c.in-Ok.child.promise.taker.value ≡ c.captures.taker =
    ap (λ (p : SendsLiveRun). p.taker.value) same ∙ c.requires.promise.2 in
    let from_machine : IsSentLive c.captures.machine c.in-Ok.child.promise.sender.value c.in-Ok.child.promise.taker.value c.join.result =
    subst (λ (m : State). IsSentLive m c.in-Ok.child.promise.sender.value c.in-Ok.child.promise.taker.value c.join.result) machine c.join.ensures in
    let from_sender : IsSentLive c.captures.machine c.captures.sender c.in-Ok.child.promise.taker.value c.join.result =
    subst (λ (s : Sending). IsSentLive c.captures.machine s c.in-Ok.child.promise.taker.value c.join.result) sender from_machine in
    let sent : IsSentLive c.captures.machine c.captures.sender c.captures.taker c.join.result =
    subst (λ (k : Taking). IsSentLive c.captures.machine c.captures.sender k c.join.result) taker from_sender in
    record {
      live = subst (λ (keys : List Key). IfOk c.put_live_together.result (ShowsLive c.captures.machine c.captures.taker.spacing keys))
          (ap (λ (f : Feeding). f.keys) c.drain-taken.ensures.feed)
          (c.put_live_together.ensures.live c.captures.machine c.captures.sender c.captures.taker sent);
      fault = memory_or_thread c.put_live_together.result c.put_live_together.ensures.fault;
    }
