use Rattle.std.specs.Prelude.{◌<◌, ℕ, ◌-◌}
use Rattle.std.proofs.Common.{arith, subst}
use Rattle.agc_machine.specs.Laws.{after}
use Rattle.agc_session.specs.Checkpoints.{IsCheckpoint}
use Rattle.agc_session.specs.Search.{HasSearched, IsAt, IsFewerThan, resumed}
use Rattle.agc_session.specs.declared.search.Found.{Found}
use Rattle.agc_session.proofs.Back.{copy_at, copy_found, copy_searched, searching_starts, start_fewer, start_found}
use Rattle.agc_session.proofs.search.search_back.Goals as goal

pub loop-place-init : goal.loop-place-init
loop-place-init g c = record {
  searching = λ n e. searching_starts c.args.condition.now c.args.count n _ c.args.now.now _ c.requires.some c.of-end.ensures e;
  some = c.requires.some;
  bound = omega (arith, c.len-place.ensures);
}

pub returns-in-At : goal.returns-in-At
returns-in-At g c = λ n e.
    let words = c.args.now.now.processor.store.fixed in
    let limit = c.args.now.now.limit in
    let copy = c.index-copy.result.now in
    let right : IsCheckpoint words limit copy =
    copy_at words limit (c.loop-place.place - 1) c.args.checkpoints.now.copies.items copy c.requires.right (omega (arith, c.loop-place.invariant.bound, c.loop-place-test.true)) c.index-copy.ensures in
    copy_found c.args.condition.now c.args.count c.loop-place.wanted limit words c.args.script.now c.args.now.now c.loop-place.end c.in-At.cycle copy right
    (c.is_on_run_before.ensures.fits c.if-is_on_run_before.true) (c.is_on_run_before.ensures.before c.if-is_on_run_before.true)
    (subst (λ (f : Found). (n : ℕ) → IsAt c.loop-place.end (after n (resumed c.args.script.now copy)) → HasSearched c.args.condition.now c.loop-place.wanted n copy.panel (resumed c.args.script.now copy) f)
    c.in-At.is c.in_ok-cycle.ensures.searched)
    (c.loop-place.invariant.searching n e)

pub loop-place-preserved-in-Fewer : goal.loop-place-preserved-in-Fewer
loop-place-preserved-in-Fewer g c =
    let words = c.args.now.now.processor.store.fixed in
    let limit = c.args.now.now.limit in
    let copy = c.index-copy.result.now in
    let right : IsCheckpoint words limit copy =
    copy_at words limit (c.loop-place.place - 1) c.args.checkpoints.now.copies.items copy c.requires.right (omega (arith, c.loop-place.invariant.bound, c.loop-place-test.true)) c.index-copy.ensures in
    let fewer : c.in-Fewer.number < c.loop-place.wanted = subst (λ (f : Found). IsFewerThan c.loop-place.wanted f) c.in-Fewer.is c.in_ok-cycle.ensures.fewer in
    record {
      searching = λ n e.
          copy_searched c.args.condition.now c.args.count c.loop-place.wanted limit words c.args.script.now c.args.now.now c.loop-place.end c.begin_of-end.result c.in-Fewer.number copy right
          (c.is_on_run_before.ensures.fits c.if-is_on_run_before.true) (c.is_on_run_before.ensures.before c.if-is_on_run_before.true)
          (subst (λ (f : Found). (n : ℕ) → IsAt c.loop-place.end (after n (resumed c.args.script.now copy)) → HasSearched c.args.condition.now c.loop-place.wanted n copy.panel (resumed c.args.script.now copy) f)
          c.in-Fewer.is c.in_ok-cycle.ensures.searched)
          c.begin_of-end.ensures (c.loop-place.invariant.searching n e);
      some = omega (arith, fewer);
      bound = omega (arith, c.loop-place.invariant.bound);
    }

pub returns-in-At-2 : goal.returns-in-At-2
returns-in-At-2 g c = λ n e.
    let copy = c.in_ok-start.start in
    let script = c.args.script.now in
    start_found c.args.condition.now c.args.count c.loop-place.wanted script c.args.now.now c.loop-place.end c.in-At-2.cycle copy
    (rw c.in_ok-start.ensures.ok_part at (c.start_of.ensures.start script)) (rw c.in_ok-start.ensures.ok_part at c.start_of.ensures.panel)
    (subst (λ (f : Found). (n : ℕ) → IsAt c.loop-place.end (after n (resumed script copy)) → HasSearched c.args.condition.now c.loop-place.wanted n copy.panel (resumed script copy) f)
    c.in-At-2.is c.in_ok-cycle-2.ensures.searched)
    (c.loop-place.invariant.searching n e)

pub returns : goal.returns
returns g c = λ n e.
    let copy = c.in_ok-start.start in
    let script = c.args.script.now in
    start_fewer c.args.condition.now c.args.count c.loop-place.wanted script c.args.now.now c.loop-place.end c.in-Fewer-2.field-0 copy
    (rw c.in_ok-start.ensures.ok_part at (c.start_of.ensures.start script)) (rw c.in_ok-start.ensures.ok_part at c.start_of.ensures.panel)
    (subst (λ (f : Found). (n : ℕ) → IsAt c.loop-place.end (after n (resumed script copy)) → HasSearched c.args.condition.now c.loop-place.wanted n copy.panel (resumed script copy) f)
    c.in-Fewer-2.is c.in_ok-cycle-2.ensures.searched)
    (c.loop-place.invariant.searching n e)
