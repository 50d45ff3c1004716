use Rattle.std.specs.Prelude.{◌≡◌, ◌+◌, None, Some}
use Rattle.std.proofs.Common.{arith, inl, inr, refl}
use Rattle.agc_session.specs.Search.{IsAt}
use Rattle.agc_session.proofs.Counting.{advances_within, counting_starts, counts_hit, counts_miss, has_counted, never, none_known, span_advances}
use Rattle.agc_session.proofs.search.count_hits.Goals as goal

pub loop-end-init : goal.loop-end-init
loop-end-init g c = record { counting = λ n at. counting_starts c.args.condition.now n c.args.panel.now c.args.machine.now _ refl; few = c.requires.some }

pub returns-then-hits-most : goal.returns-then-hits-most
returns-then-hits-most g c = λ n at.
    let not : IsAt c.args.wanted.end c.loop-end.machine → ⊥ = λ there. never c.has_ended.result c.loop-end-test.true (c.has_ended.ensures.1 (inl there)) in
    let advanced = advances_within c.args.condition.now c.min.result c.args.wanted.end.cycle c.loop-end.panel c.advance.new.panel c.loop-end.machine c.advance.new.machine (Some c.in-Some.cycle) (omega (arith, c.min.ensures)) c.in-Some.ensures in
    let counting = counts_hit c.args.condition.now n c.args.panel.now c.loop-end.panel c.advance.new.panel c.args.machine.now c.loop-end.machine c.advance.new.machine c.loop-end.hits
    c.args.wanted.end c.in-Some.cycle (c.loop-end.invariant.counting n at) at not advanced in
    has_counted c.args.condition.now n c.args.wanted.number c.args.panel.now c.advance.new.panel c.args.machine.now c.advance.new.machine
    (record { number = c.loop-end.hits.number + 1; last = c.in-Some.cycle }) c.args.wanted.end counting (omega (arith, c.if-hits-most.true)) at (inl (omega (arith, c.if-hits-most.true)))

pub loop-end-smaller-else-hits-most : goal.loop-end-smaller-else-hits-most
loop-end-smaller-else-hits-most g c =
    let runs : c.loop-end.machine.stopped ≡ None =
    none_known c.loop-end.machine.stopped (λ stopped. never c.has_ended.result c.loop-end-test.true (c.has_ended.ensures.1 (inr stopped))) in
    span_advances c.args.condition.now c.min.result c.loop-end.panel c.advance.new.panel c.loop-end.machine c.advance.new.machine (Some c.in-Some.cycle) runs c.in-Some.ensures

pub loop-end-preserved-else-hits-most : goal.loop-end-preserved-else-hits-most
loop-end-preserved-else-hits-most g c =
    let not : IsAt c.args.wanted.end c.loop-end.machine → ⊥ = λ there. never c.has_ended.result c.loop-end-test.true (c.has_ended.ensures.1 (inl there)) in
    let advanced = advances_within c.args.condition.now c.min.result c.args.wanted.end.cycle c.loop-end.panel c.advance.new.panel c.loop-end.machine c.advance.new.machine (Some c.in-Some.cycle) (omega (arith, c.min.ensures)) c.in-Some.ensures in
    record {
      counting = λ n at.
          counts_hit c.args.condition.now n c.args.panel.now c.loop-end.panel c.advance.new.panel c.args.machine.now c.loop-end.machine c.advance.new.machine c.loop-end.hits
          c.args.wanted.end c.in-Some.cycle (c.loop-end.invariant.counting n at) at not advanced;
      few = omega (arith, c.loop-end.invariant.few, c.if-hits-most.false);
    }

pub loop-end-smaller : goal.loop-end-smaller
loop-end-smaller g c =
    let runs : c.loop-end.machine.stopped ≡ None =
    none_known c.loop-end.machine.stopped (λ stopped. never c.has_ended.result c.loop-end-test.true (c.has_ended.ensures.1 (inr stopped))) in
    span_advances c.args.condition.now c.min.result c.loop-end.panel c.advance.new.panel c.loop-end.machine c.advance.new.machine None runs c.in_default.ensures

pub loop-end-preserved : goal.loop-end-preserved
loop-end-preserved g c =
    let not : IsAt c.args.wanted.end c.loop-end.machine → ⊥ = λ there. never c.has_ended.result c.loop-end-test.true (c.has_ended.ensures.1 (inl there)) in
    let advanced = advances_within c.args.condition.now c.min.result c.args.wanted.end.cycle c.loop-end.panel c.advance.new.panel c.loop-end.machine c.advance.new.machine None (omega (arith, c.min.ensures)) c.in_default.ensures in
    record {
      counting = λ n at.
          counts_miss c.args.condition.now n c.args.panel.now c.loop-end.panel c.advance.new.panel c.args.machine.now c.loop-end.machine c.advance.new.machine c.loop-end.hits
          c.args.wanted.end (c.loop-end.invariant.counting n at) at not advanced;
      few = c.loop-end.invariant.few;
    }

pub returns : goal.returns
returns g c = λ n at.
    has_counted c.args.condition.now n c.args.wanted.number c.args.panel.now c.loop-end.panel c.args.machine.now c.loop-end.machine c.loop-end.hits c.args.wanted.end
    (c.loop-end.invariant.counting n at) (omega (arith, c.loop-end.invariant.few)) at (inr (c.has_ended.ensures.0 c.loop-end-test.false))
