use Rattle.std.proofs.Common.{◌≡◌, ap, sym, ◌∙◌, ℕ, Bool}
use Rattle.std.specs.Prelude.{nat_le, ◌&&◌}
use Rattle.agc_machine.specs.State.{State}
use Rattle.agc_timeline.specs.Changes.{is_in}
use Rattle.agc_trace.specs.declared.span.Span.{Span}
use Rattle.agc_io.proofs.Begun.{on_err}
use Rattle.agc_timeline.proofs.OneByOne.{begun_inside, on_ok, shown_inside, shown_outside, reported_inside, reported_outside}
use Rattle.agc_timeline.proofs.watching.write_state.Goals as goal

-- a state is in the span where its cycle is one of it
is_in_by : (b has : Bool) (span : Span) (s : State) (cycle : ℕ) → cycle ≡ s.cycle → has ≡ (nat_le span.from cycle && nat_le cycle span.to) → has ≡ b → is_in span s ≡ b
is_in_by b has span s cycle e f h = ap (λ (n : ℕ). nat_le span.from n && nat_le n span.to) (sym e) ∙ sym f ∙ h

pub returns-then-has-clause-lines : goal.returns-then-has-clause-lines
returns-then-has-clause-lines g c =
    let inside = is_in_by _ c.has.result c.args.span c.args.machine.now c.cycle.result c.cycle.ensures.cycle c.has.ensures c.if-has.true in
    on_ok c.write_sight.result (reported_inside c.args.names.now c.args.span c.args.spec.now _ _ c.args.shown.now c.args.machine.now inside) c.write_sight.ensures.lines

pub returns-then-has-clause-shown : goal.returns-then-has-clause-shown
returns-then-has-clause-shown g c =
    let inside = is_in_by _ c.has.result c.args.span c.args.machine.now c.cycle.result c.cycle.ensures.cycle c.has.ensures c.if-has.true in
    on_ok c.write_sight.result (shown_inside c.args.span c.args.spec.now c.args.shown.now _ c.args.machine.now inside) c.write_sight.ensures.shown

pub returns-else-has-clause-lines : goal.returns-else-has-clause-lines
returns-else-has-clause-lines g c =
    reported_outside c.args.names.now c.args.span c.args.spec.now _ c.args.shown.now c.args.machine.now
    (is_in_by _ c.has.result c.args.span c.args.machine.now c.cycle.result c.cycle.ensures.cycle c.has.ensures c.if-has.false)

pub returns-else-has-clause-shown : goal.returns-else-has-clause-shown
returns-else-has-clause-shown g c =
    shown_outside c.args.span c.args.spec.now c.args.shown.now c.args.machine.now
    (is_in_by _ c.has.result c.args.span c.args.machine.now c.cycle.result c.cycle.ensures.cycle c.has.ensures c.if-has.false)

pub returns-then-has-clause-cut : goal.returns-then-has-clause-cut
returns-then-has-clause-cut g c =
    let inside = is_in_by _ c.has.result c.args.span c.args.machine.now c.cycle.result c.cycle.ensures.cycle c.has.ensures c.if-has.true in
    on_err c.write_sight.result (begun_inside c.args.names.now c.args.span c.args.spec.now _ _ c.args.shown.now c.args.machine.now inside) c.write_sight.ensures.cut
