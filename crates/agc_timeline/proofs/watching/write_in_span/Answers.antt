use Rattle.std.proofs.Common.{◌≡◌, ◌<◌, None, Bool, false, ap, sym, ◌∙◌, subst, arith}
use Rattle.std.specs.Prelude.{Option, is_some}
use Rattle.agc_machine.specs.Boundary.{boundary}
use Rattle.agc_machine.specs.State.{State}
use Rattle.agc_machine.specs.declared.answer.Stepped.{Stepped}
use Rattle.agc_machine.specs.declared.answer.Stop.{Stop}
use Rattle.agc_trace.specs.Trace.{entries_left}
use Rattle.agc_io.proofs.Begun.{any_err}
use Rattle.agc_timeline.proofs.OneByOne.{last_reported, nothing_reported, past_reported, state_begun, state_reported}
use Rattle.agc_timeline.proofs.States.{fewer_states}
use Rattle.agc_timeline.proofs.watching.write_in_span.Goals as goal

-- whether a machine has stopped, by what was asked of it
stopped_by : (b has : Bool) (o : Option Stop) (s : State) → o ≡ s.stopped → has ≡ is_some o → has ≡ b → is_some s.stopped ≡ b
stopped_by b has o s e f h = ap is_some (sym e) ∙ sym f ∙ h

-- the state that a step leaves
stepped_to : (s t : State) (answer : Stepped) → (t, answer) ≡ boundary None s → t ≡ (boundary None s).0
stepped_to s t answer e = ap (λ (r : State × Stepped). r.0) e

fewer_after : (s t : State) → t ≡ (boundary None s).0 → is_some s.stopped ≡ false → entries_left t < entries_left s
fewer_after s t e f = subst (λ (u : State). entries_left u < entries_left s) (sym e) (fewer_states s f)

pub loop-alloc-init : goal.loop-alloc-init
loop-alloc-init g c = nothing_reported c.args.names.now c.args.span c.args.spec.now _ _ _ c.nothing-shown.ensures

pub returns-then-is_some-clause-lines : goal.returns-then-is_some-clause-lines
returns-then-is_some-clause-lines g c =
    last_reported c.args.names.now c.args.span c.args.spec.now _ _ _ _ _ _
    (stopped_by _ c.is_some.result _ c.loop-alloc.machine c.stopped.ensures c.is_some.ensures c.if-is_some.true)
    c.loop-alloc.invariant c.in_ok-write_state.ensures.lines

pub loop-alloc-smaller : goal.loop-alloc-smaller
loop-alloc-smaller g c =
    fewer_after c.loop-alloc.machine _ (stepped_to c.loop-alloc.machine _ c.step.result c.step.ensures.boundary)
    (stopped_by _ c.is_some.result _ c.loop-alloc.machine c.stopped.ensures c.is_some.ensures c.if-is_some.false)

pub loop-alloc-preserved : goal.loop-alloc-preserved
loop-alloc-preserved g c =
    state_reported c.args.names.now c.args.span c.args.spec.now _ _ _ _ _ c.loop-alloc.machine _ _
    (stopped_by _ c.is_some.result _ c.loop-alloc.machine c.stopped.ensures c.is_some.ensures c.if-is_some.false)
    (stepped_to c.loop-alloc.machine _ c.step.result c.step.ensures.boundary)
    c.loop-alloc.invariant c.in_ok-write_state.ensures.lines c.in_ok-write_state.ensures.shown

pub returns-clause-lines : goal.returns-clause-lines
returns-clause-lines g c =
    past_reported c.args.names.now c.args.span c.args.spec.now _ _ _ _ _ (omega (arith, c.cycle.ensures.cycle, c.loop-alloc-test.false)) c.loop-alloc.invariant

pub returns-in_err-write_state-clause-cut : goal.returns-in_err-write_state-clause-cut
returns-in_err-write_state-clause-cut g c =
    any_err _ (state_begun c.args.names.now c.args.span c.args.spec.now _ _ _ _ c.loop-alloc.machine _ c.loop-alloc.invariant c.in_err-write_state.ensures.cut)
