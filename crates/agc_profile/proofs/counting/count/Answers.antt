use Rattle.std.proofs.Common.{sym, ap, subst, ◌∙◌, arith, refl}
use Rattle.std.specs.Prelude.{not}
use Rattle.agc_profile.specs.Sums.{AddsUp}
use Rattle.agc_profile.specs.declared.profile.Profile.{Profile}
use Rattle.agc_profile.specs.declared.tally.Tally.{Tally}
use Rattle.agc_profile.proofs.Left.{counted_after, counted_all, fewer_after, none_at_stop, none_past, rope_stays, starts}
use Rattle.agc_profile.proofs.Room.{no_more, none_taken, room_for_one, room_left}
use Rattle.agc_profile.proofs.Sums.{law_of, none_add_up, one_adds_up}
use Rattle.agc_profile.proofs.counting.count.Goals as goal

pub loop-span-init : goal.loop-span-init
loop-span-init g c = (
  starts c.args.span _ c.at_start-mode.result _ c.in_ok-counts.ensures c.at_start-mode.ensures,
  refl,
  none_add_up c.in_ok-counts.counts c.in_ok-counts.ensures,
  omega (arith, ap (λ (t : Tally). t.cycles) (none_taken c.in_ok-counts.counts c.in_ok-counts.ensures)),
  omega (arith, ap (λ (t : Tally). t.times) (none_taken c.in_ok-counts.counts c.in_ok-counts.ensures), c.has_room.ensures),
)

pub take_next-requires-clause-times : goal.take_next-requires-clause-times
take_next-requires-clause-times g c = room_for_one c.loop-span.machine c.loop-span.counts c.loop-span.invariant.4

pub returns-then-not-goes_on-clause-counts : goal.returns-then-not-goes_on-clause-counts
returns-then-not-goes_on-clause-counts g c =
    let stopped = c.in_ok-goes_on.ensures.goes_on ∙ ap not c.if-not-goes_on.true in
    c.in_ok-goes_on.ensures.stop stopped
    ∙ counted_all c.args.span c.loop-span.mode c.loop-span.machine c.loop-span.counts _ (none_at_stop c.args.span c.loop-span.mode c.loop-span.machine stopped)
    c.loop-span.invariant.0

pub returns-then-not-goes_on-clause-rope : goal.returns-then-not-goes_on-clause-rope
returns-then-not-goes_on-clause-rope g c = rope_stays _ _ _ c.take_next.ensures.after c.loop-span.invariant.1

pub returns-then-not-goes_on-clause-law : goal.returns-then-not-goes_on-clause-law
returns-then-not-goes_on-clause-law g c =
    let stopped = c.in_ok-goes_on.ensures.goes_on ∙ ap not c.if-not-goes_on.true in
    law_of c.take_next.new.counts (subst (λ (d : Profile). AddsUp d) (sym (c.in_ok-goes_on.ensures.stop stopped)) c.loop-span.invariant.2)

pub loop-span-smaller : goal.loop-span-smaller
loop-span-smaller g c =
    fewer_after c.loop-span.machine _ c.take_next.ensures.after (c.in_ok-goes_on.ensures.goes_on ∙ ap not c.if-not-goes_on.false)

pub loop-span-preserved : goal.loop-span-preserved
loop-span-preserved g c =
    let runs = c.in_ok-goes_on.ensures.goes_on ∙ ap not c.if-not-goes_on.false in
    let after = c.take_next.ensures.after in
    let more = c.in_ok-goes_on.ensures.counts runs in (
      counted_after c.args.span c.loop-span.mode _ c.loop-span.machine _ c.loop-span.counts _ after runs c.in_ok-goes_on.ensures.mode more ∙ c.loop-span.invariant.0,
      rope_stays _ _ _ after c.loop-span.invariant.1,
      one_adds_up c.args.span c.loop-span.mode c.loop-span.machine c.loop-span.counts _ c.take_next.ensures.placed more c.loop-span.invariant.2,
      no_more c.args.span c.loop-span.mode c.loop-span.machine _ c.loop-span.counts _ after more c.loop-span.invariant.3,
      room_left c.args.span c.loop-span.mode c.loop-span.machine _ c.loop-span.counts _ (fewer_after c.loop-span.machine _ after runs) more c.loop-span.invariant.4,
    )

pub returns-clause-counts : goal.returns-clause-counts
returns-clause-counts g c =
    counted_all c.args.span c.loop-span.mode c.loop-span.machine c.loop-span.counts _
    (none_past c.args.span c.loop-span.mode c.loop-span.machine (omega (arith, c.cycle.ensures.cycle, c.loop-span-test.false)))
    c.loop-span.invariant.0

pub returns-clause-law : goal.returns-clause-law
returns-clause-law g c = law_of c.loop-span.counts c.loop-span.invariant.2
