use Rattle.std.proofs.Common.{[], refl, sym, ◌∙◌}
use Rattle.std.proofs.KnownBytes.{Appends-nil}
use Rattle.agc_io.proofs.Begun.{any_err, begun_by_part, front_written, none_more, whole_written}
use Rattle.agc_io.proofs.output.write_in_full.Goals as goal

pub loop-turn-init : goal.loop-turn-init
loop-turn-init g c = ([], Appends-nil _, refl)

pub returns-then-is_empty-clause-written : goal.returns-then-is_empty-clause-written
returns-then-is_empty-clause-written g c = whole_written _ _ _ _ (sym c.is_empty.ensures ∙ c.if-is_empty.true) c.loop-turn.invariant

pub returns-in_err-count-clause-begun : goal.returns-in_err-count-clause-begun
returns-in_err-count-clause-begun g c = any_err _ (begun_by_part _ _ _ _ (none_more _ _ _ _ _ c.loop-turn.invariant c.in_err-count.ensures.bytes))

pub loop-turn-preserved : goal.loop-turn-preserved
loop-turn-preserved g c = front_written _ _ _ _ _ _ c.loop-turn.invariant c.in_ok-count.ensures.bytes

pub returns-clause-begun : goal.returns-clause-begun
returns-clause-begun g c = begun_by_part _ _ _ _ c.loop-turn.invariant
