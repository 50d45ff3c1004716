use Rattle.std.proofs.Common.{sym}
use Rattle.agc_check.proofs.VectorTexts.{no_vectors, vectors_more}
use Rattle.agc_check.proofs.vectors.push_empty_vectors.Goals as goal

pub loop-index-init : goal.loop-index-init
loop-index-init c = sym (no_vectors c.args.store.now.fixed _)

pub loop-index-preserved : goal.loop-index-preserved
loop-index-preserved c = vectors_more c.args.store.now.fixed c.loop-index.index _ _ _ c.loop-index.invariant c.in_ok-push_vector.ensures
