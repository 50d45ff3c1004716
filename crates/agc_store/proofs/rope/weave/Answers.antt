use Rattle.std.proofs.Common.{◌≡◌, ap, ◌∙◌, arith}
use Rattle.agc_store.specs.RopeFile.{first_words}
use Rattle.agc_store.proofs.RopeWords.{resized_words}
use Rattle.agc_store.proofs.rope.weave.Goals as goal

pub returns : goal.returns
returns c =
    let done : c.loop-place.place ≡ c.args.words = omega arith in
    resized_words c.args.form c.args.bytes.now c.loop-place.woven.items c.resize.new.self.items c.loop-place.woven.len c.args.words c.args.places (omega arith) c.requires.places
    (c.loop-place.invariant ∙ ap (λ n. first_words n c.args.form c.args.bytes.now) done)
    c.in_ok-resize.ensures.items
