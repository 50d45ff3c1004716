use Rattle.std.proofs.Common.{◌∙◌, sym}
use Rattle.agc_listing.proofs.Woven.{woven_none, woven_more}
use Rattle.agc_listing.proofs.build.file_of.Goals as goal

pub loop-named-init : goal.loop-named-init
loop-named-init c = c.in_ok-bytes.ensures.items ∙ woven_none c.args.form

pub loop-named-preserved : goal.loop-named-preserved
loop-named-preserved c =
    let more = woven_more c.args.form c.args.words.now c.loop-named.named-index c.named-item.result c.loop-named-test.true in
    let here = rw (← c.named-item.is) at more in
    c.in_ok-put_word.ensures ∙ (rw c.loop-named.invariant (sym here))
