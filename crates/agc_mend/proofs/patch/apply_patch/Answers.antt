use Rattle.agc_mend.proofs.Patched.{is_patched}
use Rattle.agc_mend.proofs.patch.apply_patch.Goals as goal

pub returns-in-Ok-clause-patched : goal.returns-in-Ok-clause-patched
returns-in-Ok-clause-patched c =
    let patch = is_patched c.args.form c.in_ok-patch.patch c.args.words.now in
    (c.in_ok-patch.patch, c.in_ok-patch.ensures.words, rw (c.in-Ok.ensures, c.words.ensures.words) patch)
