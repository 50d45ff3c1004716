use Rattle.std.proofs.Common.{rules}
use Rattle.std.proofs.lemmas.Result.{err_from_is_err_and}
use Rattle.agc_listing.specs.Weave.{IsWovenOf}
use Rattle.agc_listing.proofs.Listings.{no_fault, rope_of_listing}
use Rattle.agc_listing.proofs.build.weave.Goals as goal

pub returns-in_err-builder-clause-listing : goal.returns-in_err-builder-clause-listing
returns-in_err-builder-clause-listing c = λ words are listed.
    let left = err_from_is_err_and c.from_residual.result c.from_residual.ensures.1 in
    rw (left.1, left.2) (no_fault c.args.text.now words c.in_err-builder.field-0.0 c.in_err-builder.ensures.fault are listed)

pub returns-in-Ok-clause-listing : goal.returns-in-Ok-clause-listing
returns-in-Ok-clause-listing c = λ words are listed.
    let woven : IsWovenOf c.args.form c.args.text.now c.in-Ok.bytes.items = search rules in
    rope_of_listing c.args.form c.args.text.now c.in-Ok.bytes.items words woven are listed
