use Rattle.std.proofs.Common.{◌∷◌, ◌+◌, drop, ap, sym, ◌∙◌}
use Rattle.std.proofs.lemmas.List.{drop_all, drop_more}
use Rattle.std.specs.declared.alloc.Global.{Global}
use Rattle.std.specs.declared.string.String.{String}
use Rattle.agc_study_args.proofs.Resolved.{mistake_of, next_resolved, next_unresolved, no_text_left}
use Rattle.agc_study_args.proofs.locations.push_resolved.Goals as goal

pub returns-in-Err-clause-unresolved : goal.returns-in-Err-clause-unresolved
returns-in-Err-clause-unresolved c =
    let texts = c.args.texts.now in
    let at = c.loop-text.text-index in
    let text = c.text-item.result in
    let next = drop_more texts at text c.loop-text-test.true ∙ ap (λ (one : String Global). one ∷ drop (at + 1) texts) (sym c.text-item.is) in
    let what = rw (c.as_slice.ensures.value, c.in_ok-whole.ensures, c.as_bytes.ensures.value) at c.resolve.ensures in
    let found = sym what ∙ c.in-Err.is in
    let line = rw c.as_str.ensures.value at c.unresolved.ensures in
    mistake_of _ _ _ (sym c.loop-text.invariant ∙ next_unresolved _ _ _ _ _ _ _ _ next found) line

pub loop-text-preserved : goal.loop-text-preserved
loop-text-preserved c =
    let texts = c.args.texts.now in
    let at = c.loop-text.text-index in
    let text = c.text-item.result in
    let next = drop_more texts at text c.loop-text-test.true ∙ ap (λ (one : String Global). one ∷ drop (at + 1) texts) (sym c.text-item.is) in
    let what = rw (c.as_slice.ensures.value, c.in_ok-whole.ensures, c.as_bytes.ensures.value) at c.resolve.ensures in
    let found = sym what ∙ c.in-Ok.is in
    rw c.in_ok-push_places-in-Ok.ensures (sym (next_resolved _ _ _ _ _ _ _ _ next found) ∙ c.loop-text.invariant)

pub returns-clause-resolved : goal.returns-clause-resolved
returns-clause-resolved c = sym c.loop-text.invariant ∙ no_text_left _ _ _ _ _ (drop_all _ _ c.loop-text-test.false)
