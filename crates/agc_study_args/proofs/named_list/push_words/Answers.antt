use Rattle.std.proofs.Common.{◌∙◌, sym}
use Rattle.agc_listing.proofs.RopeLines.{extracode_first, extracode_next}
use Rattle.agc_study_args.proofs.NamedLines.{no_lines, text_more}
use Rattle.agc_study_args.proofs.named_list.push_words.Goals as goal

pub loop-place-init : goal.loop-place-init
loop-place-init c = (sym (no_lines c.args.names.now c.args.channels.now c.args.bank c.args.store.now.fixed _), extracode_first c.args.store.now.fixed)

pub loop-place-preserved : goal.loop-place-preserved
loop-place-preserved c =
    let extracode = c.leads_on-extracode.ensures ∙ c.loop-place.invariant.1 in (
      text_more c.args.names.now c.args.channels.now c.args.bank c.args.store.now.fixed c.loop-place.place c.leads_on-extracode.result c.fixed_at-word.result _ _ _ extracode c.fixed_at-word.ensures c.loop-place.invariant.0 c.in_ok-push_listed.ensures,
      extracode_next c.args.store.now.fixed c.loop-place.place c.leads_on-extracode.result c.next_is_extracode-leads.result c.fixed_at-word.result extracode c.fixed_at-word.ensures c.next_is_extracode-leads.ensures,
    )
