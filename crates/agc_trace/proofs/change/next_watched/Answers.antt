use Rattle.std.proofs.Common.{List, ap, ◌∙◌}
use Rattle.agc_store.specs.Memory.{Memory, erasable_bank}
use Rattle.agc_trace.specs.Touched.{is_away, touched_by}
use Rattle.agc_listing.specs.declared.location_range.LocationRange.{LocationRange}
use Rattle.agc_trace.proofs.Away.{none_found, seen_found, watched_found}
use Rattle.agc_trace.proofs.change.next_watched.Goals as goal

pub look-requires : goal.look-requires
look-requires c holds =
    none_found c.args.selection.now.cells.items _ _ _ c.next_recorded.result.entry _ _ _ c.requires (c.erasable_bank-bank.ensures.bank ∙ ap (λ (m : Memory). erasable_bank m.erasable) c.store.ensures) c.next_recorded.ensures.entry c.next_recorded.ensures.after c.store-2.ensures (c.is_away-stays.ensures ∙ ap (λ (several : List LocationRange). is_away several (touched_by c.erasable_bank-bank.result c.next_recorded.result.entry.happening)) c.as_slice.ensures.value) holds

pub returns-clause-watched : goal.returns-clause-watched
returns-clause-watched c =
    watched_found _ _ _ _ c.next_recorded.result.entry _ _ _ c.next_recorded.ensures.entry c.next_recorded.ensures.operand c.next_recorded.ensures.after c.requires c.in_ok-look.ensures.changes c.store-2.ensures

pub returns-clause-seen : goal.returns-clause-seen
returns-clause-seen c = seen_found _ c.args.machine.now.processor.store _ _ _ _ c.requires c.in_ok-look.ensures.seen c.store-2.ensures
