-- A machine whose tables are watched: each step that rejects it reports a fault that may be reported; otherwise the
-- text of `--watch` names tables that can be watched.
use Rattle.std.proofs.Common.{◌≡◌, [], ◌∷◌, ap, sym, ◌∙◌, refl}
use Rattle.std.specs.Prelude.{Option, None, Some, option_map}
use Rattle.std.specs.declared.alloc.Global.{Global}
use Rattle.std.specs.declared.string.String.{String}
use Rattle.agc_panel.specs.WatchSpec.{spec_of, watch_fault_of}
use Rattle.agc_panel.specs.declared.watch_spec.WatchFault.{WatchFault}
use Rattle.agc_panel.specs.declared.watch_spec.WatchSpec.{WatchSpec}
use Rattle.agc_load.proofs.Reported.{none_in_both, reported_first, reported_found, reported_later}
use Rattle.agc_load.specs.Options.{parsed_by, says_nothing}
use Rattle.agc_load.specs.Prepare.{limit_refusal, start_steps, tables_refusal, until_refusal, watch_spec_refusal}
use Rattle.agc_load.specs.Steps.{IsOutcome, checks, refusal_in, refused_if}
use Rattle.agc_load.specs.declared.fault.LoadFault.{LoadFault}
use Rattle.agc_load.specs.declared.fault.LoadFault.TheVariants as refusal
use Rattle.agc_study_args.specs.declared.args.RunOptions.{RunOptions}
use Rattle.agc_study_args.specs.Started.{AreWatched, watched_steps}

no_fault : (fault : Option WatchFault) → option_map refusal.Watch fault ≡ None → fault ≡ None
no_fault None h = refl
no_fault (Some fault) h = cc

-- if none of three checks rejects, the second does not
second_sound : (limit watch until : Option LoadFault) → refusal_in (checks limit ∷ checks watch ∷ checks until ∷ []) ≡ None → watch ≡ None
second_sound (Some r) watch until none = cc
second_sound None (Some r) until none = cc
second_sound None None until none = refl

watched : (watch : Option (String Global)) (tables : Option WatchSpec) → watch_spec_refusal watch ≡ None → tables ≡ parsed_by spec_of watch
    → tables_refusal tables ≡ None → AreWatched watch tables
unfolding watch_spec_refusal tables_refusal
watched None tables text is places = is
watched (Some watch) None text is places =
    let bad : Some refusal.BadWatchSpec ≡ None =
    ap (λ (tables : Option WatchSpec). refused_if (says_nothing (λ _. tables) (Some watch)) refusal.BadWatchSpec) is ∙ text
    in cc
watched (Some watch) (Some spec) text is places = record { read = sym is; sound = no_fault (watch_fault_of spec) places }

module _ (options : RunOptions) (watch : Option (String Global)) (tables : Option WatchSpec) (is : tables ≡ parsed_by spec_of watch)
    (none : refusal_in (start_steps options.until watch options.limit) ≡ None) where
  pub none_refused : tables_refusal tables ≡ None → refusal_in (watched_steps options watch) ≡ None
  unfolding watched_steps
  none_refused h = none_in_both (start_steps options.until watch options.limit) _ none (rw (ap tables_refusal (sym is) ∙ h) refl)

  pub tables_refused : (r : LoadFault) → tables_refusal tables ≡ Some r → IsOutcome (watched_steps options watch) r
  unfolding watched_steps
  tables_refused r h = reported_later (start_steps options.until watch options.limit) _ r none (rw (ap tables_refusal (sym is) ∙ h) refl)

  pub are_watched : tables_refusal tables ≡ None → AreWatched watch tables
  unfolding start_steps
  are_watched h = watched watch tables (second_sound (limit_refusal options.limit) (watch_spec_refusal watch) (until_refusal options.until) none) is h

pub start_refused : (options : RunOptions) (watch : Option (String Global)) (r : LoadFault) → refusal_in (start_steps options.until watch options.limit) ≡ Some r
    → IsOutcome (watched_steps options watch) r
unfolding watched_steps
start_refused options watch r h = reported_first (start_steps options.until watch options.limit) _ r (reported_found (start_steps options.until watch options.limit) r h)
