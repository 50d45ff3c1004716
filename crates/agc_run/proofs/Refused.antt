-- Each place at which a run is refused returns a refusal that is allowed there.
use Rattle.std.proofs.Common.{◌≡◌, ◌⊎◌, ℕ, List, ◌∷◌, ◌++◌, true, refl, inl, inr}
use Rattle.std.specs.Prelude.{Option, None, Some, IfSome, Result}
use Rattle.agc_panel.specs.WatchSpec.{spec_of}
use Rattle.agc_panel.specs.declared.watch_spec.WatchFault.TheVariants as watch
use Rattle.agc_load.proofs.Reported.{comes_later, none_first, none_later, reported_first, reported_later, reported_found}
use Rattle.agc_run.specs.Entry.{session_steps}
use Rattle.agc_load.specs.Steps.{ComesOf}
use Rattle.agc_load.specs.Files.{Files, files_of, keys_read, rope_steps, script_steps, keys_steps_where}
use Rattle.agc_load.specs.Options.{parsed_by}
use Rattle.agc_load.specs.Prepare.{run_steps, slots_refusal, spacing_refusal, start_steps, tables_refusal}
use Rattle.agc_load.specs.Steps.{Step, checks, requires_resource, IsOutcome, refusal_in}
use Rattle.agc_cli.specs.declared.session_options.Options.{Options}
use Rattle.agc_load.specs.declared.fault.LoadFault.{LoadFault}
use Rattle.agc_load.specs.declared.fault.LoadFault.TheVariants as refusal

-- the refusals of a run whose options were accepted
pub run_reported : (options : Options) (r : LoadFault) → slots_refusal options.slots ≡ None → spacing_refusal options.live options.spacing ≡ None
    → tables_refusal (parsed_by spec_of options.watch) ≡ None → (r ≡ refusal.Thread) ⊎ (r ≡ refusal.Memory) → IsOutcome (run_steps options) r
unfolding run_steps
run_reported options r slots spacing tables (inl is) = rw (slots, spacing) (inl is)
run_reported options r slots spacing tables (inr is) = rw (slots, spacing, tables) (inr (inl is))

-- and after the run, when it is printed
tables_reported : (slots spacing tables : Option LoadFault) (later : List Step)
    → refusal_in (checks slots ∷ checks spacing ∷ requires_resource refusal.Thread ∷ checks tables ∷ requires_resource refusal.Memory ∷ later) ≡ None
    → IsOutcome later (refusal.Watch watch.Memory)
    → IsOutcome (checks slots ∷ checks spacing ∷ requires_resource refusal.Thread ∷ checks tables ∷ requires_resource refusal.Memory ∷ later) (refusal.Watch watch.Memory)
tables_reported (Some r) spacing tables later none h = cc
tables_reported None (Some r) tables later none h = cc
tables_reported None None (Some r) later none h = cc
tables_reported None None None later none h = inr (inr h)

printing_reported : (options : Options) → refusal_in (run_steps options) ≡ None → IsOutcome (run_steps options) (refusal.Watch watch.Memory)
unfolding run_steps
printing_reported options none =
    tables_reported (slots_refusal options.slots) (spacing_refusal options.live options.spacing) (tables_refusal (parsed_by spec_of options.watch)) _ none (inl refl)

-- ---- the whole session

module _ (options : Options) (files : Files) where
  abbrev at_start : List Step
  at_start = rope_steps options.form files.rope

  abbrev next : List Step
  next = script_steps files.script

  abbrev then : List Step
  then = start_steps options.until options.watch options.limit

  abbrev last : List Step
  last = keys_steps_where options.live files.keys ++ run_steps options

  at_rope : (r : LoadFault) → IsOutcome at_start r → IsOutcome (session_steps options files) r
  unfolding session_steps
  at_rope r h = reported_first at_start (next ++ (then ++ last)) r h

  at_script : (r : LoadFault) → refusal_in at_start ≡ None → IsOutcome next r → IsOutcome (session_steps options files) r
  unfolding session_steps
  at_script r rope h = reported_later at_start (next ++ (then ++ last)) r rope (reported_first next (then ++ last) r h)

  at_machine : (r : LoadFault) → refusal_in at_start ≡ None → refusal_in next ≡ None → IsOutcome then r → IsOutcome (session_steps options files) r
  unfolding session_steps
  at_machine r rope script h =
      reported_later at_start (next ++ (then ++ last)) r rope (reported_later next (then ++ last) r script (reported_first then last r h))

  -- the result of the last steps is the result of all, if none of those before refuses
  pub at_last : {A : Type 0} (IsRight : A → Type 0) (result : Result A LoadFault) → refusal_in at_start ≡ None → refusal_in next ≡ None
      → refusal_in then ≡ None → ComesOf last IsRight result → ComesOf (session_steps options files) IsRight result
  unfolding session_steps
  at_last IsRight result rope script machine h =
      comes_later IsRight at_start (next ++ (then ++ last)) result rope
      (comes_later IsRight next (then ++ last) result script (comes_later IsRight then last result machine h))

  -- the watcher may be out of memory at the end
  pub at_tables : refusal_in (session_steps options files) ≡ None → IsOutcome (session_steps options files) (refusal.Watch watch.Memory)
  unfolding session_steps
  at_tables none =
      let none_then = none_later at_start (next ++ (then ++ last)) none in
      let none_last = none_later next (then ++ last) none_then in
      let none_keys = none_later then last none_last in
      let keys = keys_steps_where options.live files.keys in
      let r = refusal.Watch watch.Memory in
      reported_later at_start (next ++ (then ++ last)) r (none_first at_start (next ++ (then ++ last)) none)
      (reported_later next (then ++ last) r (none_first next (then ++ last) none_then)
      (reported_later then last r (none_first then last none_last)
      (reported_later keys (run_steps options) r (none_first keys (run_steps options) none_keys)
      (printing_reported options (none_later keys (run_steps options) none_keys)))))

  -- a run may be out of memory from the first read on
  pub at_memory : IsOutcome (session_steps options files) refusal.Memory
  unfolding session_steps rope_steps
  at_memory = inr (inl refl)

-- the same if the readers' bytes are known; if not, nothing is claimed

module _ (options : Options) where
  pub rope_known : (rope script keys : Option (List ℕ)) (r : LoadFault) → IfSome rope (λ file. IsOutcome (rope_steps options.form file) r)
      → IfSome (files_of rope script keys) (λ files. IsOutcome (session_steps options files) r)
  rope_known None script keys r h = tt
  rope_known (Some a) None keys r h = tt
  rope_known (Some a) (Some b) None r h = tt
  rope_known (Some a) (Some b) (Some c) r h = at_rope options _ r h

  pub script_known : (rope script keys : Option (List ℕ)) (r : LoadFault) → IfSome rope (λ file. refusal_in (rope_steps options.form file) ≡ None)
      → IfSome script (λ file. IsOutcome (script_steps file) r) → IfSome (files_of rope script keys) (λ files. IsOutcome (session_steps options files) r)
  script_known None script keys r k h = tt
  script_known (Some a) None keys r k h = tt
  script_known (Some a) (Some b) None r k h = tt
  script_known (Some a) (Some b) (Some c) r k h = at_script options _ r k h

  pub machine_known : (rope script keys : Option (List ℕ)) (r : LoadFault) → IfSome rope (λ file. refusal_in (rope_steps options.form file) ≡ None)
      → IfSome script (λ file. refusal_in (script_steps file) ≡ None) → refusal_in (start_steps options.until options.watch options.limit) ≡ Some r
      → IfSome (files_of rope script keys) (λ files. IsOutcome (session_steps options files) r)
  machine_known None script keys r k l h = tt
  machine_known (Some a) None keys r k l h = tt
  machine_known (Some a) (Some b) None r k l h = tt
  machine_known (Some a) (Some b) (Some c) r k l h = at_machine options _ r k l (reported_found (start_steps options.until options.watch options.limit) r h)

  pub keys_are_read : (keys : Option (List ℕ)) → options.live ≡ true → keys_read options.live keys ≡ keys
  keys_are_read keys live = rw live refl
