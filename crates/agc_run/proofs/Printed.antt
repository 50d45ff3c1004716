-- The report of a run is what the run left.
use Rattle.std.proofs.Common.{◌≡◌, ◌⊎◌, inl, inr, ℕ, List, ◌++◌, ◌∙◌, Bool, true, false, subst, sym, refl}
use Rattle.agc_word.specs.Number.{Number}
use Rattle.std.specs.Prelude.{Option, None, Some, IfSome, IfOk, IfErr, Result, Ok, Err, string_bytes}
use Rattle.std.specs.declared.alloc.Global.{Global}
use Rattle.std.specs.declared.string.String.{String}
use Rattle.agc_store.specs.RopeFile.{rope_words}
use Rattle.agc_script.specs.Parse.{script_of}
use Rattle.agc_script.specs.declared.event.Event.{Event}
use Rattle.agc_script.specs.declared.key.Key.{Key}
use Rattle.agc_machine.specs.State.{State, start_state}
use Rattle.agc_run.specs.Report.{IsLiveReport}
use Rattle.agc_run.specs.Print.{report_text}
use Rattle.agc_run.specs.Entry.{IsAnswered, IsKeysReport, IsReported, IsReportWhere, IsRunReport, IsSessionReport, machine_of, session_steps}
use Rattle.agc_load.specs.Steps.{ComesOf}
use Rattle.agc_load.specs.Files.{Files, events_in, files_of, given_files, keys_steps, keys_steps_where, rope_steps, script_steps}
use Rattle.agc_load.specs.Options.{parsed_by}
use Rattle.agc_load.specs.Prepare.{run_steps, start_steps}
use Rattle.agc_load.specs.Steps.{IsOutcome, refusal_in}
use Rattle.agc_load.specs.Keys.{keys_of}
use Rattle.agc_machine.specs.StopAddress.{stop_address_of}
use Rattle.agc_cli.specs.declared.session_options.Options.{Options}
use Rattle.agc_load.specs.declared.fault.LoadFault.{LoadFault}
use Rattle.agc_run.specs.declared.report.Report.{Report}
use Rattle.agc_load.specs.declared.fault.LoadFault.TheVariants as refusal
use Rattle.agc_panel.specs.declared.watch_spec.WatchFault.TheVariants as watch
use Rattle.agc_run.proofs.Refused.{at_last, at_memory, at_tables, keys_are_read}

-- the machine made from both files and the options, and the result of its run

module _ (options : Options) (words : List Number) (events : List Event) (machine : State)
    (made : machine ≡ start_state words events options.limit (parsed_by stop_address_of options.until))
    (checked : refusal_in (start_steps options.until options.watch options.limit) ≡ None) where
  machine_made : (rope script keys : List ℕ) → words ≡ rope_words options.form rope → events ≡ events_in (script_of script)
      → machine ≡ machine_of options (record { rope = rope; script = script; keys = keys })
  unfolding machine_of
  machine_made rope script keys k l = made ∙ rw (k, l) refl

  comes_where : (live : Bool) (rope script keys : List ℕ) (result : Result Report LoadFault) → options.live ≡ live
      → words ≡ rope_words options.form rope → events ≡ events_in (script_of script)
      → refusal_in (rope_steps options.form rope) ≡ None → refusal_in (script_steps script) ≡ None
      → ComesOf (keys_steps_where live keys ++ run_steps options)
      (IsReportWhere live options (record { rope = rope; script = script; keys = keys }) machine) result
      → IsReported options result (record { rope = rope; script = script; keys = keys })
  comes_where live rope script keys result is k l m n h =
      let files : Files = record { rope = rope; script = script; keys = keys } in
      at_last options files (IsSessionReport options files) result m n checked
      (subst (λ (s : State). ComesOf (keys_steps_where options.live keys ++ run_steps options) (IsReportWhere options.live options files s) result)
      (machine_made rope script keys k l)
      (subst (λ (there : Bool). ComesOf (keys_steps_where there keys ++ run_steps options) (IsReportWhere there options files machine) result) (sym is) h))

  -- the same if the readers' bytes are known; if not, nothing is claimed

  pub plain_known : (rope script keys : Option (List ℕ)) (result : Result Report LoadFault) → options.live ≡ false
      → IfSome rope (λ file. words ≡ rope_words options.form file) → IfSome script (λ file. events ≡ events_in (script_of file))
      → IfSome rope (λ file. refusal_in (rope_steps options.form file) ≡ None) → IfSome script (λ file. refusal_in (script_steps file) ≡ None)
      → ComesOf (run_steps options) (IsRunReport options machine) result → IfSome (files_of rope script keys) (IsReported options result)
  plain_known None script keys result is k l m n h = tt
  plain_known (Some a) None keys result is k l m n h = tt
  plain_known (Some a) (Some b) None result is k l m n h = tt
  plain_known (Some a) (Some b) (Some c) result is k l m n h = comes_where false a b c result is k l m n h

  live_reported : (rope script keys : Option (List ℕ)) (result : Result Report LoadFault) → options.live ≡ true
      → IfSome rope (λ file. words ≡ rope_words options.form file) → IfSome script (λ file. events ≡ events_in (script_of file))
      → IfSome rope (λ file. refusal_in (rope_steps options.form file) ≡ None) → IfSome script (λ file. refusal_in (script_steps file) ≡ None)
      → IfSome keys (λ file. ComesOf (keys_steps file ++ run_steps options) (IsKeysReport options machine file) result)
      → IfSome (files_of rope script keys) (IsReported options result)
  live_reported None script keys result is k l m n h = tt
  live_reported (Some a) None keys result is k l m n h = tt
  live_reported (Some a) (Some b) None result is k l m n h = tt
  live_reported (Some a) (Some b) (Some c) result is k l m n h = comes_where true a b c result is k l m n h

  pub live_known : (rope script keys : Option (List ℕ)) (result : Result Report LoadFault) → options.live ≡ true
      → IfSome rope (λ file. words ≡ rope_words options.form file) → IfSome script (λ file. events ≡ events_in (script_of file))
      → IfSome rope (λ file. refusal_in (rope_steps options.form file) ≡ None) → IfSome script (λ file. refusal_in (script_steps file) ≡ None)
      → IfSome keys (λ file. ComesOf (keys_steps file ++ run_steps options) (IsKeysReport options machine file) result)
      → IfSome (given_files options rope script keys) (IsReported options result)
  live_known rope script keys result is k l m n h = rw (keys_are_read options keys is) (live_reported rope script keys result is k l m n h)

-- the live keys of a text that was read
pub with_keys : (options : Options) (machine : State) (known : Option (List ℕ)) (keys : List Key) (result : Result Report LoadFault)
    → refusal_in (run_steps options) ≡ None → IfSome known (λ file. keys_of file ≡ Some keys)
    → IfOk result (IsLiveReport options machine keys) → IfErr result (IsOutcome (run_steps options))
    → IfSome known (λ file. ComesOf (run_steps options) (IsKeysReport options machine file) result)
with_keys options machine None keys result none is right reported = tt
with_keys options machine (Some file) keys (Ok report) none is right reported = (none, (keys, is, right))
with_keys options machine (Some file) keys (Err r) none is right reported = reported

-- the result of printing a report

print_reported : (options : Options) (files : Files) (r : LoadFault) → refusal_in (session_steps options files) ≡ None
    → (r ≡ refusal.Memory) ⊎ (r ≡ refusal.Watch watch.Memory) → IsOutcome (session_steps options files) r
print_reported options files r none (inl is) = rw is (at_memory options files)
print_reported options files r none (inr is) = rw is (at_tables options files none)

pub answered_known : (known : Option Files) (options : Options) (report : Report) (result : Result (String Global) LoadFault)
    → IfOk result (λ text. string_bytes text ≡ report_text report) → IfErr result (λ r. (r ≡ refusal.Memory) ⊎ (r ≡ refusal.Watch watch.Memory))
    → IfSome known (IsReported options (Ok report)) → IfSome known (IsAnswered options result)
answered_known None options report result text memory h = tt
answered_known (Some files) options report (Ok text) is memory h = (h.0, (report, h.1, is))
answered_known (Some files) options report (Err r) text is h = print_reported options files r h.0 is
