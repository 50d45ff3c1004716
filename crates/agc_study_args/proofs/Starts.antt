-- From two files to the machine at its start: each step that rejects them reports a fault that may be reported.
use Rattle.std.proofs.Common.{◌≡◌, ℕ, List, length, ◌++◌, ap, ◌∙◌, refl}
use Rattle.std.specs.Prelude.{Option, None, Some, IfSome, IfOk, IfErr, OnOk, Result, Ok, Err}
use Rattle.std.specs.declared.alloc.Global.{Global}
use Rattle.std.specs.declared.string.String.{String}
use Rattle.agc_word.specs.Number.{Number}
use Rattle.agc_store.specs.RopeFile.{rope_words}
use Rattle.agc_store.specs.declared.rope_file.RopeForm.{RopeForm}
use Rattle.agc_study_args.specs.declared.args.RunOptions.{RunOptions}
use Rattle.agc_script.specs.Parse.{script_of}
use Rattle.agc_script.specs.declared.event.Event.{Event}
use Rattle.agc_machine.specs.State.{State, start_state}
use Rattle.agc_machine.specs.StopAddress.{stop_address_of}
use Rattle.agc_load.proofs.Reported.{none_in_both, reported_first, reported_later}
use Rattle.agc_load.specs.Steps.{ComesOf}
use Rattle.agc_load.specs.Files.{events_in, script_steps}
use Rattle.agc_load.specs.Options.{parsed_by}
use Rattle.agc_load.specs.Steps.{IsOutcome, refusal_in}
use Rattle.agc_load.specs.declared.fault.LoadFault.{LoadFault}
use Rattle.agc_load.specs.declared.fault.LoadFault.TheVariants as refusal
use Rattle.agc_study_args.proofs.RopeReads.{known_memory}
use Rattle.agc_mend.specs.declared.parity.BadWord.{BadWord}
use Rattle.agc_study_args.specs.RopeRead.{reading_steps, wrong_words}
use Rattle.agc_study_args.specs.Started.{AreWrong, IsAccepted, IsRefused, IsStarted, in_form, starting_steps, watched_steps}
use Rattle.agc_study_args.specs.declared.runs.Start.{Start}

module _ (options : RunOptions) (watch : Option (String Global)) where
  pub rope_refused : (rope script : Option (List ℕ)) (r : LoadFault) → IfSome rope (λ file. IsOutcome (reading_steps options.ignores_parity options.form file) r)
      → IsRefused options watch rope script r
  unfolding starting_steps
  rope_refused None script r h = tt
  rope_refused (Some rope) None r h = tt
  rope_refused (Some rope) (Some script) r h = reported_first (reading_steps options.ignores_parity options.form rope) (script_steps script ++ watched_steps options watch) r h

  pub memory_refused : (rope script : Option (List ℕ)) → IsRefused options watch rope script refusal.Memory
  memory_refused rope script = rope_refused rope script refusal.Memory (known_memory options.ignores_parity options.form rope)

  -- a machine that was started had no fault
  pub started_accepted : (rope script : Option (List ℕ)) (machine : State) → IsStarted options watch rope script machine
      → IsAccepted options watch rope script
  started_accepted None script machine h = tt
  started_accepted (Some rope) None machine h = tt
  started_accepted (Some rope) (Some script) machine h = h.accepted

  pub script_refused : (rope script : Option (List ℕ)) (r : LoadFault) → IfSome rope (λ file. refusal_in (reading_steps options.ignores_parity options.form file) ≡ None)
      → IfSome script (λ file. IsOutcome (script_steps file) r) → IsRefused options watch rope script r
  unfolding starting_steps
  script_refused None script r sound h = tt
  script_refused (Some rope) None r sound h = tt
  script_refused (Some rope) (Some script) r sound h =
      reported_later (reading_steps options.ignores_parity options.form rope) (script_steps script ++ watched_steps options watch) r sound (reported_first (script_steps script) (watched_steps options watch) r h)

  -- for sound files

  module _ (words : List Number) (events : List Event) where
    abbrev IsStart : State → Type 0
    IsStart machine = machine ≡ start_state words events options.limit (parsed_by stop_address_of options.until)

    start_refused : (rope script : Option (List ℕ)) (r : LoadFault) → IfSome rope (λ file. refusal_in (reading_steps options.ignores_parity options.form file) ≡ None)
        → IfSome script (λ file. refusal_in (script_steps file) ≡ None) → IsOutcome (watched_steps options watch) r → IsRefused options watch rope script r
    unfolding starting_steps
    start_refused None script r sound_rope sound_script h = tt
    start_refused (Some rope) None r sound_rope sound_script h = tt
    start_refused (Some rope) (Some script) r sound_rope sound_script h =
        reported_later (reading_steps options.ignores_parity options.form rope) (script_steps script ++ watched_steps options watch) r sound_rope
        (reported_later (script_steps script) (watched_steps options watch) r sound_script h)

    is_started : (rope script : Option (List ℕ)) (machine : State) → IfSome rope (λ file. words ≡ rope_words options.form file)
        → IfSome rope (λ file. refusal_in (reading_steps options.ignores_parity options.form file) ≡ None) → IfSome script (λ file. events ≡ events_in (script_of file))
        → IfSome script (λ file. refusal_in (script_steps file) ≡ None) → refusal_in (watched_steps options watch) ≡ None → IsStart machine
        → IsStarted options watch rope script machine
    unfolding starting_steps
    is_started None script machine w a e b none is = tt
    is_started (Some rope) None machine w a e b none is = tt
    is_started (Some rope) (Some script) machine w a e b none is = record {
      accepted =
          none_in_both (reading_steps options.ignores_parity options.form rope) (script_steps script ++ watched_steps options watch) a
          (none_in_both (script_steps script) (watched_steps options watch) b none);
      start =
          is ∙ ap (λ all. start_state all events options.limit (parsed_by stop_address_of options.until)) w
          ∙ ap (λ all. start_state (rope_words options.form rope) all options.limit (parsed_by stop_address_of options.until)) e;
    }

    pub all_started : (rope script : Option (List ℕ)) (result : Result Start LoadFault) → IfSome rope (λ file. words ≡ rope_words options.form file)
        → IfSome rope (λ file. refusal_in (reading_steps options.ignores_parity options.form file) ≡ None) → IfSome script (λ file. events ≡ events_in (script_of file))
        → IfSome script (λ file. refusal_in (script_steps file) ≡ None) → ComesOf (watched_steps options watch) (λ start. IsStart start.machine) result
        → IfOk result (λ start. IsStarted options watch rope script start.machine)
    all_started rope script (Ok start) w a e b h = is_started rope script start.machine w a e b h.0 h.1
    all_started rope script (Err r) w a e b h = tt

    pub all_refused : (rope script : Option (List ℕ)) (result : Result Start LoadFault) → IfSome rope (λ file. refusal_in (reading_steps options.ignores_parity options.form file) ≡ None)
        → IfSome script (λ file. refusal_in (script_steps file) ≡ None) → ComesOf (watched_steps options watch) (λ start. IsStart start.machine) result
        → IfErr result (IsRefused options watch rope script)
    all_refused rope script (Ok start) a b h = tt
    all_refused rope script (Err r) a b h = start_refused rope script r a b h

-- the number of words with wrong parity
are_wrong : (options : RunOptions) (known : Option (List ℕ)) (wrong : List BadWord) (count : ℕ) → count ≡ length wrong
    → IfSome known (λ rope. wrong ≡ wrong_words options.ignores_parity options.form rope) → AreWrong options known count
are_wrong options None wrong count is same = tt
are_wrong options (Some rope) wrong count is same = is ∙ ap (λ (words : List BadWord). length words) same

pub wrong_counted : (options : RunOptions) (known : Option (List ℕ)) (wrong : List BadWord) (count : ℕ) (result : Result Start LoadFault) → count ≡ length wrong
    → IfSome known (λ rope. wrong ≡ wrong_words options.ignores_parity options.form rope) → OnOk result (AreWrong options known count)
wrong_counted options known wrong count (Ok start) is same = are_wrong options known wrong count is same
wrong_counted options known wrong count (Err r) is same = tt

-- the form of the rope changes no later step
pub later_in_form : (form : RopeForm) (options : RunOptions) (watch : Option (String Global)) → watched_steps options watch ≡ watched_steps (in_form form options) watch
unfolding watched_steps
later_in_form form options watch = refl
