-- What the matches of the command line contain.
use Rattle.std.proofs.Common.{◌≡◌, ◌∙◌, ◌⊎◌, Bool, List, [], true, false, refl, sym, ap, ap₂, subst, inl, inr, codes}
use Rattle.std.specs.Prelude.{Option, None, Some, fold}
use Rattle.clap.specs.Words.{App, HasMatchesOf, IsAmong, Row, Rule, Text, fault_of, found_of, is_simple, is_simple_and_free, new_app, one_of, one_text, rows_of, with_rule}
use Rattle.clap.specs.declared.error.kind.ErrorKind.{ErrorKind}
use Rattle.clap.specs.declared.error.kind.ErrorKind.TheVariants.{DisplayHelp, OutOfMemory}
use Rattle.clap.specs.declared.parser.matches.ArgMatches.{ArgMatches}
use Rattle.clap.specs.declared.parser.matches.Found.{Found}
use Rattle.clap.proofs.OnLiterals.{clap_on_literals}
use Rattle.clap.proofs.WalkLemmas.{one_text-rows}
use Rattle.agc_cli.specs.Mistakes.{Outputs}
use Rattle.agc_cli.specs.Parameters.{IsFormOption}
use Rattle.agc_cli.specs.ParseArgs.{AreRequiredBy, AsksFor, IsCommandLine, IsFaultOf, IsFlag, command_line, display_parameters, layout_parameters, live_parameters, run_parameters}
use Rattle.agc_cli.specs.declared.fault.ArgsFault.{ArgsFault}
use Rattle.agc_cli.specs.declared.fault.ArgsFault.TheVariants as fault
use Rattle.agc_cli.specs.declared.session_options.Options.{Options}

-- no parameter of the command line depends on another, so its matches and its faults are exact
pub command_is_simple : (app : App) → IsCommandLine app → is_simple app ≡ true
unfolding clap_on_literals command_line
command_is_simple app line = rw (line.2, line.1.2) refl

pub command_is_free : (app : App) → IsCommandLine app → is_simple_and_free app ≡ true
unfolding clap_on_literals command_line
command_is_free app line = rw (line.2, line.1.2) refl

-- the flag that a parameter sets, by the rows of the matches
pub flag_in_rows : (found : Found) (id : Text) (set : Bool) → (one_text found id ≡ None → set ≡ false)
    → (one_text found id ≡ Some (codes "true") → set ≡ true) → (one_text found id ≡ Some (codes "false") → set ≡ false)
    → IsFlag (one_of id (rows_of found)) set
flag_in_rows found id set none is_set is_unset = go (one_of id (rows_of found)) refl
  where
    go : (o : Option Text) → one_of id (rows_of found) ≡ o → IsFlag o set
    go None e = none (one_text-rows found id ∙ e)
    go (Some text) e = (
      (λ h. is_set (one_text-rows found id ∙ (e ∙ ap Some h))),
      (λ h. is_unset (one_text-rows found id ∙ (e ∙ ap Some h))),
    )

-- a command with one more parameter
pub with_parameter : (old new at : App) (is rule : Rule) → new ≡ with_rule old is → old ≡ at → is ≡ rule → new ≡ with_rule at rule
with_parameter old new at is rule added e f = added ∙ ap₂ with_rule e f

-- the command with all its parameters
pub whole_command : (start run display layout whole : App) → start ≡ new_app (codes "agc") → run ≡ fold with_rule start run_parameters
    → display ≡ fold with_rule run display_parameters → ((form : Rule) × IsFormOption form × (layout ≡ fold with_rule display (layout_parameters form)))
    → whole ≡ fold with_rule layout live_parameters → IsCommandLine whole
unfolding command_line
whole_command start run display layout whole at_start at_run at_display at_layout at_live = (
  at_layout.0,
  at_layout.1,
  at_live
      ∙ ap (λ (app : App). fold with_rule app live_parameters) at_layout.2
      ∙ ap (λ (app : App). fold with_rule (fold with_rule app (layout_parameters at_layout.0)) live_parameters) at_display
      ∙ ap (λ (app : App). fold with_rule (fold with_rule (fold with_rule app display_parameters) (layout_parameters at_layout.0)) live_parameters) at_run
      ∙ ap (λ (app : App). fold with_rule (fold with_rule (fold with_rule (fold with_rule app run_parameters) display_parameters) (layout_parameters at_layout.0)) live_parameters) at_start,
)

-- the result of a parse of the command line
pub requested : (app : App) → IsCommandLine app → (words : List Text) (m : ArgMatches) (options : Options)
    → (is_simple_and_free app ≡ true → fault_of app words ≡ []) → HasMatchesOf app words m → AsksFor (rows_of (found_of m)) options
    → AreRequiredBy words options
requested app line words m options free matches asks = (
  app,
  line,
  free (command_is_free app line),
  subst (λ (rows : List Row). AsksFor rows options) (matches (command_is_simple app line)).0 asks,
)

-- the fault of a parse that fails
pub reported : (app : App) → IsCommandLine app → (words : List Text) (kind : ErrorKind) (why : ArgsFault)
    → (is_simple_and_free app ≡ true → (kind ≡ OutOfMemory) ⊎ IsAmong kind (fault_of app words)) → Outputs kind why → IsFaultOf words why
reported app line words kind (fault.Help text) among reports = (
  app,
  line,
  elim (among (command_is_free app line)) [
    | inl memory ↦
        let no : DisplayHelp ≡ OutOfMemory = sym reports ∙ memory in
        cc
    | inr a ↦ subst (λ (k : ErrorKind). IsAmong k (fault_of app words)) reports a
  ],
)
reported app line words kind (fault.Command text) among reports = (
  app,
  line,
  kind,
  reports.0,
  elim (among (command_is_free app line)) [ inl memory ↦ absurd (reports.1 memory) | inr a ↦ a ],
)
reported app line words kind fault.Memory among reports = tt
