use Rattle.std.proofs.Common.{◌≡◌, length, arith}
use Rattle.std.specs.Prelude.{option_copied}
use Rattle.std.proofs.lemmas.Result.{err_from_is_err_and}
use Rattle.agc_study_args.specs.Started.{in_form}
use Rattle.agc_study_args.proofs.Starts.{all_refused, all_started, later_in_form, rope_refused, script_refused, wrong_counted}
use Rattle.agc_study_args.proofs.runs.read_start_as.Goals as goal

pub returns-in_err-read-clause-refused : goal.returns-in_err-read-clause-refused
returns-in_err-read-clause-refused g c =
    let p = err_from_is_err_and c.from_residual.result c.from_residual.ensures.1 in
    rw (p.1, p.2) (rope_refused (in_form c.args.form c.args.options.now) (option_copied c.args.watch) _ _ _ c.in_err-read.ensures.refused)

pub returns-in_err-script-clause-refused : goal.returns-in_err-script-clause-refused
returns-in_err-script-clause-refused g c =
    let p = err_from_is_err_and c.from_residual-in_err-script.result c.from_residual-in_err-script.ensures.1 in
    rw (p.1, p.2) (script_refused (in_form c.args.form c.args.options.now) (option_copied c.args.watch) _ _ _ c.in_ok-read.ensures.accepted c.in_err-script.ensures.refused)

pub returns-clause-started : goal.returns-clause-started
returns-clause-started g c =
    let same = later_in_form c.args.form c.args.options.now (option_copied c.args.watch) in
    let started = rw same at c.start_watched.ensures.started in
    all_started (in_form c.args.form c.args.options.now) (option_copied c.args.watch) _ _ _ _ c.start_watched.result
    c.in_ok-read.ensures.words c.in_ok-read.ensures.accepted c.in_ok-script.ensures.events c.in_ok-script.ensures.accepted started

pub returns-clause-refused : goal.returns-clause-refused
returns-clause-refused g c =
    let same = later_in_form c.args.form c.args.options.now (option_copied c.args.watch) in
    let started = rw same at c.start_watched.ensures.started in
    all_refused (in_form c.args.form c.args.options.now) (option_copied c.args.watch) _ _ _ _ c.start_watched.result
    c.in_ok-read.ensures.accepted c.in_ok-script.ensures.accepted started

pub returns-clause-wrong : goal.returns-clause-wrong
returns-clause-wrong g c =
    let count : c.len-inputs.result ≡ length c.in_ok-read.read.wrong.items = omega (arith, c.len-inputs.ensures, c.in_ok-read.read.wrong.ok.0) in
    wrong_counted (in_form c.args.form c.args.options.now) _ _ _ _ count c.in_ok-read.ensures.wrong
