use Rattle.std.specs.Prelude.{option_copied}
use Rattle.std.proofs.lemmas.Result.{err_from_is_err_and}
use Rattle.agc_study_args.proofs.Tables.{are_watched, none_refused, start_refused, tables_refused}
use Rattle.agc_study_args.proofs.runs.start_watched.Goals as goal

pub returns-in_err-machine-clause-started : goal.returns-in_err-machine-clause-started
returns-in_err-machine-clause-started c =
    let p = err_from_is_err_and c.from_residual.result c.from_residual.ensures.1 in
    rw (p.1, p.2) (start_refused c.args.options.now (option_copied c.args.watch) _ c.in_err-machine.ensures.checked)

pub returns-in_err-tables-clause-started : goal.returns-in_err-tables-clause-started
returns-in_err-tables-clause-started c =
    let p = err_from_is_err_and c.from_residual-in_err-tables.result c.from_residual-in_err-tables.ensures.1 in
    rw (p.1, p.2) (tables_refused c.args.options.now (option_copied c.args.watch) _ c.in_ok-machine.ensures.watch c.in_ok-machine.ensures.checked _ c.in_err-tables.ensures.checked)

pub returns-clause-started : goal.returns-clause-started
returns-clause-started c = (
  none_refused c.args.options.now (option_copied c.args.watch) _ c.in_ok-machine.ensures.watch c.in_ok-machine.ensures.checked c.in_ok-tables.ensures.checked,
  c.in_ok-machine.ensures.machine,
)

pub returns-clause-tables : goal.returns-clause-tables
returns-clause-tables c =
    rw (c.in_ok-tables.ensures.tables) (are_watched c.args.options.now (option_copied c.args.watch) _ c.in_ok-machine.ensures.watch c.in_ok-machine.ensures.checked c.in_ok-tables.ensures.checked)
