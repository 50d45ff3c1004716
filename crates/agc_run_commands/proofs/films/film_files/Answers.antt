use Rattle.std.proofs.lemmas.Result.{err_from_is_err_and}
use Rattle.agc_study_args.proofs.Starts.{memory_refused}
use Rattle.agc_run_commands.proofs.films.film_files.Goals as goal

pub returns-in_err-push_film : goal.returns-in_err-push_film
returns-in_err-push_film g c =
    let args = c.args.args.now in
    let p = err_from_is_err_and c.from_residual-in_err-push_film.result c.from_residual-in_err-push_film.ensures.1 in
    rw (p.1, p.2) (memory_refused args.options args.watch _ _)
