use Rattle.std.proofs.lemmas.Result.{IfErr-weaker}
use Rattle.agc_run_commands.proofs.FilmedRuns.{filmed_start}
use Rattle.agc_study_args.proofs.Starts.{memory_refused}
use Rattle.agc_run_commands.proofs.films.record_run.Goals as goal

pub returns-clause-filmed : goal.returns-clause-filmed
returns-clause-filmed g c =
    filmed_start c.args.args.now _ _ c.in_ok-start.start c.film_start.result
    (rw c.as_ref-watch.ensures.value at c.in_ok-start.ensures.started) (rw c.as_ref-watch.ensures.value at c.in_ok-start.ensures.tables)
    c.film_start.ensures.recording c.film_start.ensures.tables

pub returns-clause-refused : goal.returns-clause-refused
returns-clause-refused g c =
    let args = c.args.args.now in
    IfErr-weaker c.film_start.result _ _ (λ r is. rw is (memory_refused args.options args.watch _ _))
    c.film_start.ensures.refused
