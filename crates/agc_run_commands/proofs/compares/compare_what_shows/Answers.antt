use Rattle.agc_run_commands.proofs.compares.compare_what_shows.Goals as goal

pub returns : goal.returns
returns g c = rw c.is_same.ensures c.in_ok-comparison.ensures.law
