use Rattle.std.specs.Prelude.{None}
use Rattle.agc_study_args.proofs.Starts.{memory_refused}
use Rattle.agc_run_commands.proofs.counts.profile_files.Goals as goal

pub returns-in-Ok-clause-counted : goal.returns-in-Ok-clause-counted
returns-in-Ok-clause-counted g c = record {
  machine = c.in_ok-machine.machine;
  start = c.in_ok-machine.ensures.started;
  profile = c.in-Ok.ensures.counts;
  same_rope = c.in-Ok.ensures.rope;
}

pub returns-in-Err-clause-refused : goal.returns-in-Err-clause-refused
returns-in-Err-clause-refused g c =
    let args = c.args.args.now in
    memory_refused args.options None _ _
