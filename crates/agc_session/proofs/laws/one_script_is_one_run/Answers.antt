use Rattle.agc_session.proofs.OneRun.{one_panel, one_run, one_state}
use Rattle.agc_session.proofs.laws.one_script_is_one_run.Goals as goal

pub returns-clause-run : goal.returns-clause-run
returns-clause-run c = one_run

pub returns-clause-state : goal.returns-clause-state
returns-clause-state c = one_state

pub returns-clause-panel : goal.returns-clause-panel
returns-clause-panel c = one_panel
