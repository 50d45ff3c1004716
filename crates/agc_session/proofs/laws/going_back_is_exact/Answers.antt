use Rattle.agc_session.proofs.OneRun.{same_panel, same_script, same_state}
use Rattle.agc_session.proofs.laws.going_back_is_exact.Goals as goal

pub returns-clause-script : goal.returns-clause-script
returns-clause-script c = same_script

pub returns-clause-state : goal.returns-clause-state
returns-clause-state c = same_state

pub returns-clause-panel : goal.returns-clause-panel
returns-clause-panel c = same_panel
