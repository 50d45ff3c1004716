use Rattle.agc_script.proofs.ScriptBack.{script_back}
use Rattle.agc_script.proofs.laws.scripts_read_back.Goals as goal

pub returns : goal.returns
returns c = script_back
