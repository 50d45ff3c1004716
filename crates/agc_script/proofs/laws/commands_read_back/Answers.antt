use Rattle.agc_script.proofs.CommandsBack.{command_back}
use Rattle.agc_script.proofs.laws.commands_read_back.Goals as goal

pub returns : goal.returns
returns c = command_back
