use Rattle.agc_load.proofs.Denied.{script_faulty}
use Rattle.agc_load.proofs.files.script_of.Goals as goal

pub returns-in-Err-clause-refused : goal.returns-in-Err-clause-refused
returns-in-Err-clause-refused c = script_faulty c.args.bytes.now c.in-Err.fault c.in-Err.ensures.fault c.in-Err.ensures.memory
