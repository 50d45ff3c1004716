use Rattle.agc_check.proofs.Placed.{placed}
use Rattle.agc_check.proofs.rope_report.push_rope.Goals as goal

pub push_fault-requires : goal.push_fault-requires
push_fault-requires c = placed c.args.form c.args.file.now _ c.in-Err.ensures.fault
