use Rattle.agc_repl.proofs.Runs.{in_range}
use Rattle.agc_repl.proofs.commands.arm.Goals as goal

pub new-requires : goal.new-requires
new-requires c = in_range c.args.breakpoint.now.what c.requires
