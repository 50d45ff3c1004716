use Rattle.agc_machine.proofs.Replay.{live_run_replays}
use Rattle.agc_machine.proofs.laws.live_runs_replay.Goals as goal

pub returns : goal.returns
returns c = live_run_replays
