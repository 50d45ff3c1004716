use Rattle.agc_machine.proofs.Replay.{chain_replays}
use Rattle.agc_machine.proofs.laws.live_keys_replay.Goals as goal

pub returns : goal.returns
returns c = chain_replays
