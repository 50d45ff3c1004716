-- Lists to which nothing is added.
use Rattle.std.proofs.Common.{append-nil}

pub ruleset append_nothing = (append-nil)
