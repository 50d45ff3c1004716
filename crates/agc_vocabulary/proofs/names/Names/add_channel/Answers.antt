use Rattle.std.proofs.lemmas.Map.Text.{btree_map_updates_str}
use Rattle.std.specs.Prelude.{Some}
use Rattle.agc_vocabulary.proofs.Naming.{one_more_channel}
use Rattle.agc_vocabulary.proofs.names.Names.add_channel.Goals as goal

pub returns : goal.returns
returns c =
    one_more_channel _ _ _ _ c.args.name.now c.args.line (λ other.
    btree_map_updates_str c.args.name.now c.args.self.now.channels c.insert.new.self (Some c.args.line) c.in_ok-insert.ensures.updates other)
