use Rattle.std.proofs.lemmas.Map.Text.{btree_map_updates_str}
use Rattle.std.specs.Prelude.{Some}
use Rattle.agc_vocabulary.proofs.Naming.{one_more}
use Rattle.agc_vocabulary.proofs.names.Names.add.Goals as goal

pub returns : goal.returns
returns c =
    one_more _ _ _ _ c.args.name.now c.args.place (λ other.
    btree_map_updates_str c.args.name.now c.args.self.now.given c.insert.new.self (Some c.args.place) c.in_ok-insert.ensures.updates other)
