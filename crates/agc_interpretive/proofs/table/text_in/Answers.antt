use Rattle.std.proofs.Common.{sym}
use Rattle.std.proofs.lemmas.List.{get_or-map}
use Rattle.agc_interpretive.specs.Operation.{seen_text}
use Rattle.agc_interpretive.proofs.table.text_in.Goals as goal

pub returns : goal.returns
returns c = sym (get_or-map seen_text c.args.table.now c.args.place _ _ c.requires)
