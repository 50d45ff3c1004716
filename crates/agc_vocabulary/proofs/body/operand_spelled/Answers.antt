use Rattle.agc_vocabulary.proofs.Tokens.{alone, not_wanted}
use Rattle.agc_vocabulary.proofs.body.operand_spelled.Goals as goal

pub returns-in-Some-next_token : goal.returns-in-Some-next_token
returns-in-Some-next_token c = not_wanted c.args.alias _ _ _ _ c.in-Some.ensures c.in-Some-next_token.ensures

pub returns-in-None : goal.returns-in-None
returns-in-None c = alone c.args.alias _ _ _ c.in-Some.ensures c.as_bytes.ensures.value c.in-None.ensures
