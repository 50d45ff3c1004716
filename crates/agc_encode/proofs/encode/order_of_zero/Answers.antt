use Rattle.agc_vocabulary.proofs.Tokens.{zero_token}
use Rattle.agc_encode.proofs.encode.order_of_zero.Goals as goal

pub returns : goal.returns
returns c = rw zero_token at c.encode_order.ensures
