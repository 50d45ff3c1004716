use Rattle.std.proofs.Common.{sym}
use Rattle.agc_vocabulary.proofs.Tokens.{cut_token}
use Rattle.agc_vocabulary.proofs.body.next_token.Goals as goal

pub returns-in-Some : goal.returns-in-Some
returns-in-Some c = cut_token _ _ _ _ c.in_ok-word.ensures (sym c.in-Some.ensures.hash) c.in-Some.at-test.1
