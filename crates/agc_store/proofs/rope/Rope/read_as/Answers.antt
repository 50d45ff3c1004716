use Rattle.std.proofs.Common.{List, ap, ◌∙◌, subst, sym, take}
use Rattle.agc_word.specs.Number.{Number}
use Rattle.agc_store.specs.RopeFile.{FollowsBanks, rope_words}
use Rattle.agc_store.proofs.BankOrder.{follows_banks}
use Rattle.agc_store.proofs.RopeWords.{woven_words, take-woven}
use Rattle.agc_store.proofs.rope.Rope.read_as.Goals as goal

pub invariant_of-result : goal.invariant_of-result
invariant_of-result c = woven_words _ _ _ c.in-Ok.ensures

pub returns-in-Ok-clause-words : goal.returns-in-Ok-clause-words
unfolding rope_words
returns-in-Ok-clause-words c = ap (λ words. take 36864 words) c.in-Ok.ensures ∙ take-woven 36864 _ _ _

pub returns-in-Ok-clause-order : goal.returns-in-Ok-clause-order
returns-in-Ok-clause-order c =
    subst (λ (words : List Number). FollowsBanks c.args.form c.args.bytes.now words) (sym (returns-in-Ok-clause-words c)) (follows_banks c.args.form c.args.bytes.now)
