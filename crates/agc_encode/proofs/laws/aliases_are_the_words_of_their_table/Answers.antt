use Rattle.agc_encode.proofs.AliasWords.{alias_words}
use Rattle.agc_encode.proofs.laws.aliases_are_the_words_of_their_table.Goals as goal

pub returns : goal.returns
returns c = record { registers = alias_words }
