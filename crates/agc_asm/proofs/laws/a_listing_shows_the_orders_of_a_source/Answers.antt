use Rattle.agc_asm.proofs.SourceOrders.{listing_shows, none_left_out, read_along, words_have}
use Rattle.agc_asm.proofs.laws.a_listing_shows_the_orders_of_a_source.Goals as goal

pub returns-clause-all : goal.returns-clause-all
returns-clause-all c = none_left_out

pub returns-clause-words : goal.returns-clause-words
returns-clause-words c = words_have

pub returns-clause-listed : goal.returns-clause-listed
returns-clause-listed c = listing_shows

pub returns-clause-read : goal.returns-clause-read
returns-clause-read c = read_along
