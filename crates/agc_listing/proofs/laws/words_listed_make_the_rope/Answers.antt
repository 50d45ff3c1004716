use Rattle.agc_listing.proofs.Listings.{rope_of_words}
use Rattle.agc_listing.proofs.laws.words_listed_make_the_rope.Goals as goal

pub returns : goal.returns
returns c = rope_of_words
