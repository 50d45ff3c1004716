use Rattle.agc_listing.proofs.Listings.{are_rope_words}
use Rattle.agc_listing.proofs.laws.files_say_rope_words.Goals as goal

pub returns : goal.returns
returns c = are_rope_words
