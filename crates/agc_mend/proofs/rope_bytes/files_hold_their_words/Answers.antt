use Rattle.agc_mend.proofs.BytesBack.{words_back}
use Rattle.agc_mend.proofs.rope_bytes.files_hold_their_words.Goals as goal

pub returns : goal.returns
returns c = words_back
