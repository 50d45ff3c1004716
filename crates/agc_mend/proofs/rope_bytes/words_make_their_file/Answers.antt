use Rattle.agc_mend.proofs.BytesBack.{file_back}
use Rattle.agc_mend.proofs.rope_bytes.words_make_their_file.Goals as goal

pub returns : goal.returns
returns c = file_back
