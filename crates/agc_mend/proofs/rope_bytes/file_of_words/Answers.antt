use Rattle.agc_mend.proofs.BytesBack.{length_file}
use Rattle.agc_mend.proofs.rope_bytes.file_of_words.Goals as goal

pub returns-clause-long : goal.returns-clause-long
returns-clause-long c = rw c.in_ok-file.ensures (length_file c.args.words.now)
