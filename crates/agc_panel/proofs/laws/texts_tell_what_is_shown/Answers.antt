use Rattle.agc_panel.proofs.TextLemmas.{same_text}
use Rattle.agc_panel.proofs.laws.texts_tell_what_is_shown.Goals as goal

pub returns : goal.returns
returns c a b h = same_text a b h
