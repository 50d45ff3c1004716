use Rattle.agc_panel.proofs.ShownLemmas.{shown_by_text}
use Rattle.agc_panel.proofs.face.Face.shows_same.Goals as goal

pub returns : goal.returns
returns c = shown_by_text _ _ _ c.has_same_fields.ensures
