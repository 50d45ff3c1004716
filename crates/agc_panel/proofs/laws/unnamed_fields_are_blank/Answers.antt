use Rattle.agc_panel.proofs.LawLemmas.{r1_blank, r2_blank, r3_blank}
use Rattle.agc_panel.proofs.laws.unnamed_fields_are_blank.Goals as goal

pub returns-clause-r1 : goal.returns-clause-r1
returns-clause-r1 c writes a b d = r1_blank writes a b d

pub returns-clause-r2 : goal.returns-clause-r2
returns-clause-r2 c writes a b d = r2_blank writes a b d

pub returns-clause-r3 : goal.returns-clause-r3
returns-clause-r3 c writes a b d = r3_blank writes a b d
