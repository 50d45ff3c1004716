use Rattle.agc_diff.proofs.Followed.{end_with}
use Rattle.agc_diff.proofs.cursor.Cursor.finish.Goals as goal

pub returns : goal.returns
returns g c = end_with _ _ _ _ _ _ c.panel_with.ensures c.run_out.ensures
