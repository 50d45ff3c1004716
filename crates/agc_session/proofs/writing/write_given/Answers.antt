use Rattle.agc_script.proofs.Merges.{due_found}
use Rattle.agc_session.proofs.writing.write_given.Goals as goal

pub returns-clause-due : goal.returns-clause-due
returns-clause-due g c = rw (c.unwrap_or-due.ensures, c.first_later.ensures.place) (due_found c.args.given.cycle c.args.script.now)
