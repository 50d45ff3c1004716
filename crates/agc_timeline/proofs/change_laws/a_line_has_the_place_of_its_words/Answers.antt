use Rattle.agc_timeline.proofs.LinePlaces.{free_has_none, job_has_place, task_has_place, times_have_none}
use Rattle.agc_timeline.proofs.change_laws.a_line_has_the_place_of_its_words.Goals as goal

pub returns-clause-job : goal.returns-clause-job
returns-clause-job c = job_has_place

pub returns-clause-task : goal.returns-clause-task
returns-clause-task c = task_has_place

pub returns-clause-free : goal.returns-clause-free
returns-clause-free c = free_has_none

pub returns-clause-times : goal.returns-clause-times
returns-clause-times c = times_have_none
