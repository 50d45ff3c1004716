-- The watched tables in print: a line for each core set, one for LST1, one for each task of LST2.
use Rattle.std.specs.Prelude.{ℕ, List, ◌++◌, codes}
use Rattle.std.specs.Fmt.{decimal}
use Rattle.std.specs.List.{enumerate_from, flat_map}
use Rattle.agc_word.specs.Number.{Number}
use Rattle.agc_word.specs.Octal.{octal_digits, word_digits}
use Rattle.agc_panel.specs.declared.core_set.CoreSet.{CoreSet}
use Rattle.agc_panel.specs.declared.core_set.CoreSet.TheVariants.{Free, Asleep, Ready}
use Rattle.agc_panel.specs.declared.core_set.Job.{Job}
use Rattle.agc_panel.specs.declared.core_set.JobPriority.{JobPriority}
use Rattle.agc_panel.specs.declared.tables.Task.{Task}
use Rattle.agc_panel.specs.CoreSet.{priority_number}
use Rattle.agc_panel.specs.Tables.{WatchedTables}

-- a job's priority in print: two octal digits
abbrev pub priority_text : JobPriority → List ℕ
priority_text priority = octal_digits 2 (priority_number priority)

-- a job in print: its state, its priority and where it continues
unfoldable pub job_text : List ℕ → Job → List ℕ
job_text state job =
    codes " " ++ state ++ codes " " ++ priority_text job.priority
    ++ codes " LOC " ++ word_digits job.loc ++ codes " BANKSET " ++ word_digits job.bankset

-- the contents of a core set
abbrev pub held_text : CoreSet → List ℕ
held_text Free = codes " FREE"
held_text (Asleep job) = job_text (codes "ASLEEP") job
held_text (Ready job) = job_text (codes "READY") job

-- the line of a core set with its number
unfoldable pub core_set_line : ℕ → CoreSet → List ℕ
core_set_line k set = codes "SET " ++ decimal k ++ held_text set ++ codes "\n"

-- a word of LST1, after a space
unfoldable pub time_text : Number → List ℕ
time_text word = codes " " ++ word_digits word

-- the line of LST1
unfoldable pub lst1_line : List Number → List ℕ
lst1_line words = codes "LST1" ++ flat_map time_text words ++ codes "\n"

-- the line of a task of LST2 with its number
unfoldable pub task_line : ℕ → Task → List ℕ
task_line k task =
    codes "LST2 " ++ decimal k ++ codes " " ++ word_digits task.address
    ++ codes " " ++ word_digits task.bbcon ++ codes "\n"

-- a line for each entry, with its number from 0
unfoldable pub numbered : {A : Type 0} → (ℕ → A → List ℕ) → List A → List ℕ
numbered line entries = flat_map (λ (k, entry). line k entry) (enumerate_from 0 entries)

-- the tables in print
unfoldable pub tables_text : WatchedTables → List ℕ
tables_text tables =
    numbered core_set_line tables.core_sets
    ++ lst1_line tables.lst1
    ++ numbered task_line tables.lst2
