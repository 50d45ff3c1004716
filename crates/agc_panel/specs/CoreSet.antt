-- A core set of the Executive, read from erasable memory: free, or with a job in it.
use Rattle.std.specs.Prelude.{ℕ, ◌+◌, ◌/◌, ◌%◌, ◌^◌, ◌==◌, if◌then◌else◌}
use Rattle.agc_word.specs.Arithmetic.{narrow_of}
use Rattle.agc_word.specs.Number.{Number}
use Rattle.agc_store.specs.Memory.{Memory, cell_at}
use Rattle.agc_panel.specs.declared.core_set.CoreSet.{CoreSet}
use Rattle.agc_panel.specs.declared.core_set.CoreSet.TheVariants.{Free, Asleep, Ready}
use Rattle.agc_panel.specs.declared.core_set.Job.{Job}
use Rattle.agc_panel.specs.declared.core_set.JobPriority.{JobPriority}

-- a word of erasable memory, as one flat list, a register as its narrow word
unfoldable pub erasable_word : Memory → ℕ → Number
erasable_word memory place = narrow_of (cell_at place memory.erasable)

-- A core set's words in order: MPAC 0 to 6, MODE 7, and in octal LOC 10, BANKSET 11, PUSHLOC 12 and
-- PRIORITY 13.
abbrev pub loc_offset : ℕ
loc_offset = 0o10

abbrev pub bankset_offset : ℕ
bankset_offset = 0o11

abbrev pub priority_offset : ℕ
priority_offset = 0o13

-- a job's priority: bits 14 to 10 of the magnitude of PRIORITY
abbrev pub priority_number : JobPriority → ℕ
priority_number priority = priority.0.magnitude / 2 ^ 9 % 2 ^ 5

-- the job in the core set that begins at a cell
unfoldable pub job_at : Memory → ℕ → Job
job_at memory first = record {
  priority = record { 0 = erasable_word memory (first + priority_offset) };
  loc = erasable_word memory (first + loc_offset);
  bankset = erasable_word memory (first + bankset_offset);
}

-- the meaning of PRIORITY: -0 marks a free core set, and any other negative word a sleeping job
unfoldable pub set_with : Number → Job → CoreSet
set_with priority job =
    if priority.minus then (if priority.magnitude == 0 then Free else Asleep job) else Ready job

-- the core set that begins at a cell
abbrev pub core_set_at : Memory → ℕ → CoreSet
core_set_at memory first =
    set_with (erasable_word memory (first + priority_offset)) (job_at memory first)
