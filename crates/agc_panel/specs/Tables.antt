-- The watched tables as values: the core sets, and the times and the tasks of the Waitlist.
use Rattle.std.specs.Prelude.{ℕ, ◌+◌, ◌*◌, List, map}
use Rattle.std.specs.List.{range_with_len}
use Rattle.agc_word.specs.Number.{Number}
use Rattle.agc_store.specs.Memory.{Memory}
use Rattle.agc_panel.specs.declared.core_set.CoreSet.{CoreSet}
use Rattle.agc_panel.specs.declared.tables.Task.{Task}
use Rattle.agc_panel.specs.declared.watch_spec.WatchSpec.{WatchSpec}
use Rattle.agc_panel.specs.CoreSet.{core_set_at, erasable_word}
use Rattle.agc_panel.specs.WatchSpec.{first_cell, core_set_cells, lst1_cells, lst2_tasks}

pub record WatchedTables : Type 0 where
  pub core_sets : List CoreSet
  pub lst1 : List Number
  pub lst2 : List Task

-- this many entries, each made from its number, from 0
unfoldable pub entries : {A : Type 0} → ℕ → (ℕ → A) → List A
entries count entry = map entry (range_with_len 0 count)

-- core set k of those that begin at a cell
abbrev pub nth_core_set : Memory → ℕ → ℕ → CoreSet
nth_core_set memory start k = core_set_at memory (start + core_set_cells * k)

-- word k of LST1
abbrev pub nth_time : Memory → ℕ → ℕ → Number
nth_time memory start k = erasable_word memory (start + k)

-- task k of LST2: its address and its banks are in two cells
abbrev pub nth_task : Memory → ℕ → ℕ → Task
nth_task memory start k = record {
  address = erasable_word memory (start + 2 * k);
  bbcon = erasable_word memory (start + 2 * k + 1);
}

-- the tables of a memory at the places of a spec
unfoldable pub tables_of : Memory → WatchSpec → WatchedTables
tables_of memory spec = record {
  core_sets = entries spec.sets (nth_core_set memory (first_cell spec.core_bank spec.core_offset));
  lst1 = entries lst1_cells (nth_time memory (first_cell spec.lst1_bank spec.lst1_offset));
  lst2 = entries lst2_tasks (nth_task memory (first_cell spec.lst2_bank spec.lst2_offset));
}
