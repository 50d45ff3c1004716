-- The watcher: the tables of a memory in print.
use Rattle.std.specs.Prelude.{ℕ, List}
use Rattle.agc_store.specs.Memory.{Memory}
use Rattle.agc_panel.specs.declared.watch_spec.WatchSpec.{WatchSpec}
use Rattle.agc_panel.specs.Tables.{tables_of}
use Rattle.agc_panel.specs.TablesText.{tables_text}

-- the watcher's text
unfoldable pub watch_text : Memory → WatchSpec → List ℕ
watch_text memory spec = tables_text (tables_of memory spec)
