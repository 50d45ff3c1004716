-- The report of a run, before it is printed.
use Rattle.std.specs.Prelude.{◌≡◌, ◌++◌, ℕ, if◌then◌else◌, Bool, List, length, map, Option, Some}
use Rattle.std.specs.Prelude.{None, option_map}
use Rattle.agc_word.specs.declared.channel_write.ChannelWrite.{ChannelWrite}
use Rattle.agc_store.specs.Memory.{Memory}
use Rattle.agc_script.specs.declared.key.Key.{Key}
use Rattle.agc_machine.specs.Run.{Run, run_of}
use Rattle.agc_machine.specs.State.{State}
use Rattle.agc_machine.specs.Taken.{IsTakenTape, replayed}
use Rattle.agc_panel.specs.Face.{panel_of}
use Rattle.agc_panel.specs.Tables.{WatchedTables, tables_of}
use Rattle.agc_panel.specs.WatchSpec.{spec_of}
use Rattle.agc_panel.specs.declared.watch_spec.WatchSpec.{WatchSpec}
use Rattle.agc_pipe.specs.Keys.{key_in}
use Rattle.agc_load.specs.Options.{parsed_by}
use Rattle.agc_cli.specs.declared.session_options.Options.{Options}
use Rattle.agc_run.specs.declared.report.LiveKeys.{LiveKeys}
use Rattle.agc_run.specs.declared.report.Report.{Report}

-- the channel writes, if the log is requested
abbrev pub log_requested : Bool → List ChannelWrite → Option (List ChannelWrite)
log_requested requested writes = if requested then Some writes else None

-- the tables of a memory, if any places are watched
abbrev pub tables_requested : Option WatchSpec → Memory → Option WatchedTables
tables_requested watch memory = option_map (tables_of memory) watch

-- A report of a run: the panel, the stop, and what the options request; and the live keys, if any.
pub record IsReport (options : Options) (run : Run) (live : Option LiveKeys)
    (report : Report) : Type 0 where
  pub panel : report.panel ≡ panel_of run.writes
  pub stop : run.last.stopped ≡ Some report.stop
  pub cycle : report.cycle ≡ run.last.cycle
  pub writes : report.writes ≡ length run.writes
  pub log : report.log ≡ log_requested options.log run.writes
  pub keys : report.keys ≡ live
  pub tables : report.tables ≡ tables_requested (parsed_by spec_of options.watch) run.last.processor.store

-- A report of a run with live keys: that of the run on the script with a tape's keys among its
-- events, the tape, which a live run takes, and how many keys are left, which follow those of the
-- tape in the key text.
pub record IsLiveReport (options : Options) (start : State) (keys : List Key)
    (report : Report) : Type 0 where
  pub tape : List (ℕ × Key)
  pub rest : List Key
  pub taken : IsTakenTape options.spacing start tape
  pub kept : map key_in tape ++ rest ≡ keys
  pub reported : IsReport options (run_of (replayed tape start))
      (Some (record { tape = tape; left = length rest })) report
