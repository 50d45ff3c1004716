-- What the commands that only show something print about a session, before the last line of the answer.
use Rattle.std.specs.Prelude.{ℕ, List, [], Option, flat_map}
use Rattle.std.specs.List.{range_with_len}
use Rattle.agc_machine.specs.Boundary.{upcoming_of}
use Rattle.agc_panel.specs.Text.{panel_text}
use Rattle.agc_panel.specs.Watcher.{watch_text}
use Rattle.agc_processor.specs.Channel.{channel_word}
use Rattle.agc_script.specs.Written.{script_text}
use Rattle.agc_session.specs.Session.{script_of}
use Rattle.agc_word.specs.Arithmetic.{narrow_of}
use Rattle.agc_repl.specs.Answer.{cell_line, channel_line, writes_line}
use Rattle.agc_trace.specs.StateLines.{next_line_with, registers_line}
use Rattle.agc_repl.specs.Help.{help_text}
use Rattle.agc_repl.specs.declared.answer.CellStyle.TheVariants as style
use Rattle.agc_command.specs.declared.command.Command.{Command}
use Rattle.agc_command.specs.declared.command.Command.TheVariants as command
use Rattle.agc_repl.specs.Settings.{breakpoint_line}
use Rattle.agc_repl.specs.Whereabouts.{where_text}
use Rattle.agc_repl.specs.declared.repl.Repl.{Repl}
use Rattle.agc_symbols.specs.Symbols.{Symbol}

-- the lines of a command; commands that do something show nothing of themselves
unfoldable pub shown_text : Option (List Symbol) → Command → Repl → List ℕ
shown_text names command.Breaks t = flat_map breakpoint_line t.settings.breakpoints
shown_text names command.Panel t = panel_text t.session.panel
shown_text names (command.Watch spec) t = watch_text t.session.now.processor.store spec
shown_text names command.Registers t = registers_line t.session.now.processor.store
shown_text names command.Next t = next_line_with names (upcoming_of t.session.now)
shown_text names command.Where t = where_text names t.session.now
shown_text names (command.Cells first count) t =
    flat_map (cell_line style.Octal t.session.now.processor.store) (range_with_len first count)
shown_text names (command.Print first count) t =
    flat_map (cell_line style.Decimal t.session.now.processor.store) (range_with_len first count)
shown_text names (command.Channel channel) t =
    channel_line channel (narrow_of (channel_word t.session.now.cycle channel t.session.now.processor))
shown_text names command.Writes t = writes_line t.writes
shown_text names command.Script t = script_text (script_of t.session)
shown_text names command.Help t = help_text
shown_text names command t = []
