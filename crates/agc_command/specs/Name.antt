-- The first words of the console's own commands.
use Rattle.std.specs.Prelude.{ℕ, List, [], ◌∷◌, Option, codes, find}
use Rattle.std.specs.Str.{bytes_eq}
use Rattle.agc_command.specs.declared.name.CommandName.{CommandName}
use Rattle.agc_command.specs.declared.name.CommandName.TheVariants as name

-- the first word of a command
unfoldable pub name_text : CommandName → List ℕ
name_text name.Go = codes "go"
name_text name.Step = codes "step"
name_text name.Over = codes "over"
name_text name.Finish = codes "finish"
name_text name.Until = codes "until"
name_text name.Break = codes "break"
name_text name.Breaks = codes "breaks"
name_text name.Delete = codes "delete"
name_text name.Continue = codes "continue"
name_text name.Quiet = codes "quiet"
name_text name.Panel = codes "panel"
name_text name.Watch = codes "watch"
name_text name.Registers = codes "registers"
name_text name.Next = codes "next"
name_text name.Ahead = codes "ahead"
name_text name.Where = codes "where"
name_text name.Cell = codes "cell"
name_text name.Print = codes "print"
name_text name.Channel = codes "channel"
name_text name.Writes = codes "writes"
name_text name.Back = codes "back"
name_text name.Script = codes "script"
name_text name.Save = codes "save"
name_text name.Help = codes "help"
name_text name.Quit = codes "quit"

-- every name, once
unfoldable pub all_names : List CommandName
all_names =
    name.Go ∷ name.Step ∷ name.Over ∷ name.Finish ∷ name.Until ∷ name.Break ∷ name.Breaks ∷ name.Delete
    ∷ name.Continue ∷ name.Quiet ∷ name.Panel ∷ name.Watch ∷ name.Registers ∷ name.Next ∷ name.Ahead ∷ name.Where
    ∷ name.Cell ∷ name.Print ∷ name.Channel ∷ name.Writes ∷ name.Back ∷ name.Script
    ∷ name.Save ∷ name.Help ∷ name.Quit ∷ []

-- the name that a word spells, if any
unfoldable pub name_named : List ℕ → Option CommandName
name_named word = find (λ n. bytes_eq (name_text n) word) all_names

-- the syntax of a command
unfoldable pub usage_text : CommandName → List ℕ
usage_text name.Go = codes "go N, or go to C"
usage_text name.Step = codes "step, or step N [cell PLACE]"
usage_text name.Over = codes "over [job CELL] [within N]"
usage_text name.Finish = codes "finish [job CELL] [within N]"
usage_text name.Until =
    codes "until PLACE [if CELL < WORD], write CCC or cell PLACE; then [ignore N] [within N]"
usage_text name.Break =
    codes "break PLACE [if CELL < WORD], write CCC [WORD], cell PLACE, interrupt NAME or panel [TEXT]"
usage_text name.Breaks = codes "breaks"
usage_text name.Delete = codes "delete N"
usage_text name.Continue = codes "continue [ignore N] [within N]"
usage_text name.Quiet = codes "quiet, or quiet off"
usage_text name.Panel = codes "panel"
usage_text name.Watch = codes "watch PLACE, or watch SPEC"
usage_text name.Registers = codes "registers"
usage_text name.Next = codes "next"
usage_text name.Ahead = codes "ahead, or ahead N"
usage_text name.Where = codes "where"
usage_text name.Cell = codes "cell PLACE, or cell PLACE N"
usage_text name.Print = codes "print PLACE, or print PLACE N"
usage_text name.Channel = codes "channel CCC"
usage_text name.Writes = codes "writes"
usage_text name.Back =
    codes "back [list] C, step [N], over or finish [job CELL], or until PLACE [if CELL < WORD], write CCC [WORD], cell PLACE, interrupt [NAME] or panel; after until [ignore N]"
usage_text name.Script = codes "script"
usage_text name.Save = codes "save FILE"
usage_text name.Help = codes "help"
usage_text name.Quit = codes "quit"
