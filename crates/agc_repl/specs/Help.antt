-- The answer to `help`.
use Rattle.std.specs.Prelude.{ℕ, List, ◌++◌, codes, flat_map}
use Rattle.agc_command.specs.Name.{all_names, usage_text}
use Rattle.agc_command.specs.declared.name.CommandName.{CommandName}
use Rattle.agc_command.specs.declared.name.CommandName.TheVariants as name

-- what a command does
unfoldable pub purpose_text : CommandName → List ℕ
purpose_text name.Go = codes "runs N cycles, or to cycle C, 0 to 1000000000000, decimal. Example: go 85333"
purpose_text name.Step = codes "takes one boundary, or N, 0 to 1000000000000, decimal, with trace lines; with PLACE, octal, only of those that change the cell, each with the cell. Example: step 10000 cell 0100"
purpose_text name.Over =
    codes "runs over the call that comes next to the order behind it, for 1000000 cycles or N, decimal; takes one boundary if no call comes; with CELL, octal, only where it has its present word. Example: over"
purpose_text name.Finish =
    codes "runs out of the routine, to the place that Q names, for 1000000 cycles or N, decimal; CELL as for over. Example: finish within 85333"
purpose_text name.Until =
    codes "runs on to it, for 1000000 cycles or N, decimal; ignore passes over N hits, decimal; PLACE and CCC, 5 to 777, are octal. Example: until write 10 ignore 2"
purpose_text name.Break = codes "sets a breakpoint; PLACE, CCC, 5 to 777, and WORD, 0 to 77777, are octal; after if, >, = and != compare too, and WORD may be decimal with its sign. Example: break 4100 if 0100 < -3"
purpose_text name.Breaks = codes "lists the breakpoints"
purpose_text name.Delete = codes "deletes breakpoint N, from 1 on, decimal. Example: delete 2"
purpose_text name.Continue = codes "runs on to the first breakpoint that is hit, for 1000000 cycles or N, decimal; ignore passes over N hits, decimal. Example: continue within 85333"
purpose_text name.Quiet = codes "prints no channel writes of runs, or prints them again"
purpose_text name.Panel = codes "shows the panel"
purpose_text name.Watch =
    codes "sets a breakpoint at a cell, or shows the Executive's tables; all octal. Example: watch 0,200,7,0,330,0,340"
purpose_text name.Registers = codes "shows A, L, Q, Z, EB, FB and BB, octal"
purpose_text name.Next = codes "shows what comes next, as a trace does"
purpose_text name.Ahead = codes "shows the coming boundary, or N, 0 to 1000000000000, decimal, as step would print them. Example: ahead 10"
purpose_text name.Where = codes "shows the place of the order in hand, and what a service interrupted"
purpose_text name.Cell = codes "shows a cell, octal, or N from it on, 1 to 2048, decimal. Example: cell 0100 8"
purpose_text name.Print = codes "shows a cell, octal, or N from it on, 1 to 2048, decimal; in octal and signed decimal. Example: print 0100"
purpose_text name.Channel = codes "shows a channel, 0 to 777, octal. Example: channel 10"
purpose_text name.Writes = codes "shows the number of channel writes so far"
purpose_text name.Back =
    codes "returns to before cycle C, decimal, to where the Nth last boundary began, from 1 on, decimal, to before a call, or to where the last one that hits it began, numbers as for break, ignore as for until; drops later events, and with list prints them. Example: back until cell 0100"
purpose_text name.Script = codes "prints the script that repeats this session"
purpose_text name.Save = codes "writes that script to a new file. Example: save my.script"
purpose_text name.Help = codes "prints these lines"
purpose_text name.Quit = codes "ends the session, as the end of the input does"

-- the syntax of a command and what it does
unfoldable pub help_line : CommandName → List ℕ
help_line name = usage_text name ++ codes ": " ++ purpose_text name ++ codes "\n"

-- a line for each command
unfoldable pub all_commands_text : List ℕ
all_commands_text = flat_map help_line all_names

-- the lines of the events, which happen now
unfoldable pub events_text : List ℕ
events_text =
    codes "key NAME: presses a key, 0 to 9 + - VERB NOUN ENTR CLR RSET KEYREL. Example: key VERB\npro down, or pro up: turns the PRO switch. Example: pro down\ninput CCC WORD: sets a channel, 5 to 777, to a word, 0 to 77777, octal. Example: input 33 77775\npulse COUNTER KIND: steps a counter, 24 to 60, octal, by pinc, minc, pcdu, mcdu, shinc or shanc. Example: pulse 37 pinc\nraise N: requests an interrupt, 1 to 10, decimal. Example: raise 5\npoke BANK OFFSET WORD: stores a word, 0 to 77777, in bank 0 to 7 at offset 0 to 377, in bank 0 from 10 on, octal. Example: poke 0 100 12345\n"

abbrev pub help_text : List ℕ
help_text = all_commands_text ++ events_text
