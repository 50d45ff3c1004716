-- A live run so far: the events injected and the writes shown from a start up to now.
use Rattle.std.specs.Prelude.{◌≡◌, List, Option}
use Rattle.agc_word.specs.declared.channel_write.ChannelWrite.{ChannelWrite}
use Rattle.agc_script.specs.declared.event.Event.{Event}
use Rattle.agc_script.specs.declared.event.What.{What}
use Rattle.agc_machine.specs.Replay.{AreWanted, chain, tape_of, writes_in}
use Rattle.agc_machine.specs.State.{State}

-- some boundaries, with live events that the machine wanted, made this tape and these writes and
-- came to this state
pub record IsLive (start : State) (tape : List Event) (writes : List ChannelWrite)
    (now : State) : Type 0 where
  pub lives : List (Option What)
  pub wanted : AreWanted lives start
  pub taped : tape ≡ tape_of lives start
  pub written : writes ≡ writes_in (chain lives start).answers
  pub last : now ≡ (chain lives start).last
