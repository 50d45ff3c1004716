-- A live run: the result of the machine's thread, and of the call.
use Rattle.std.specs.Prelude.{◌≡◌, ◌++◌, ◌<◌, ℕ, List, All, map}
use Rattle.agc_script.specs.declared.key.Key.{Key}
use Rattle.agc_machine.specs.Run.{run_of}
use Rattle.agc_machine.specs.State.{State}
use Rattle.agc_machine.specs.Taken.{IsTakenTape, TakesTape, replayed}
use Rattle.agc_ring.specs.Ring.{Sending}
use Rattle.agc_pipe.specs.Keys.{Taking, key_in}
use Rattle.agc_pipe.specs.Shown.{IsSentRun, ShowsRun}
use Rattle.agc_pipe.specs.declared.live.Live.{Live}
use Rattle.agc_pipe.specs.declared.live_sending.LiveSent.{LiveSent}

-- the run on the script merged with the tape was sent, and that run takes the tape
pub record IsSentLive (start : State) (fresh : Sending) (keys : Taking)
    (live : LiveSent) : Type 0 where
  pub sent : IsSentRun (run_of (replayed live.taker.tape start)) fresh live.sent
  pub below : All (λ entry. entry.0 < start.limit) live.taker.tape
  pub taken : TakesTape start live.taker.tape (replayed live.taker.tape start)
  pub ring : live.taker.ring ≡ keys.ring
  pub spacing : live.taker.spacing ≡ keys.spacing

-- The result of a live run: the run on the script merged with the tape, a tape that was taken, and
-- no key lost.
pub record ShowsLive (start : State) (spacing : ℕ) (handed : List Key) (live : Live) : Type 0 where
  pub shown : ShowsRun (run_of (replayed live.tape start)) live.shown
  pub tape : IsTakenTape spacing start live.tape
  pub keys : map key_in live.tape ++ live.rest.items ≡ handed
