-- A live run that is being sent: its writes so far were sent, and at its stop all of them.
use Rattle.std.proofs.Common.{◌≡◌, ℕ, ◌<◌, ◌⊎◌, List, [], ◌∷◌, ◌++◌, refl, ap, sym, ◌∙◌, subst, append-nil, inl}
use Rattle.std.specs.Prelude.{Some, All, map, Result, Ok, Err, IfErr}
use Rattle.agc_word.specs.declared.channel_write.ChannelWrite.{ChannelWrite}
use Rattle.agc_script.specs.Merge.{key_event}
use Rattle.agc_script.specs.declared.key.Key.{Key}
use Rattle.agc_machine.specs.Laws.{KeepsStop}
use Rattle.agc_machine.specs.Live.{IsLive}
use Rattle.agc_machine.specs.Replay.{writes_in}
use Rattle.agc_machine.specs.Run.{Run, run_of}
use Rattle.agc_machine.specs.State.{State, IsAtStart}
use Rattle.agc_machine.specs.Taken.{TakesTape, replayed}
use Rattle.agc_machine.specs.declared.answer.Stepped.{Stepped}
use Rattle.agc_machine.specs.declared.answer.Stepped.TheVariants as stepped
use Rattle.agc_machine.specs.declared.answer.Stop.{Stop}
use Rattle.agc_machine.proofs.Live.{live_starts, live_ends, live_tape_is_taken, live_tape_is_below}
use Rattle.agc_ring.specs.Ring.{Sending}
use Rattle.agc_ring.specs.Items.{items_of}
use Rattle.agc_ring.specs.declared.item.Item.{Item}
use Rattle.agc_ring.specs.declared.item.Item.TheVariants as item
use Rattle.agc_pipe.specs.declared.shown.ShowFault.{ShowFault}
use Rattle.agc_pipe.specs.declared.shown.ShowFault.TheVariants as fault
use Rattle.agc_pipe.proofs.Sends.{written}

pub record IsLiveSending (start : State) (sender out : Sending) (tape : List (ℕ × Key)) (now : State) : Type 0 where
  pub writes : List ChannelWrite
  pub live : IsLive start (map key_event tape) writes now
  pub sent : out ≡ record sender { sent = written writes }

-- what one step adds to a live run
abbrev pub Adds : List (ℕ × Key) → List (ℕ × Key) → State → State → Stepped → Type 0
Adds tape longer now later answer =
    (start : State) → (writes : List ChannelWrite) → IsLive start (map key_event tape) writes now → IsLive start (map key_event longer) (writes ++ writes_in (answer ∷ [])) later

pub sending_starts : (start : State) (sender : Sending) (tape : List (ℕ × Key)) → sender.sent ≡ [] → tape ≡ [] →
    IsLiveSending start sender sender tape start
sending_starts start sender tape e f =
    record {
      writes = [];
      live = subst (λ (t : List (ℕ × Key)). IsLive start (map key_event t) [] start) (sym f) (live_starts start);
      sent = ap (λ (items : List Item). record sender { sent = items }) e;
    }

pub after_quiet : (start now later : State) (sender out : Sending) (tape longer : List (ℕ × Key)) (answer : Stepped) → answer ≡ stepped.Quiet →
    Adds tape longer now later answer → IsLiveSending start sender out tape now → IsLiveSending start sender out longer later
unfolding writes_in
after_quiet start now later sender out tape longer answer e f h =
    let none : h.writes ++ writes_in (answer ∷ []) ≡ h.writes =
    ap (λ (a : Stepped). h.writes ++ writes_in (a ∷ [])) e ∙ append-nil h.writes in
    record {
      writes = h.writes;
      live = subst (λ (w : List ChannelWrite). IsLive start (map key_event longer) w later) none (f start h.writes h.live);
      sent = h.sent;
    }

written_snoc : (writes : List ChannelWrite) (write : ChannelWrite) → written writes ++ item.Write write ∷ [] ≡ written (writes ++ write ∷ [])
written_snoc [] write = refl
written_snoc (first ∷ writes) write = ap (λ (items : List Item). item.Write first ∷ items) (written_snoc writes write)

pub after_live_write : (start now later : State) (sender out new : Sending) (tape longer : List (ℕ × Key)) (answer : Stepped) (write : ChannelWrite) →
    answer ≡ stepped.Wrote write → Adds tape longer now later answer → new ≡ record out { sent = out.sent ++ item.Write write ∷ [] } →
    IsLiveSending start sender out tape now → IsLiveSending start sender new longer later
unfolding writes_in
after_live_write start now later sender out new tape longer answer write e f s h =
    let one : h.writes ++ writes_in (answer ∷ []) ≡ h.writes ++ write ∷ [] = ap (λ (a : Stepped). h.writes ++ writes_in (a ∷ [])) e in
    record {
      writes = h.writes ++ write ∷ [];
      live = subst (λ (w : List ChannelWrite). IsLive start (map key_event longer) w later) one (f start h.writes h.live);
      sent = s ∙ ap (λ (o : Sending). record o { sent = o.sent ++ item.Write write ∷ [] }) h.sent
          ∙ ap (λ (items : List Item). record sender { sent = items }) (written_snoc h.writes write);
    }

-- at the stop all writes of the run on the merged script were sent, and the end
pub record IsLiveSent (start : State) (sender done : Sending) (tape : List (ℕ × Key)) (end : State) (why : Stop) : Type 0 where
  pub items : done ≡ record sender { sent = items_of (run_of (replayed tape start)).writes }
  pub last : end ≡ (run_of (replayed tape start)).last
  pub stop : (run_of (replayed tape start)).last.stopped ≡ Some why
  pub below : All (λ entry. entry.0 < start.limit) tape
  pub taken : TakesTape start tape (replayed tape start)

pub at_live_stop : (start now later : State) (sender out done : Sending) (tape longer : List (ℕ × Key)) (answer : Stepped) (why : Stop) →
    IsAtStart start → answer ≡ stepped.Stopped why → Adds tape longer now later answer → KeepsStop (later, answer) →
    done ≡ record out { sent = out.sent ++ item.End ∷ [] } → IsLiveSending start sender out tape now → IsLiveSent start sender done longer later why
unfolding writes_in items_of
at_live_stop start now later sender out done tape longer answer why at e f k s h =
    let none : h.writes ++ writes_in (answer ∷ []) ≡ h.writes =
    ap (λ (a : Stepped). h.writes ++ writes_in (a ∷ [])) e ∙ append-nil h.writes in
    let live : IsLive start (map key_event longer) h.writes later =
    subst (λ (w : List ChannelWrite). IsLive start (map key_event longer) w later) none (f start h.writes h.live) in
    let stopped : later.stopped ≡ Some why = subst (λ (a : Stepped). KeepsStop (later, a)) e k in
    let run : run_of (replayed longer start) ≡ record { writes = h.writes; last = later } = live_ends start later longer h.writes why at live stopped in
    record {
      items = s ∙ ap (λ (o : Sending). record o { sent = o.sent ++ item.End ∷ [] }) h.sent
          ∙ ap (λ (r : Run). record sender { sent = items_of r.writes }) (sym run);
      last = ap (λ (r : Run). r.last) (sym run);
      stop = ap (λ (r : Run). r.last.stopped) run ∙ stopped;
      below = live_tape_is_below start later longer h.writes live;
      taken = live_tape_is_taken start later longer h.writes why at live stopped;
    }

pub memory_or_thread : {A : Type 0} → (r : Result A ShowFault) → IfErr r (λ why. why ≡ fault.Memory) →
    IfErr r (λ why. (why ≡ fault.Memory) ⊎ (why ≡ fault.Thread))
memory_or_thread (Ok a) h = tt
memory_or_thread (Err why) h = inl h
