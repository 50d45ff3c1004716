-- A run that is being sent: what was sent so far, and the run from the machine's present state.
use Rattle.std.proofs.Common.{◌≡◌, List, [], ◌∷◌, ◌++◌, sym, ◌∙◌, ap, append_assoc, append-nil}
use Rattle.std.specs.Prelude.{map, Some}
use Rattle.agc_word.specs.declared.channel_write.ChannelWrite.{ChannelWrite}
use Rattle.agc_machine.specs.declared.answer.Next.TheVariants as next
use Rattle.agc_machine.specs.declared.answer.Stop.{Stop}
use Rattle.agc_machine.specs.Run.{Run, run_of, next_of}
use Rattle.agc_machine.specs.State.{State}
use Rattle.agc_machine.proofs.Chain.{run_at_write, run_at_stop, stop_is_kept}
use Rattle.agc_ring.specs.Ring.{Sending}
use Rattle.agc_ring.specs.Items.{items_of}
use Rattle.agc_ring.specs.declared.item.Item.{Item}
use Rattle.agc_ring.specs.declared.item.Item.TheVariants as item

abbrev pub written : List ChannelWrite → List Item
written writes = map (λ write. item.Write write) writes

pub record IsSending (whole : Run) (sent : List Item) (rest : Run) : Type 0 where
  pub writes : written whole.writes ≡ sent ++ written rest.writes
  pub last : whole.last ≡ rest.last

pub after_write : (whole : Run) (sent : List Item) (s t : State) (write : ChannelWrite)
    → IsSending whole sent (run_of s) → (t, next.Wrote write) ≡ next_of s → IsSending whole (sent ++ item.Write write ∷ []) (run_of t)
after_write whole sent s t write under e =
    let step = run_at_write s t write e in
    record {
      writes = under.writes ∙ ap (λ (run : Run). sent ++ written run.writes) step
          ∙ sym (append_assoc sent (item.Write write ∷ []) (written (run_of t).writes));
      last = under.last ∙ ap (λ (run : Run). run.last) step;
    }

-- at the stop all writes were sent, and the machine is at its last state
pub record IsSent (whole : Run) (sent : List Item) (end : State) (why : Stop) : Type 0 where
  pub items : sent ++ item.End ∷ [] ≡ items_of whole.writes
  pub last : end ≡ whole.last
  pub stop : whole.last.stopped ≡ Some why

pub stopped : (whole : Run) (sent : List Item) (s t : State) (why : Stop)
    → IsSending whole sent (run_of s) → (t, next.Stopped why) ≡ next_of s → IsSent whole sent t why
unfolding items_of
stopped whole sent s t why under e =
    let step = run_at_stop s t why e in
    let last = under.last ∙ ap (λ (run : Run). run.last) step in
    let all : written whole.writes ≡ sent = under.writes ∙ ap (λ (run : Run). sent ++ written run.writes) step ∙ append-nil sent in
    record {
      items = ap (λ (items : List Item). items ++ item.End ∷ []) (sym all);
      last = sym last;
      stop = ap (λ (state : State). state.stopped) last ∙ stop_is_kept s t why e;
    }

-- an end that differs from another only in what was sent
pub same_end : (old new sender : Sending) (sent : List Item) → new ≡ record old { sent = sent } → old ≡ record sender { sent = old.sent } →
    new ≡ record sender { sent = new.sent }
same_end old new sender sent e f =
    e ∙ ap (λ (s : Sending). record s { sent = sent }) f
    ∙ ap (λ (x : List Item). record sender { sent = x }) (sym (ap (λ (s : Sending). s.sent) e))

pub whole_end : (old new sender : Sending) (sent all : List Item) → new ≡ record old { sent = sent } → old ≡ record sender { sent = old.sent } →
    sent ≡ all → new ≡ record sender { sent = all }
whole_end old new sender sent all e f h =
    e ∙ ap (λ (s : Sending). record s { sent = sent }) f ∙ ap (λ (x : List Item). record sender { sent = x }) h
