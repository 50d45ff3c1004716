-- A run past a cycle, piece by piece.
use Rattle.std.proofs.Common.{◌≡◌, ℕ, ◌+◌, ◌≤◌, ◌<◌, Some, List, [], ◌∷◌, ◌++◌, refl, ap, sym, ◌∙◌, subst, append_assoc, arith}
use Rattle.agc_word.specs.declared.channel_write.ChannelWrite.{ChannelWrite}
use Rattle.agc_machine.specs.Laws.{AreRising}
use Rattle.agc_machine.specs.Run.{Run, boundaries_left, next_before, run_of, while_writing}
use Rattle.agc_machine.specs.State.{State}
use Rattle.agc_machine.specs.declared.answer.Stepped.TheVariants as stepped
use Rattle.agc_machine.specs.declared.answer.Stop.{Stop}
use Rattle.agc_machine.proofs.Before.{next_after_way, next_at_way_stop, next_at_way_write}
use Rattle.agc_machine.proofs.Chain.{fewer_after_write, next_of_stopped, run_at_stop, run_at_write, run_by_next, run_rises, stop_is_kept}
use Rattle.agc_timeline.specs.Run.{AreUpTo, HasCome, HasPassed, past}
use Rattle.agc_timeline.proofs.Passing.{on_way, past_already, stopped_past}
use Rattle.agc_timeline.proofs.Spans.{one_more_up_to, rising_later}

-- a run got from one state to another, no further than past a cycle, and these are the writes between
pub record IsPassing (cycle : ℕ) (s : State) (taken : List ChannelWrite) (t : State) : Type 0 where
  pub come : HasCome s taken t
  pub taken_up_to : AreUpTo cycle taken
  pub same_end : (to : ℕ) → cycle ≤ to → past to t ≡ past to s

abbrev after : List ChannelWrite → Run → Run
after taken run = record { writes = taken ++ run.writes; last = run.last }

run_after_way : (end : ℕ) (s t : State) → (t, stepped.Quiet) ≡ next_before end s → run_of s ≡ run_of t
run_after_way end s t e = run_by_next s ∙ ap (while_writing run_of) (sym (next_after_way end s t e)) ∙ sym (run_by_next t)

pub passing_none : (cycle : ℕ) (s : State) → IsPassing cycle s [] s
passing_none cycle s = record { come = refl; taken_up_to = tt; same_end = λ to l. refl }

pub passing_quiet : (end cycle : ℕ) (s t u : State) (taken : List ChannelWrite) → end ≤ cycle + 1 → t.cycle ≤ cycle →
    (u, stepped.Quiet) ≡ next_before end t → IsPassing cycle s taken t → IsPassing cycle s taken u
passing_quiet end cycle s t u taken l k e h =
    record {
      come = h.come ∙ ap (after taken) (run_after_way end t u e);
      taken_up_to = h.taken_up_to;
      same_end = λ to m. on_way end to t u _ (omega arith) (omega arith) e ∙ h.same_end to m;
    }

pub passing_write : (end cycle : ℕ) (s t u : State) (taken : List ChannelWrite) (write : ChannelWrite) → end ≤ cycle + 1 → t.cycle ≤ cycle →
    (u, stepped.Wrote write) ≡ next_before end t → IsPassing cycle s taken t → IsPassing cycle s (taken ++ write ∷ []) u
passing_write end cycle s t u taken write l k e h =
    record {
      come =
          h.come ∙ ap (after taken) (run_at_write t u write (next_at_way_write end t u write e))
          ∙ ap (λ (writes : List ChannelWrite). record { writes = writes; last = (run_of u).last }) (sym (append_assoc taken (write ∷ []) (run_of u).writes));
      taken_up_to = one_more_up_to cycle taken write h.taken_up_to (on_way end cycle t u _ l k e).1;
      same_end = λ to m. (on_way end to t u _ (omega arith) (omega arith) e).0 ∙ h.same_end to m;
    }

pub fewer_after_way_write : (end : ℕ) (s t : State) (write : ChannelWrite) → (t, stepped.Wrote write) ≡ next_before end s → boundaries_left t < boundaries_left s
fewer_after_way_write end s t write e = fewer_after_write s t write (next_at_way_write end s t write e)

-- the run has gone past the cycle
pub passed_at_cycle : (cycle : ℕ) (s t : State) (taken : List ChannelWrite) → cycle < t.cycle → IsPassing cycle s taken t → HasPassed cycle s taken t
passed_at_cycle cycle s t taken l h =
    record {
      come = h.come;
      taken_up_to = h.taken_up_to;
      left_later = rising_later (cycle + 1) t.cycle (run_of t).writes (omega arith) (run_rises t);
    }

pub ends_at_cycle : (cycle : ℕ) (s t : State) (taken : List ChannelWrite) → cycle < t.cycle → IsPassing cycle s taken t → t ≡ past cycle s
ends_at_cycle cycle s t taken l h = sym (past_already cycle t l) ∙ h.same_end cycle (omega arith)

-- or to its stop
pub stopped_at : (end : ℕ) (s t : State) (why : Stop) → (t, stepped.Stopped why) ≡ next_before end s → t.stopped ≡ Some why
stopped_at end s t why e = stop_is_kept s t why (next_at_way_stop end s t why e)

run_of_stopped : (s : State) (why : Stop) → s.stopped ≡ Some why → run_of s ≡ record { writes = []; last = s }
run_of_stopped s why e = run_at_stop s s why (sym (next_of_stopped s why e))

passing_stop : (end cycle : ℕ) (s t u : State) (taken : List ChannelWrite) (why : Stop) → end ≤ cycle + 1 → t.cycle ≤ cycle →
    (u, stepped.Stopped why) ≡ next_before end t → IsPassing cycle s taken t → IsPassing cycle s taken u
passing_stop end cycle s t u taken why l k e h =
    record {
      come =
          h.come ∙ ap (after taken) (run_at_stop t u why (next_at_way_stop end t u why e) ∙ sym (run_of_stopped u why (stopped_at end t u why e)));
      taken_up_to = h.taken_up_to;
      same_end = λ to m. on_way end to t u _ (omega arith) (omega arith) e ∙ h.same_end to m;
    }

pub passed_at_stop : (end cycle : ℕ) (s t u : State) (taken : List ChannelWrite) (why : Stop) → end ≤ cycle + 1 → t.cycle ≤ cycle →
    (u, stepped.Stopped why) ≡ next_before end t → IsPassing cycle s taken t → HasPassed cycle s taken u
passed_at_stop end cycle s t u taken why l k e h =
    let passing : IsPassing cycle s taken u = passing_stop end cycle s t u taken why l k e h in
    record {
      come = passing.come;
      taken_up_to = passing.taken_up_to;
      left_later = subst (λ (run : Run). AreRising (cycle + 1) run.writes) (sym (run_of_stopped u why (stopped_at end t u why e))) tt;
    }

pub same_at_stop : (end cycle to : ℕ) (s t u : State) (taken : List ChannelWrite) (why : Stop) → end ≤ cycle + 1 → t.cycle ≤ cycle →
    (u, stepped.Stopped why) ≡ next_before end t → IsPassing cycle s taken t → cycle ≤ to → past to u ≡ past to s
same_at_stop end cycle to s t u taken why l k e h m = (passing_stop end cycle s t u taken why l k e h).same_end to m

pub ends_at_stop : (end cycle : ℕ) (s t u : State) (taken : List ChannelWrite) (why : Stop) → end ≤ cycle + 1 → t.cycle ≤ cycle →
    (u, stepped.Stopped why) ≡ next_before end t → IsPassing cycle s taken t → u ≡ past cycle s
ends_at_stop end cycle s t u taken why l k e h =
    sym (stopped_past cycle u why (stopped_at end t u why e)) ∙ same_at_stop end cycle cycle s t u taken why l k e h (omega arith)
