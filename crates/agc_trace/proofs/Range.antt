-- When no entry of a trace is selected: before the first selected cycle, and after the last one.
use Rattle.std.proofs.Common.{◌≡◌, ◌⊎◌, inl, inr, ℕ, ◌≤◌, ◌<◌, suc, zero, List, [], ◌∷◌, None, Bool, true, false, refl, ap, sym, ◌∙◌, subst, arith}
use Rattle.std.specs.Prelude.{if◌then◌else◌, map, nat_le, ◌&&◌, ◌||◌}
use Rattle.std.proofs.lemmas.Bool.Decides.{nat_tests}
use Rattle.agc_word.specs.declared.channel_write.ChannelWrite.{ChannelWrite}
use Rattle.agc_machine.specs.Boundary.{boundary, upcoming_of}
use Rattle.agc_machine.specs.Run.{boundaries_left, next_before, next_before_within, while_quiet_before}
use Rattle.agc_machine.specs.State.{State}
use Rattle.agc_machine.specs.declared.answer.Stepped.{Stepped}
use Rattle.agc_machine.specs.declared.answer.Stepped.TheVariants as stepped
use Rattle.agc_machine.proofs.Before.{fewer_after_way, next_at_way_write}
use Rattle.agc_machine.proofs.Chain.{fewer_after_write}
use Rattle.agc_trace.specs.Entry.{entry_of}
use Rattle.agc_trace.specs.Selection.{is_answer, is_selected, selected}
use Rattle.agc_trace.specs.Trace.{is_stop}
use Rattle.agc_trace.specs.TraceLaws.{NeverGoBack}
use Rattle.agc_trace.specs.Watch.{Watched, watch_of, watched_of}
use Rattle.agc_trace.specs.declared.entry.Entry.{Entry}
use Rattle.agc_trace.specs.declared.selection.Selection.{Selection}
use Rattle.agc_trace.proofs.Lines.{entries_at_stop, no_entry}
use Rattle.agc_trace.proofs.Watches.{watch_by_entry, watch_goes_on, watch_reports_trace, watches}
use Rattle.agc_trace.proofs.Stops.{stop_stays, stopped_reports}
use Rattle.agc_trace.proofs.Forward.{trace_goes_forward}

none_of : (b : Bool) → (b && false) ≡ false
none_of true = refl
none_of false = refl

pub begins : (s : State) → (entry_of s).cycle ≡ s.cycle
unfolding entry_of
begins s = refl

module _ (w : Selection) where
  too_early : (entry : Watched) → entry.entry.cycle < w.from → is_selected w entry ≡ false
  unfolding is_selected
  too_early entry l =
      let short : nat_le w.from entry.entry.cycle ≡ false = grind (arith, nat_tests) in
      ap (λ (b : Bool). (b && nat_le entry.entry.cycle w.to) && (is_stop entry.entry.happening || is_answer w entry.entry entry.changes)) short

  too_late : (entry : Watched) → w.to < entry.entry.cycle → is_selected w entry ≡ false
  unfolding is_selected
  too_late entry l =
      let long : nat_le entry.entry.cycle w.to ≡ false = grind (arith, nat_tests) in
      ap (λ (b : Bool). (nat_le w.from entry.entry.cycle && b) && (is_stop entry.entry.happening || is_answer w entry.entry entry.changes)) long
      ∙ ap (λ (b : Bool). b && (is_stop entry.entry.happening || is_answer w entry.entry entry.changes)) (none_of (nat_le w.from entry.entry.cycle))

  none_late : (from : ℕ) (entries : List Watched) → w.to < from → NeverGoBack from (map (λ (x : Watched). x.entry) entries) → selected w entries ≡ []
  unfolding selected
  none_late from [] l h = refl
  none_late from (entry ∷ entries) l h =
      no_entry w entry entries (too_late entry (omega (arith, h.0))) ∙ none_late entry.entry.cycle entries (omega (arith, h.0)) h.1

  module _ (cells : List ℕ) where
    -- after the last cycle no entry is selected
    pub no_late_entries : (s : State) → w.to < s.cycle → selected w (watch_of cells s) ≡ []
    no_late_entries s l =
        none_late s.cycle (watch_of cells s) l (subst (λ (xs : List Entry). NeverGoBack s.cycle xs) (sym (watch_reports_trace cells s)) (trace_goes_forward s))

    begins_watched : (s : State) → s.cycle < w.from → (watched_of cells s).entry.cycle < w.from
    begins_watched s l = subst (λ (c : ℕ). c < w.from) (sym (ap (λ (x : Entry). x.cycle) (watches cells s) ∙ begins s)) l

    nothing_at_stop : (s : State) → s.cycle < w.from → is_stop (upcoming_of s) ≡ true → selected w (watch_of cells s) ≡ []
    unfolding selected
    nothing_at_stop s l f =
        entries_at_stop w cells s f ∙ no_entry w (watched_of cells s) [] (too_early (watched_of cells s) (begins_watched s l))

    early_by : (b : Bool) (s : State) → is_stop (upcoming_of s) ≡ b → s.cycle < w.from →
        selected w (watch_of cells (boundary None s).0) ≡ selected w (watch_of cells s)
    early_by true s f l =
        let stays = stop_stays s f in
        nothing_at_stop (boundary None s).0 (subst (λ (c : ℕ). c < w.from) (sym stays.cycle) l) (stopped_reports (boundary None s).0 stays.why stays.stopped)
        ∙ sym (nothing_at_stop s l f)
    early_by false s f l =
        let unseen : is_selected w (watched_of cells s) ≡ false = too_early (watched_of cells s) (begins_watched s l) in
        sym (ap (λ (xs : List Watched). selected w xs) (watch_by_entry cells s)
        ∙ ap (λ (xs : List Watched). selected w (watched_of cells s ∷ xs)) (watch_goes_on (is_stop (upcoming_of s)) (watch_of cells (boundary None s).0) f)
        ∙ no_entry w (watched_of cells s) (watch_of cells (boundary None s).0) unseen)

    -- a boundary that begins before the first cycle is not selected, and none is after a stop
    no_early_entry : (s : State) → s.cycle < w.from → selected w (watch_of cells (boundary None s).0) ≡ selected w (watch_of cells s)
    no_early_entry s l = early_by (is_stop (upcoming_of s)) s refl l

-- What a boundary before a cycle leaves unchanged, the run to that cycle leaves unchanged.
module _ {X : Type 0} (reported : State → X) (from : ℕ) (stays : (s : State) → s.cycle < from → reported (boundary None s).0 ≡ reported s) where
  abbrev pub IsStillOf : State → State × Stepped → Type 0
  IsStillOf s r = reported r.0 ≡ reported s

  either_way : (b : Bool) (s t : State) (way : State × Stepped) → IsStillOf s (t, stepped.Quiet) → (b ≡ false → IsStillOf t way) →
      IsStillOf s (if b then (t, stepped.Quiet) else way)
  either_way true s t way h f = h
  either_way false s t way h f = f refl ∙ h

  way_by : (n end : ℕ) (s : State) (r : State × Stepped) → end ≤ from → IsStillOf s r →
      ((t : State) → t.cycle < from → IsStillOf t (next_before_within n end t)) → IsStillOf s (while_quiet_before end (next_before_within n end) r)
  way_by n end s (t, stepped.Quiet) l h f =
      either_way (nat_le end t.cycle) s t (next_before_within n end t) h (λ e. f t (grind (arith, nat_tests)))
  way_by n end s (t, stepped.Wrote write) l h f = h
  way_by n end s (t, stepped.Stopped why) l h f = h

  way_within : (n end : ℕ) (s : State) → end ≤ from → s.cycle < from → IsStillOf s (next_before_within n end s)
  unfolding next_before_within
  way_within zero end s l k = refl
  way_within (suc n) end s l k = way_by n end s (boundary None s) l (stays s k) (λ t m. way_within n end t l m)

  pub stays_before : (end : ℕ) (s t : State) (answer : Stepped) → end ≤ from → s.cycle < from → (t, answer) ≡ next_before end s → reported t ≡ reported s
  unfolding next_before
  stays_before end s t answer l k e = subst (λ (r : State × Stepped). IsStillOf s r) (sym e) (way_within (boundaries_left s) end s l k)

-- in the run to the first cycle no entry is selected
pub no_entry_before : (w : Selection) (cells : List ℕ) (end : ℕ) (s t : State) (answer : Stepped) → end ≤ w.from → s.cycle < w.from → (t, answer) ≡ next_before end s →
    selected w (watch_of cells t) ≡ selected w (watch_of cells s)
no_entry_before w cells = stays_before (λ (s : State). selected w (watch_of cells s)) w.from (no_early_entry w cells)

-- running to a quiet boundary or a write leaves fewer boundaries
pub fewer_on_way : (end : ℕ) (s t : State) (answer : Stepped) → (t, answer) ≡ next_before end s →
    (answer ≡ stepped.Quiet) ⊎ ((write : ChannelWrite) × (answer ≡ stepped.Wrote write)) → boundaries_left t < boundaries_left s
fewer_on_way end s t stepped.Quiet e goes = fewer_after_way end s t e
fewer_on_way end s t (stepped.Wrote write) e goes = fewer_after_write s t write (next_at_way_write end s t write e)
fewer_on_way end s t (stepped.Stopped why) e (inl quiet) = cc
fewer_on_way end s t (stepped.Stopped why) e (inr wrote) = let is = wrote.1 in cc
