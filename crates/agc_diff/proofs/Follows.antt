-- What is still to be observed of a run, write by write.
use Rattle.std.proofs.Common.{◌≡◌, Bool, true, false, [], ◌∷◌, Option, Some, None, refl, ap, sym, ◌∙◌, subst, arith}
use Rattle.std.specs.Prelude.{◌==◌, IfSome, if◌then◌else◌, is_some}
use Rattle.std.specs.List.{cons_option}
use Rattle.agc_word.specs.declared.channel_write.ChannelWrite.{ChannelWrite}
use Rattle.agc_machine.specs.Run.{Run, next_of, run_of}
use Rattle.agc_machine.specs.Laws.{HasNextChannel}
use Rattle.agc_machine.specs.State.{State}
use Rattle.agc_machine.specs.declared.answer.Next.TheVariants as next
use Rattle.agc_machine.specs.declared.answer.Stop.{Stop}
use Rattle.agc_machine.proofs.Chain.{next_of_stopped, run_at_stop, run_at_write, stop_is_kept}
use Rattle.agc_panel.specs.Face.{face_after}
use Rattle.agc_panel.specs.Text.{shows_same}
use Rattle.agc_panel.specs.declared.face.Face.{Face}
use Rattle.agc_diff.specs.ObservedCursor.{HasShown, shown_left}
use Rattle.agc_diff.specs.Observation.{FitsShown, seen_at, shown_after, shown_at, word_of}
use Rattle.agc_trace.specs.declared.diff_by.DiffBy.{DiffBy}
use Rattle.agc_trace.specs.declared.diff_by.DiffBy.TheVariants as kind
use Rattle.agc_diff.specs.declared.observed.observation.Observation.{Observation}

-- what a run shows from a state is what its next write shows, and the rest
at_write : (what : DiffBy) (p q : Face) (s t : State) (write : ChannelWrite) (shown : Option Observation) → (t, next.Wrote write) ≡ next_of s →
    q ≡ face_after p (write ∷ []) → shown ≡ shown_at what p write → shown_left what p s ≡ cons_option shown (shown_left what q t)
unfolding shown_after
at_write what p q s t write shown e f g =
    ap (λ (r : Run). shown_after what p r.writes) (run_at_write s t write e)
    ∙ ap (λ (o : Option Observation). cons_option o (shown_after what (face_after p (write ∷ [])) (run_of t).writes)) (sym g)
    ∙ ap (λ (face : Face). cons_option shown (shown_left what face t)) (sym f)

nothing_left : (what : DiffBy) (p : Face) (s t : State) → run_of s ≡ record { writes = []; last = t } → shown_left what p s ≡ []
unfolding shown_after
nothing_left what p s t e = ap (λ (r : Run). shown_after what p r.writes) e

run_at_end : (s t : State) (why : Stop) → (t, next.Stopped why) ≡ next_of s → run_of t ≡ record { writes = []; last = t }
run_at_end s t why e = run_at_stop t t why (sym (next_of_stopped t why (stop_is_kept s t why e)))

-- the run stops before any further observation
pub stops : (what : DiffBy) (p q : Face) (s t u : State) (why : Stop) → shown_left what q t ≡ shown_left what p s → (u, next.Stopped why) ≡ next_of t →
    HasShown what p s None q u
stops what p q s t u why same e =
    let before : shown_left what q t ≡ [] = nothing_left what q t u (run_at_stop t u why e) in
    let after : shown_left what q u ≡ [] = nothing_left what q u u (run_at_end t u why e) in
    record { next = sym same ∙ before ∙ sym after; none = λ e. after }

none_is : (o : Option Observation) → is_some o ≡ false → o ≡ None
none_is None h = refl
none_is (Some shown) h = cc

not_none : (o : Option Observation) → is_some o ≡ true → o ≡ None → ⊥
not_none None h e = cc
not_none (Some shown) h e = cc

-- a write without an observation: what is left to observe is the same
pub goes_on : (what : DiffBy) (p q r : Face) (s t u : State) (write : ChannelWrite) (shown : Option Observation) → (u, next.Wrote write) ≡ next_of t →
    r ≡ face_after q (write ∷ []) → shown ≡ shown_at what q write → is_some shown ≡ false → shown_left what q t ≡ shown_left what p s →
    shown_left what r u ≡ shown_left what p s
goes_on what p q r s t u write shown e f g nothing same =
    ap (λ (o : Option Observation). cons_option o (shown_left what r u)) (sym (none_is shown nothing)) ∙ sym (at_write what q r t u write shown e f g) ∙ same

-- a write with an observation
pub shows : (what : DiffBy) (p q r : Face) (s t u : State) (write : ChannelWrite) (shown : Option Observation) → (u, next.Wrote write) ≡ next_of t →
    r ≡ face_after q (write ∷ []) → shown ≡ shown_at what q write → is_some shown ≡ true → shown_left what q t ≡ shown_left what p s →
    HasShown what p s shown r u
shows what p q r s t u write shown e f g does same =
    record { next = sym same ∙ at_write what q r t u write shown e f g; none = λ none. absurd (not_none shown does none) }

-- what is seen, if something is
word_seen : (b : Bool) (shown : Observation) → is_some (if b then Some shown else None) ≡ true → (if b then Some shown else None) ≡ Some shown
word_seen true shown h = refl
word_seen false shown h = cc

panel_seen : (b : Bool) (shown : Observation) → is_some (if b then None else Some shown) ≡ true → (if b then None else Some shown) ≡ Some shown
panel_seen true shown h = cc
panel_seen false shown h = refl

pub is_seen : (what : DiffBy) (p q : Face) (write : ChannelWrite) → q ≡ face_after p (write ∷ []) → is_some (shown_at what p write) ≡ true →
    shown_at what p write ≡ Some (seen_at what q write)
unfolding shown_at
is_seen kind.Writes p q write e h = refl
is_seen (kind.Channel channel) p q write e h = word_seen (write.channel == channel) (word_of write) h
is_seen kind.Panels p q write e h = rw e (panel_seen (shows_same p (face_after p (write ∷ []))) _ h)

word_fits : (write : ChannelWrite) → HasNextChannel (next.Wrote write) → FitsShown (word_of write)
word_fits write h = omega (arith, h.1)

one_fits : (b : Bool) (write : ChannelWrite) → HasNextChannel (next.Wrote write) → IfSome (if b then Some (word_of write) else None) FitsShown
one_fits true write h = word_fits write h
one_fits false write h = tt

panel_fits : (b : Bool) (shown : Observation) → FitsShown shown → IfSome (if b then None else Some shown) FitsShown
panel_fits true shown h = tt
panel_fits false shown h = h

at_fits : (what : DiffBy) (p : Face) (write : ChannelWrite) → HasNextChannel (next.Wrote write) → IfSome (shown_at what p write) FitsShown
unfolding shown_at
at_fits kind.Writes p write h = word_fits write h
at_fits (kind.Channel channel) p write h = one_fits (write.channel == channel) write h
at_fits kind.Panels p write h = panel_fits (shows_same p (face_after p (write ∷ []))) _ tt

-- its channel has three digits
pub fits : (what : DiffBy) (p : Face) (write : ChannelWrite) (shown : Option Observation) → HasNextChannel (next.Wrote write) → shown ≡ shown_at what p write →
    IfSome shown FitsShown
fits what p write shown h e = subst (λ (o : Option Observation). IfSome o FitsShown) (sym e) (at_fits what p write h)
