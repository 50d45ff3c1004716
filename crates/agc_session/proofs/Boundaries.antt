-- Boundaries one after another: the state, the panel and the boundaries left after them.
use Rattle.std.specs.Prelude.{◌≡◌, ℕ, zero, suc, ◌+◌, ◌<◌, ◌≤◌, List, [], ◌∷◌, ◌++◌, length, replicate, None, Some, is_some, true, false, if◌then◌else◌}
use Rattle.std.proofs.Common.{refl, ap, sym, subst, ◌∙◌, arith, append-nil, append_assoc}
use Rattle.std.proofs.lemmas.List.{length-append}
use Rattle.agc_word.specs.declared.channel_write.ChannelWrite.{ChannelWrite}
use Rattle.agc_machine.specs.Boundary.{boundary}
use Rattle.agc_machine.specs.Laws.{Falls, after}
use Rattle.agc_machine.specs.Replay.{chain, writes_in}
use Rattle.agc_machine.specs.Run.{boundaries_left}
use Rattle.agc_machine.specs.State.{State}
use Rattle.agc_machine.specs.declared.answer.Stepped.{Stepped}
use Rattle.agc_machine.specs.declared.answer.Stepped.TheVariants as stepped
use Rattle.agc_machine.specs.declared.answer.Stop.{Stop}
use Rattle.agc_machine.proofs.Chain.{boundary_falls, some_left}
use Rattle.agc_machine.proofs.Kept.{boundary_keeps}
use Rattle.agc_machine.proofs.Taking.{IsLeft, chain_later, chain_left}
use Rattle.agc_panel.specs.Face.{panel_of}
use Rattle.agc_panel.specs.declared.face.Face.{Face}
use Rattle.agc_panel.proofs.Taken.{face_after-append}
use Rattle.agc_session.specs.Condition.{panel_after, panel_later}
use Rattle.agc_session.specs.Search.{span}
use Rattle.agc_session.specs.Session.{shown_after}
use Rattle.agc_session.proofs.OneRun.{after_is_last}

-- some boundaries, then more
pub after_plus : (n m : ℕ) (s : State) → after (n + m) s ≡ after m (after n s)
unfolding after
after_plus zero m s = let e : zero + m ≡ m = omega arith in ap (λ (k : ℕ). after k s) e
after_plus (suc n) m s =
    let e : suc n + m ≡ suc (n + m) = omega arith in ap (λ (k : ℕ). after k s) e ∙ after_plus n m (boundary None s).0

pub panel_plus : (n m : ℕ) (panel : Face) (s : State) → panel_later (n + m) panel s ≡ panel_later m (panel_later n panel s) (after n s)
unfolding after panel_later
panel_plus zero m panel s = let e : zero + m ≡ m = omega arith in ap (λ (k : ℕ). panel_later k panel s) e
panel_plus (suc n) m panel s =
    let e : suc n + m ≡ suc (n + m) = omega arith in
    ap (λ (k : ℕ). panel_later k panel s) e ∙ panel_plus n m (panel_after panel s) (boundary None s).0

pub after_one : (s : State) → after 1 s ≡ (boundary None s).0
unfolding after
after_one s = refl

pub after_next : (n : ℕ) (s : State) → after (n + 1) s ≡ (boundary None (after n s)).0
after_next n s = after_plus n 1 s ∙ after_one (after n s)

panel_one : (panel : Face) (s : State) → panel_later 1 panel s ≡ panel_after panel s
unfolding panel_later
panel_one panel s = refl

pub panel_next : (n : ℕ) (panel : Face) (s : State) → panel_later (n + 1) panel s ≡ panel_after (panel_later n panel s) (after n s)
panel_next n panel s = panel_plus n 1 panel s ∙ panel_one (panel_later n panel s) (after n s)

-- time does not go back
pub later_cycle : (n : ℕ) (s : State) → s.cycle ≤ (after n s).cycle
later_cycle n s = subst (λ (t : State). s.cycle ≤ t.cycle) (sym (after_is_last n s)) (chain_later n s)

pub same_limit : (n : ℕ) (s : State) → (after n s).limit ≡ s.limit
unfolding after
same_limit zero s = refl
same_limit (suc n) s = same_limit n (boundary None s).0 ∙ (boundary_keeps None s).1

fewer_events : (s t : State) → IsLeft s.events t.events → length t.events ≤ length s.events
fewer_events s t (taken, e) = omega (arith, ap length e, length-append taken t.events)

pub fewer_events_after : (n : ℕ) (s : State) → length (after n s).events ≤ length s.events
fewer_events_after n s =
    fewer_events s (after n s) (subst (λ (t : State). IsLeft s.events t.events) (sym (after_is_last n s)) (chain_left n s))

pub no_more_left : (n : ℕ) (s : State) → boundaries_left (after n s) ≤ boundaries_left s
unfolding boundaries_left
no_more_left n s = omega (arith, later_cycle n s, same_limit n s, fewer_events_after n s)

-- the boundaries that a machine can still take
pub span_at_stop : (s : State) (why : Stop) → s.stopped ≡ Some why → span s ≡ 0
span_at_stop s why e = rw e refl

pub span_at_most : (s : State) → span s ≤ boundaries_left s
span_at_most s = elim (is_some s.stopped) as (λ b. (if b then 0 else boundaries_left s) ≤ boundaries_left s) [
  | true ↦ omega arith
  | false ↦ omega arith
]

falls_by : (s : State) (r : State × Stepped) → Falls s r → span r.0 < boundaries_left s
falls_by s (t, stepped.Quiet) h = omega (arith, h.0, span_at_most t)
falls_by s (t, stepped.Wrote write) h = omega (arith, h.0, span_at_most t)
falls_by s (t, stepped.Stopped why) h = omega (arith, span_at_stop t why h.0, some_left s)

pub span_falls : (s : State) → s.stopped ≡ None → span (boundary None s).0 < span s
span_falls s e =
    let whole : span s ≡ boundaries_left s = rw e refl in
    omega (arith, whole, falls_by s (boundary None s) (boundary_falls s))

pub short_enough : (s : State) → s.limit ≤ 1000000000000 → length s.events ≤ 65536 → span s < 18446744073709551615
unfolding boundaries_left
short_enough s l e = omega (arith, l, e, span_at_most s)

-- the panel of all writes on the way
one_write : (writes : List ChannelWrite) (answer : Stepped) → shown_after answer (panel_of writes) ≡ panel_of (writes ++ writes_in (answer ∷ []))
unfolding writes_in
one_write writes stepped.Quiet = ap panel_of (sym (append-nil writes))
one_write writes (stepped.Wrote write) = face_after-append _ writes (write ∷ [])
one_write writes (stepped.Stopped why) = ap panel_of (sym (append-nil writes))

more_writes : (answer : Stepped) (answers : List Stepped) → writes_in (answer ∷ answers) ≡ writes_in (answer ∷ []) ++ writes_in answers
unfolding writes_in
more_writes stepped.Quiet answers = refl
more_writes (stepped.Wrote write) answers = refl
more_writes (stepped.Stopped why) answers = refl

pub panel_of_chain : (n : ℕ) (writes : List ChannelWrite) (s : State)
    → panel_later n (panel_of writes) s ≡ panel_of (writes ++ writes_in (chain (replicate n None) s).answers)
unfolding panel_later chain writes_in
panel_of_chain zero writes s = ap panel_of (sym (append-nil writes))
panel_of_chain (suc n) writes s =
    let r = boundary None s in
    let first : List ChannelWrite = writes_in (r.1 ∷ []) in
    let rest : List Stepped = (chain (replicate n None) r.0).answers in
    ap (λ (panel : Face). panel_later n panel r.0) (one_write writes r.1) ∙ panel_of_chain n (writes ++ first) r.0
    ∙ ap panel_of (append_assoc writes first (writes_in rest) ∙ ap (λ (more : List ChannelWrite). writes ++ more) (sym (more_writes r.1 rest)))
