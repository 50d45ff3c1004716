-- Sessions with the same script are on one run.
use Rattle.std.specs.Prelude.{◌≡◌, ◌⊎◌, ℕ, zero, suc, ◌≤◌, List, replicate, None}
use Rattle.std.proofs.Common.{refl, ap, sym, subst, ◌∙◌, arith, inl, inr}
use Rattle.std.proofs.lemmas.Bool.Decides.{leb_tells}
use Rattle.agc_word.specs.Number.{Number}
use Rattle.agc_script.specs.Merge.{joined}
use Rattle.agc_script.specs.declared.event.Event.{Event}
use Rattle.agc_machine.specs.Boundary.{boundary}
use Rattle.agc_machine.specs.Laws.{IsSameRun, after}
use Rattle.agc_machine.specs.Replay.{Chain, chain, writes_in}
use Rattle.agc_machine.specs.State.{State, start_state}
use Rattle.agc_panel.specs.Face.{panel_of}
use Rattle.agc_session.specs.Session.{ComesTo, IsInjectedAgain, IsReplay, SessionState, plain_run, start_with, script_of}

pub after_is_last : (n : ℕ) (s : State) → after n s ≡ (chain (replicate n None) s).last
unfolding after chain
after_is_last zero s = refl
after_is_last (suc n) s = after_is_last n (boundary None s).0

-- fewer boundaries of a run, then the rest of it
on_the_way : (n m : ℕ) (s : State) → n ≤ m → ComesTo (chain (replicate n None) s).last (chain (replicate m None) s).last
unfolding chain
on_the_way zero m s h = (m, after_is_last m s)
on_the_way (suc n) zero s h = absurd (omega (arith, h))
on_the_way (suc n) (suc m) s h = on_the_way n m (boundary None s).0 (omega (arith, h))

one_start : (script : List Event) (s t : State) → IsSameRun s t → start_with script t ≡ start_with script s
one_start script s t h =
    ap (λ (words : List Number). start_state words script t.limit None) h.0
    ∙ ap (λ (limit : ℕ). start_state s.processor.store.fixed script limit None) h.1

-- both are chains of the first session's run
same_chain : (n : ℕ) (script : List Event) (s t : SessionState) → IsSameRun s.now t.now → plain_run n script t ≡ plain_run n script s
same_chain n script s t e = ap (λ (start : State). chain (replicate n None) start) (one_start script s.now t.now e)

pub one_run : (script : List Event) (s t : SessionState) → IsReplay script s → IsReplay script t → IsSameRun s.now t.now
    → ComesTo s.now t.now ⊎ ComesTo t.now s.now
one_run script s t h k e =
    let start : State = start_with script s.now in
    let there : (chain (replicate k.boundaries None) start).last ≡ t.now = ap (λ (c : Chain). c.last) (sym (same_chain k.boundaries script s t e)) ∙ k.state in
    elim (leb_tells h.boundaries k.boundaries) as (λ _. ComesTo s.now t.now ⊎ ComesTo t.now s.now) [
      | inl w ↦ inl
          (subst (λ (x : State). ComesTo x t.now) h.state
          (subst (λ (x : State). ComesTo (chain (replicate h.boundaries None) start).last x) there (on_the_way h.boundaries k.boundaries start (omega (arith, w.1)))))
      | inr w ↦ inr
          (subst (λ (x : State). ComesTo x s.now) there
          (subst (λ (x : State). ComesTo (chain (replicate k.boundaries None) start).last x) h.state (on_the_way k.boundaries h.boundaries start (omega (arith, w.1)))))
    ]

same_chains : (script : List Event) (s t : SessionState) (n m : ℕ) → IsSameRun s.now t.now → n ≡ m → plain_run n script s ≡ plain_run m script t
same_chains script s t n m e same = ap (λ (i : ℕ). plain_run i script s) same ∙ sym (same_chain m script s t e)

pub one_state : (script : List Event) (s t : SessionState) (h : IsReplay script s) (k : IsReplay script t) → IsSameRun s.now t.now
    → h.boundaries ≡ k.boundaries → s.now ≡ t.now
one_state script s t h k e same =
    sym h.state ∙ ap (λ (c : Chain). c.last) (same_chains script s t h.boundaries k.boundaries e same) ∙ k.state

pub one_panel : (script : List Event) (s t : SessionState) (h : IsReplay script s) (k : IsReplay script t) → IsSameRun s.now t.now
    → h.boundaries ≡ k.boundaries → s.panel ≡ t.panel
one_panel script s t h k e same =
    sym h.panel ∙ ap (λ (c : Chain). panel_of (writes_in c.answers)) (same_chains script s t h.boundaries k.boundaries e same) ∙ k.panel

-- the discarded events are injected again
pub same_script : (cycle : ℕ) (s t : SessionState) → IsInjectedAgain cycle s t → script_of t ≡ script_of s
same_script cycle s t h = ap (joined t.script) h.injected ∙ h.again

state_by : (script other : List Event) (s t : SessionState) → other ≡ script → IsSameRun s.now t.now → (h : IsReplay script s) (k : IsReplay other t)
    → h.boundaries ≡ k.boundaries → t.now ≡ s.now
state_by script other s t e run h =
    subst (λ (x : List Event). (k : IsReplay x t) → h.boundaries ≡ k.boundaries → t.now ≡ s.now) (sym e)
    (λ k same. sym (one_state script s t h k run same))

panel_by : (script other : List Event) (s t : SessionState) → other ≡ script → IsSameRun s.now t.now → (h : IsReplay script s) (k : IsReplay other t)
    → h.boundaries ≡ k.boundaries → t.panel ≡ s.panel
panel_by script other s t e run h =
    subst (λ (x : List Event). (k : IsReplay x t) → h.boundaries ≡ k.boundaries → t.panel ≡ s.panel) (sym e)
    (λ k same. sym (one_panel script s t h k run same))

pub same_state : (cycle : ℕ) (s t : SessionState) → IsInjectedAgain cycle s t → (h : IsReplay (script_of s) s) (k : IsReplay (script_of t) t)
    → h.boundaries ≡ k.boundaries → t.now ≡ s.now
same_state cycle s t a h k same = state_by (script_of s) (script_of t) s t (same_script cycle s t a) a.run h k same

pub same_panel : (cycle : ℕ) (s t : SessionState) → IsInjectedAgain cycle s t → (h : IsReplay (script_of s) s) (k : IsReplay (script_of t) t)
    → h.boundaries ≡ k.boundaries → t.panel ≡ s.panel
same_panel cycle s t a h k same = panel_by (script_of s) (script_of t) s t (same_script cycle s t a) a.run h k same
