-- A session that goes back by a state on its way comes to where a run from the start comes to.
use Rattle.std.specs.Prelude.{◌≡◌, ℕ, zero, suc, ◌+◌, ◌-◌, ◌^◌, List, [], ◌∷◌, ◌++◌, min, replicate, None}
use Rattle.std.proofs.Common.{refl, ap, sym, subst, ◌∙◌, arith, append-nil, append_assoc}
use Rattle.std.proofs.lemmas.List.{length_push}
use Rattle.agc_word.specs.declared.channel_write.ChannelWrite.{ChannelWrite}
use Rattle.agc_machine.specs.Boundary.{boundary}
use Rattle.agc_machine.specs.Replay.{chain, writes_in}
use Rattle.agc_machine.specs.State.{State}
use Rattle.agc_machine.specs.declared.answer.Stepped.{Stepped}
use Rattle.agc_machine.specs.declared.answer.Stepped.TheVariants as stepped
use Rattle.agc_panel.proofs.Taken.{face_after-append}
use Rattle.agc_panel.specs.Face.{blank_face, face_after, panel_of}
use Rattle.agc_panel.specs.declared.face.Face.{Face}
use Rattle.agc_session.specs.Checkpoints.{IsOnWay, counted}
use Rattle.agc_session.specs.Session.{BeginBefore, SessionState, retained_before, script_before, start_with}
use Rattle.agc_repl.specs.Repl.{after_run, at_start, gone_back, gone_on, noted, rewound, run_of}
use Rattle.agc_repl.specs.Run.{run_from, run_to}
use Rattle.agc_repl.specs.declared.repl.Repl.{Repl}
use Rattle.agc_repl.proofs.Going.{gone_at, gone_nowhere, gone_then, same_repl}
use Rattle.agc_repl.proofs.Runs.{Follows, Onward, follows, follows_on, none_come, one_onward}

-- the panel shows all writes on the way, and they are all counted
one_more : (count : ℕ) (done : List ChannelWrite) (write : ChannelWrite) → count ≡ counted done → min (count + 1) (2 ^ 64 - 1) ≡ counted (done ++ write ∷ [])
one_more count done write e = omega (arith, e, length_push done write)

gone_is : (last : State) (done writes : List ChannelWrite) (t : Repl) → t.session.panel ≡ panel_of done → t.writes ≡ counted done
    → gone_on last writes t
    ≡ record t { session = record t.session { now = last; panel = panel_of (done ++ writes) }; writes = counted (done ++ writes) }
unfolding gone_on
gone_is last done [] t p e =
    same_repl (gone_on last [] t) _ refl refl refl refl refl (p ∙ ap panel_of (sym (append-nil done))) (e ∙ ap counted (sym (append-nil done))) refl
gone_is last done (write ∷ writes) t p e =
    gone_is last (done ++ write ∷ []) writes (noted write t)
    (ap (λ (face : Face). face_after face (write ∷ [])) p ∙ face_after-append blank_face done (write ∷ []))
    (one_more t.writes done write e)
    ∙ ap (λ (all : List ChannelWrite). record t { session = record t.session { now = last; panel = panel_of all }; writes = counted all })
    (append_assoc done (write ∷ []) writes)

writes_then : (answer : Stepped) (answers : List Stepped) → writes_in (answer ∷ answers) ≡ writes_in (answer ∷ []) ++ writes_in answers
unfolding writes_in
writes_then stepped.Quiet answers = refl
writes_then (stepped.Wrote write) answers = refl
writes_then (stepped.Stopped why) answers = refl

-- each boundary before the cycle is a part of the way to it
part_of_way : (n cycle : ℕ) (s t : Repl) → Follows [] cycle s t → BeginBefore n cycle t.session.now
    → Follows [] cycle s (gone_on (chain (replicate n None) t.session.now).last (writes_in (chain (replicate n None) t.session.now).answers) t)
unfolding chain writes_in BeginBefore
part_of_way zero cycle s t f b = subst (Follows [] cycle s) (sym (gone_nowhere t)) f
part_of_way (suc n) cycle s t f b =
    let r : State × Stepped = boundary None t.session.now in
    let writes : List ChannelWrite = writes_in (r.1 ∷ []) in
    let u : Repl = gone_on r.0 writes t in
    let at : u.session.now ≡ r.0 = gone_at r.0 writes t in
    let onward : Onward [] cycle t u r.1 None = one_onward cycle t u r.1 b.0 (ap (λ (x : State). (x, r.1)) at) (ap (λ (x : State). gone_on x writes t) (sym at)) in
    let next : Follows [] cycle s u = follows_on [] cycle s t u r.1 None f onward refl in
    let rest = chain (replicate n None) r.0 in
    let there : gone_on (chain (replicate n None) u.session.now).last (writes_in (chain (replicate n None) u.session.now).answers) u
    ≡ gone_on rest.last (writes_in (r.1 ∷ rest.answers)) t =
    ap (λ (x : State). gone_on (chain (replicate n None) x).last (writes_in (chain (replicate n None) x).answers) u) at
    ∙ gone_then rest.last r.0 writes (writes_in rest.answers) t
    ∙ ap (λ (all : List ChannelWrite). gone_on rest.last all t) (sym (writes_then r.1 rest.answers)) in
    subst (Follows [] cycle s) there (part_of_way n cycle s u next (subst (BeginBefore n cycle) (sym at) b.1))

pub back_near : (cut cycle : ℕ) (s u : Repl) (t : SessionState) (writes : ℕ) → t.base ≡ s.session.base → t.retained ≡ retained_before cut s.session
    → t.script ≡ script_before cut s.session → t.injected ≡ [] → IsOnWay cycle (start_with (script_before cut s.session) s.session.now) t.now t.panel writes
    → u ≡ after_run (run_of [] cycle (record { session = t; writes = writes; settings = s.settings })) (record { session = t; writes = writes; settings = s.settings })
    → u ≡ gone_back cut cycle s
back_near cut cycle s u t writes a b c d way e =
    let start : Repl = at_start s.settings (rewound cut s.session) in
    let n = way.on_run.boundaries in
    let first : Follows [] cycle start start = follows [] cycle start in
    let there = gone_on (chain (replicate n None) start.session.now).last (writes_in (chain (replicate n None) start.session.now).answers) start in
    let near : Follows [] cycle start there = part_of_way n cycle start start first way.before in
    let same : there ≡ record { session = t; writes = writes; settings = s.settings } =
    gone_is (chain (replicate n None) start.session.now).last [] (writes_in (chain (replicate n None) start.session.now).answers) start refl refl
    ∙ same_repl _ (record { session = t; writes = writes; settings = s.settings }) (sym a) (sym b) (sym c) (sym d) way.on_run.state (sym way.on_run.shown)
    (sym way.on_run.count) refl in
    e ∙ ap (λ (x : Repl). after_run (run_of [] cycle x) x) (sym same) ∙ near.left
