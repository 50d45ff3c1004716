-- The panel at a cycle, before, at and after the frames of a film.
use Rattle.std.proofs.Common.{◌≡◌, ℕ, ◌+◌, ◌≤◌, ◌<◌, Bool, true, false, List, [], ◌∷◌, Option, Some, None, refl, ap, sym, ◌∙◌, arith}
use Rattle.std.specs.Prelude.{cond, filter, map, nat_le, unwrap_or}
use Rattle.std.specs.List.{last_or}
use Rattle.std.proofs.lemmas.Bool.Decides.{nat_tests}
use Rattle.agc_panel.specs.Text.{panel_text}
use Rattle.agc_panel.specs.declared.face.Face.{Face}
use Rattle.agc_timeline.specs.Laws.{AreCuts}
use Rattle.agc_timeline.specs.declared.frame.Frame.{Frame}

-- the panel at a cycle, after another one
abbrev pub panel_at : Face → List Frame → ℕ → Face
panel_at face frames cycle = unwrap_or (last_or None (map (λ frame. frame.panel) (filter (λ frame. nat_le frame.cycle cycle) frames))) face

-- a frame up to the cycle is past, and a later one is not
last_past : (x y : Face) (xs : List Face) → unwrap_or (last_or (Some x) xs) y ≡ unwrap_or (last_or None xs) x
last_past x y [] = refl
last_past x y (z ∷ zs) = last_past z y zs ∙ sym (last_past z x zs)

pub panel_past : (face : Face) (frame : Frame) (frames : List Frame) (cycle : ℕ) → frame.cycle ≤ cycle →
    panel_at face (frame ∷ frames) cycle ≡ panel_at frame.panel frames cycle
panel_past face frame frames cycle h =
    let past : nat_le frame.cycle cycle ≡ true = grind (arith, nat_tests) in
    let rest : List Frame = filter (λ one. nat_le one.cycle cycle) frames in
    ap (λ (b : Bool). unwrap_or (last_or None (map (λ (one : Frame). one.panel) (cond b (frame ∷ rest) rest))) face) past
    ∙ last_past frame.panel face (map (λ one. one.panel) rest)

pub panel_before : (from : ℕ) (shown : List ℕ) (face : Face) (frames : List Frame) (cycle : ℕ) → AreCuts from shown frames → cycle < from →
    panel_at face frames cycle ≡ face
panel_before from shown face [] cycle h l = refl
panel_before from shown face (frame ∷ frames) cycle h l =
    let later : nat_le frame.cycle cycle ≡ false = grind (arith, nat_tests, h.0) in
    let rest : List Frame = filter (λ one. nat_le one.cycle cycle) frames in
    ap (λ (b : Bool). unwrap_or (last_or None (map (λ (one : Frame). one.panel) (cond b (frame ∷ rest) rest))) face) later
    ∙ panel_before (frame.cycle + 1) (panel_text frame.panel) face frames cycle h.2 (omega (arith, h.0))

-- what is shown before all frames is still shown if no frame is past
through : (past : Option Face) (a b : Face) → panel_text a ≡ panel_text b → panel_text (unwrap_or past a) ≡ panel_text (unwrap_or past b)
through (Some face) a b e = refl
through None a b e = e

pub panel_after_more : (a b : Face) (frames : List Frame) (cycle : ℕ) → panel_text a ≡ panel_text b → panel_text (panel_at a frames cycle) ≡ panel_text (panel_at b frames cycle)
panel_after_more a b frames cycle e = through (last_or None (map (λ frame. frame.panel) (filter (λ frame. nat_le frame.cycle cycle) frames))) a b e

-- what a film shows at a cycle, after a panel
abbrev pub text_at : Face → List Frame → ℕ → List ℕ
text_at face frames cycle = panel_text (panel_at face frames cycle)

pub text_before_all : (from : ℕ) (face : Face) (frames : List Frame) (n : ℕ) → AreCuts from (panel_text face) frames → n < from →
    text_at face frames n ≡ panel_text face
text_before_all from face frames n cuts early = ap panel_text (panel_before from (panel_text face) face frames n cuts early)

pub text_before_frame : (from : ℕ) (face : Face) (frame : Frame) (frames : List Frame) (n : ℕ) → AreCuts from (panel_text face) (frame ∷ frames) →
    n < frame.cycle → text_at face (frame ∷ frames) n ≡ panel_text face
text_before_frame from face frame frames n cuts early = text_before_all frame.cycle face (frame ∷ frames) n (omega arith, cuts.1, cuts.2) early

pub text_after_frame : (face : Face) (frame : Frame) (frames : List Frame) (n : ℕ) → frame.cycle ≤ n →
    text_at face (frame ∷ frames) n ≡ text_at frame.panel frames n
text_after_frame face frame frames n past = ap panel_text (panel_past face frame frames n past)

pub text_at_frame : (from : ℕ) (face : Face) (frame : Frame) (frames : List Frame) → AreCuts from (panel_text face) (frame ∷ frames) →
    text_at face (frame ∷ frames) frame.cycle ≡ panel_text frame.panel
text_at_frame from face frame frames cuts =
    text_after_frame face frame frames frame.cycle (omega arith) ∙ text_before_all (frame.cycle + 1) frame.panel frames frame.cycle cuts.2 (omega arith)
