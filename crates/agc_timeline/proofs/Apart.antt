-- The first difference of two films is the least cycle at which they show different panels.
use Rattle.std.proofs.Common.{◌≡◌, ◌≢◌, ℕ, ◌+◌, ◌==◌, ◌&&◌, Bool, true, false, List, [], ◌∷◌, Option, Some, None, refl, arith}
use Rattle.std.specs.Prelude.{if◌then◌else◌, min}
use Rattle.std.specs.Str.{bytes_eq}
use Rattle.std.proofs.lemmas.Bool.Decides.{nat_tests, not_from_Decides}
use Rattle.std.proofs.lemmas.Slice.Eq.{bytes_eq-Decides}
use Rattle.agc_machine.specs.State.{State}
use Rattle.agc_panel.specs.Face.{panel_of}
use Rattle.agc_panel.specs.Text.{panel_text}
use Rattle.agc_panel.specs.declared.face.Face.{Face}
use Rattle.agc_timeline.specs.Frames.{shown_after, shown_at}
use Rattle.agc_timeline.specs.Laws.{AreCuts, frames_of_run}
use Rattle.agc_timeline.specs.Divergence.{PartAt, first_difference}
use Rattle.agc_timeline.specs.declared.frame.Frame.{Frame}
use Rattle.agc_trace.specs.declared.span.Span.{Span}
use Rattle.agc_timeline.proofs.Alone.{earlier_alone, left_alone, right_alone}
use Rattle.agc_timeline.proofs.Cuts.{cuts_later, film_is_cut}
use Rattle.agc_timeline.proofs.Differ.{DifferFirst, at_the_same_cycle}
use Rattle.agc_timeline.proofs.PanelAt.{text_at}
use Rattle.agc_timeline.proofs.Together.{differ_after_more, frames_differ}

-- both films have a frame: what the tests of these two frames show
by_frames : (from : ℕ) (a b : Face) (l r : Frame) (ls rs : List Frame) (after : Option ℕ) (at_once alike : Bool) → panel_text a ≡ panel_text b →
    AreCuts from (panel_text a) (l ∷ ls) → AreCuts from (panel_text b) (r ∷ rs) → (l.cycle == r.cycle) ≡ at_once →
    bytes_eq (panel_text l.panel) (panel_text r.panel) ≡ alike →
    (r.cycle ≡ l.cycle → panel_text l.panel ≡ panel_text r.panel → DifferFirst (l.cycle + 1) (text_at l.panel ls) (text_at r.panel rs) after) →
    DifferFirst from (text_at a (l ∷ ls)) (text_at b (r ∷ rs)) (if at_once && alike then after else Some (min l.cycle r.cycle))
by_frames from a b l r ls rs after true true same left right c t d =
    let at_once : r.cycle ≡ l.cycle = grind (arith, nat_tests) in
    let texts = bytes_eq-Decides (panel_text l.panel) (panel_text r.panel) in
    differ_after_more from a b l r ls rs after same left right at_once (d at_once (texts.0 t))
by_frames from a b l r ls rs after true false same left right c t d =
    let at_once : r.cycle ≡ l.cycle = grind (arith, nat_tests) in
    let differ = not_from_Decides _ (bytes_eq-Decides (panel_text l.panel) (panel_text r.panel)) t in
    at_the_same_cycle from (text_at a (l ∷ ls)) (text_at b (r ∷ rs)) l.cycle (min l.cycle r.cycle) (omega (arith, at_once))
    (frames_differ from a b l r ls rs same left right at_once differ)
by_frames from a b l r ls rs after false alike same left right c t d =
    let differ : l.cycle ≢ r.cycle = grind (arith, nat_tests) in
    earlier_alone from a b l r ls rs same left right differ

differ_first : (from : ℕ) (a b : Face) (ls rs : List Frame) → panel_text a ≡ panel_text b → AreCuts from (panel_text a) ls →
    AreCuts from (panel_text b) rs → DifferFirst from (text_at a ls) (text_at b rs) (first_difference ls rs)
unfolding first_difference
differ_first from a b [] [] same left right = λ n. same
differ_first from a b [] (r ∷ rs) same left right = right_alone from a b r [] rs same tt right
differ_first from a b (l ∷ ls) [] same left right = left_alone from a b l ls [] same left tt
differ_first from a b (l ∷ ls) (r ∷ rs) same left right =
    by_frames from a b l r ls rs (first_difference ls rs) (l.cycle == r.cycle) (bytes_eq (panel_text l.panel) (panel_text r.panel)) same left right
    refl refl
    (λ at_once alike.
    differ_first (l.cycle + 1) l.panel r.panel ls rs alike left.2
    (cuts_later (l.cycle + 1) (r.cycle + 1) (panel_text r.panel) rs (omega (arith, at_once)) right.2))

part_where_differ : (ls rs : List Frame) (at : Option ℕ) → DifferFirst 0 (text_at (panel_of []) ls) (text_at (panel_of []) rs) at → PartAt ls rs at
unfolding shown_at
part_where_differ ls rs None d = d
part_where_differ ls rs (Some cycle) d = (d.1, d.2)

cut_from_start : (s : State) (part : Span) → AreCuts 0 (panel_text (panel_of [])) (frames_of_run part s)
unfolding shown_after
cut_from_start s part = cuts_later 0 part.from (panel_text (panel_of [])) (frames_of_run part s) (omega arith) (film_is_cut s part)

pub films_part : (s t : State) (part : Span) →
    PartAt (frames_of_run part s) (frames_of_run part t) (first_difference (frames_of_run part s) (frames_of_run part t))
films_part s t part =
    part_where_differ (frames_of_run part s) (frames_of_run part t) (first_difference (frames_of_run part s) (frames_of_run part t))
    (differ_first 0 (panel_of []) (panel_of []) (frames_of_run part s) (frames_of_run part t) refl (cut_from_start s part) (cut_from_start t part))
