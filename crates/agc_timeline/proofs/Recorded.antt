-- A recorder takes the writes of a run, one after another.
use Rattle.std.proofs.Common.{◌≡◌, ℕ, Bool, true, false, Option, Some, None, List, [], ◌∷◌, ◌++◌, ap, sym, ◌∙◌, append_assoc, append-nil}
use Rattle.std.specs.Prelude.{if◌then◌else◌}
use Rattle.std.specs.Str.{bytes_eq}
use Rattle.agc_word.specs.declared.channel_write.ChannelWrite.{ChannelWrite}
use Rattle.agc_panel.specs.Face.{panel_of}
use Rattle.agc_panel.specs.Text.{panel_text}
use Rattle.agc_panel.specs.declared.face.Face.{Face}
use Rattle.agc_timeline.specs.Frames.{frame_of, frames_after, opening_of, shown_after}
use Rattle.agc_timeline.specs.Run.{HasTaken}
use Rattle.agc_timeline.specs.declared.frame.Frame.{Frame}
use Rattle.agc_timeline.specs.declared.recorder.Recorder.{Recorder}

-- the frames of two lists of writes, one after the other
pub frames_of_both : (before xs ys : List ChannelWrite) →
    frames_after before (xs ++ ys) ≡ frames_after before xs ++ frames_after (before ++ xs) ys
unfolding frames_after
frames_of_both before [] ys = ap (λ (all : List ChannelWrite). frames_after all ys) (sym (append-nil before))
frames_of_both before (x ∷ xs) ys =
    ap (λ (fs : List Frame). frame_of before x ++ fs)
    (frames_of_both (before ++ x ∷ []) xs ys
    ∙ ap (λ (all : List ChannelWrite). frames_after (before ++ x ∷ []) xs ++ frames_after all ys) (append_assoc before (x ∷ []) xs))
    ∙ sym (append_assoc (frame_of before x) (frames_after (before ++ x ∷ []) xs) (frames_after (before ++ x ∷ xs) ys))

-- one more write
frames_next : (before taken : List ChannelWrite) (write : ChannelWrite) →
    frames_after before (taken ++ write ∷ []) ≡ frames_after before taken ++ frame_of (before ++ taken) write
unfolding frames_after
frames_next before taken write =
    frames_of_both before taken (write ∷ [])
    ∙ ap (λ (fs : List Frame). frames_after before taken ++ fs) (append-nil (frame_of (before ++ taken) write))

-- the frame of a write, or of an opening, by what two panels show
abbrev one_or_none : Bool → ℕ → Option ChannelWrite → Face → List Frame
one_or_none alike cycle write face = if alike then [] else record { cycle = cycle; written = write; panel = face } ∷ []

pub none_where_alike : (cycle : ℕ) (write : Option ChannelWrite) (a b c d : Face) → a ≡ c → b ≡ d → true ≡ bytes_eq (panel_text a) (panel_text b) →
    one_or_none (bytes_eq (panel_text c) (panel_text d)) cycle write d ≡ []
none_where_alike cycle write a b c d p q e =
    ap (λ (alike : Bool). one_or_none alike cycle write d)
    (sym (e ∙ ap (λ (x : Face). bytes_eq (panel_text x) (panel_text b)) p ∙ ap (λ (x : Face). bytes_eq (panel_text c) (panel_text x)) q))

pub one_where_not : (cycle : ℕ) (write : Option ChannelWrite) (a b c d : Face) → a ≡ c → b ≡ d → false ≡ bytes_eq (panel_text a) (panel_text b) →
    one_or_none (bytes_eq (panel_text c) (panel_text d)) cycle write d ≡ record { cycle = cycle; written = write; panel = b } ∷ []
one_where_not cycle write a b c d p q e =
    ap (λ (alike : Bool). one_or_none alike cycle write d)
    (sym (e ∙ ap (λ (x : Face). bytes_eq (panel_text x) (panel_text b)) p ∙ ap (λ (x : Face). bytes_eq (panel_text c) (panel_text x)) q))
    ∙ ap (λ (x : Face). record { cycle = cycle; written = write; panel = x } ∷ []) (sym q)

-- a film begins
pub taken_none : (cycle : ℕ) (before : List ChannelWrite) (r : Recorder) → r.panel ≡ panel_of before → r.frames.items ≡ opening_of cycle before →
    HasTaken cycle before [] r
unfolding frames_after
taken_none cycle before r p f =
    record {
      panel = p ∙ ap panel_of (sym (append-nil before));
      frames = f ∙ sym (append-nil (opening_of cycle before));
    }

pub opens_blank : (cycle : ℕ) (before : List ChannelWrite) (r : Recorder) (blank : Face) → blank ≡ panel_of [] → r.panel ≡ panel_of before →
    r.frames.items ≡ [] → true ≡ bytes_eq (panel_text blank) (panel_text r.panel) → HasTaken cycle before [] r
unfolding opening_of shown_after
opens_blank cycle before r blank z p f e =
    taken_none cycle before r p (f ∙ sym (none_where_alike cycle None blank r.panel (panel_of []) (panel_of before) z p e))

pub opens_with : (cycle : ℕ) (before : List ChannelWrite) (r : Recorder) (blank : Face) → blank ≡ panel_of [] → r.panel ≡ panel_of before →
    r.frames.items ≡ record { cycle = cycle; written = None; panel = r.panel } ∷ [] → false ≡ bytes_eq (panel_text blank) (panel_text r.panel) →
    HasTaken cycle before [] r
unfolding opening_of shown_after
opens_with cycle before r blank z p f e =
    taken_none cycle before r p (f ∙ sym (one_where_not cycle None blank r.panel (panel_of []) (panel_of before) z p e))

-- one more write is taken
more_writes : (before taken : List ChannelWrite) (write : ChannelWrite) → panel_of ((before ++ taken) ++ write ∷ []) ≡ panel_of (before ++ (taken ++ write ∷ []))
more_writes before taken write = ap panel_of (append_assoc before taken (write ∷ []))

more_frames : (from : ℕ) (before taken : List ChannelWrite) (write : ChannelWrite) (fs : List Frame) → frame_of (before ++ taken) write ≡ fs →
    (opening_of from before ++ frames_after before taken) ++ fs ≡ opening_of from before ++ frames_after before (taken ++ write ∷ [])
more_frames from before taken write fs e =
    append_assoc (opening_of from before) (frames_after before taken) fs
    ∙ ap (λ (xs : List Frame). opening_of from before ++ xs)
    (ap (λ (xs : List Frame). frames_after before taken ++ xs) (sym e) ∙ sym (frames_next before taken write))

pub taken_alike : (from : ℕ) (before taken : List ChannelWrite) (write : ChannelWrite) (r s : Recorder) →
    s.panel ≡ panel_of ((before ++ taken) ++ write ∷ []) → s.frames.items ≡ r.frames.items → true ≡ bytes_eq (panel_text r.panel) (panel_text s.panel) →
    HasTaken from before taken r → HasTaken from before (taken ++ write ∷ []) s
unfolding frame_of shown_after
taken_alike from before taken write r s p f e h =
    record {
      panel = p ∙ more_writes before taken write;
      frames =
          f ∙ h.frames ∙ sym (append-nil (opening_of from before ++ frames_after before taken))
          ∙ more_frames from before taken write [] (none_where_alike write.cycle (Some write) r.panel s.panel (panel_of (before ++ taken)) (panel_of ((before ++ taken) ++ write ∷ [])) h.panel p e);
    }

pub taken_frame : (from : ℕ) (before taken : List ChannelWrite) (write : ChannelWrite) (r s : Recorder) →
    s.panel ≡ panel_of ((before ++ taken) ++ write ∷ []) → s.frames.items ≡ r.frames.items ++ record { cycle = write.cycle; written = Some write; panel = s.panel } ∷ [] →
    false ≡ bytes_eq (panel_text r.panel) (panel_text s.panel) → HasTaken from before taken r → HasTaken from before (taken ++ write ∷ []) s
unfolding frame_of shown_after
taken_frame from before taken write r s p f e h =
    let one : List Frame = record { cycle = write.cycle; written = Some write; panel = s.panel } ∷ [] in
    record {
      panel = p ∙ more_writes before taken write;
      frames =
          f ∙ ap (λ (fs : List Frame). fs ++ one) h.frames
          ∙ more_frames from before taken write one (one_where_not write.cycle (Some write) r.panel s.panel (panel_of (before ++ taken)) (panel_of ((before ++ taken) ++ write ∷ [])) h.panel p e);
    }
