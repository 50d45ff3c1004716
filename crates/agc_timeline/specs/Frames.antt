-- The frames of a part of a run: the panel at its first cycle, and at each write after it that changes what
-- the panel shows.
use Rattle.std.specs.Prelude.{ℕ, ◌&&◌, max, nat_le, nat_lt, if◌then◌else◌, List, [], ◌∷◌, ◌++◌, filter, map}
use Rattle.std.specs.Prelude.{None, Some, unwrap_or}
use Rattle.std.specs.List.{last_or}
use Rattle.std.specs.Str.{bytes_eq}
use Rattle.agc_word.specs.declared.channel_write.ChannelWrite.{ChannelWrite}
use Rattle.agc_panel.specs.Face.{panel_of}
use Rattle.agc_panel.specs.Text.{panel_text}
use Rattle.agc_timeline.specs.declared.frame.Frame.{Frame}
use Rattle.agc_trace.specs.declared.span.Span.{Span}

-- what the panel shows after these writes
unfoldable pub shown_after : List ChannelWrite → List ℕ
shown_after writes = panel_text (panel_of writes)

-- The frame of a write after others, if it changes what the panel shows: the write, and the panel of all the writes.
unfoldable pub frame_of : List ChannelWrite → ChannelWrite → List Frame
frame_of before write =
    let writes = before ++ write ∷ [] in
    if bytes_eq (shown_after before) (shown_after writes) then []
    else record { cycle = write.cycle; written = Some write; panel = panel_of writes } ∷ []

-- the frames of writes after others
unfoldable pub frames_after : List ChannelWrite → List ChannelWrite → List Frame
frames_after before [] = []
frames_after before (write ∷ writes) =
    frame_of before write ++ frames_after (before ++ write ∷ []) writes

-- The frame with which a film begins at a cycle, after these writes: none if the panel then shows what it shows
-- before any write.
unfoldable pub opening_of : ℕ → List ChannelWrite → List Frame
opening_of from before =
    if bytes_eq (shown_after []) (shown_after before) then []
    else record { cycle = from; written = None; panel = panel_of before } ∷ []

-- the writes up to a cycle
abbrev pub up_to : ℕ → List ChannelWrite → List ChannelWrite
up_to cycle writes = filter (λ write. nat_le write.cycle cycle) writes

-- the writes after a cycle, up to a later one
abbrev pub between : ℕ → ℕ → List ChannelWrite → List ChannelWrite
between from to writes =
    filter (λ write. nat_lt from write.cycle && nat_le write.cycle to) writes

-- the last cycle of a part; one that would end before it begins is only its first cycle
abbrev pub last_of : Span → ℕ
last_of part = max part.from part.to

-- The frames of a part of these writes: the panel at its first cycle, and each change after that, up to its
-- last cycle. Before the first frame the panel is blank.
unfoldable pub frames_of : Span → List ChannelWrite → List Frame
frames_of part writes =
    let before = up_to part.from writes in
    opening_of part.from before ++ frames_after before (between part.from (last_of part) writes)

-- What frames show at a cycle: the panel of the last one up to it, or the blank panel.
unfoldable pub shown_at : List Frame → ℕ → List ℕ
shown_at frames cycle =
    let past = filter (λ frame. nat_le frame.cycle cycle) frames in
    panel_text (unwrap_or (last_or None (map (λ frame. frame.panel) past)) (panel_of []))
