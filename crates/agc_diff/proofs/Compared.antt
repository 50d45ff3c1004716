-- The ends of two runs, described from their starts.
use Rattle.std.proofs.Common.{◌≡◌, ◌≢◌, ℕ, ◌+◌, List, [], ◌∷◌, ◌++◌, length, take, Option, Some, None, refl, ap, sym, ◌∙◌, subst, arith, append_assoc, append-nil, length-append, zero-add, suc-add, suc, zero}
use Rattle.std.proofs.lemmas.Bool.{eqb-true}
use Rattle.agc_store.specs.Memory.{Memory}
use Rattle.std.specs.Prelude.{◌-◌, ◌==◌, ◌&&◌, ◌↔◌, All, Bool, true, IsTrue, slice_get, unwrap_or}
use Rattle.std.proofs.Math.Seq.{take-append_seam, take-append-add}
use Rattle.std.proofs.lemmas.List.Elements.{All-drop}
use Rattle.circular_buffer.specs.Buffer.{Buffer, keep_last}
use Rattle.agc_word.specs.declared.channel_write.ChannelWrite.{ChannelWrite}
use Rattle.agc_machine.specs.Run.{Run, run_of}
use Rattle.agc_machine.specs.State.{State}
use Rattle.agc_panel.specs.Face.{panel_of}
use Rattle.agc_trace.specs.Entry.{FitsLine, FitsWrite}
use Rattle.agc_diff.specs.ObservedPrefix.{kept}
use Rattle.agc_machine.specs.Laws.{AreRising}
use Rattle.agc_machine.proofs.Chain.{run_rises}
use Rattle.agc_trace.specs.Trace.{trace_of}
use Rattle.agc_trace.specs.declared.entry.Entry.{Entry}
use Rattle.agc_diff.specs.Divergence.{HasEnds, EndsWith, IsDivergencePoint}
use Rattle.agc_diff.specs.Cells.{cells_that_differ}
use Rattle.agc_diff.specs.CommonPrefix.{ComesApart, HasDiverged, SummarizesEntries, held_left, held_right, one_write, run_after, entry_writes}
use Rattle.agc_diff.specs.Compare.{FitsDivergence, FitsWriteDivergence, SummarizesCommon, ShowsEnd, TracesPart, cells_at_end, end_of, is_nowhere, is_same}
use Rattle.agc_diff.specs.declared.cells.CellPair.{CellPair}
use Rattle.agc_diff.specs.declared.comparison.Comparison.{Comparison}
use Rattle.agc_word.specs.Number.{Number}
use Rattle.agc_diff.specs.Cursor.{IsEnd, PartAfter, WritesPart, FindsWriteDivergence, run_with}
use Rattle.agc_diff.specs.declared.common_prefix.CommonPrefix.{CommonPrefix}
use Rattle.agc_diff.specs.declared.common_prefix.Divergence.{Divergence}
use Rattle.agc_diff.specs.declared.comparison.DivergencePoint.{DivergencePoint}
use Rattle.agc_diff.specs.declared.cursor.End.{End}
use Rattle.agc_diff.specs.declared.cursor.Cursor.{Cursor}
use Rattle.agc_diff.specs.declared.cursor.WriteDivergence.{WriteDivergence}
use Rattle.agc_diff.proofs.Followed.{end_after, get_seam}

ends_with : (common : CommonPrefix) (hl hr : Option ChannelWrite) (s t : State) (write : Option WriteDivergence) (f g : Cursor) (u v : State) (el er : End) (x y : State) →
    FindsWriteDivergence common.writes (record { held = hl; panel = common.panel }) (record { held = hr; panel = common.panel }) s t write f g u v →
    IsEnd f.panel (run_with f.held u) el x → IsEnd g.panel (run_with g.held v) er y →
    EndsWith common hl hr s t (record { write = write; left = el; right = er }) x y
ends_with common hl hr s t write f g u v el er x y reported l r =
    record {
      write = reported.writes;
      left = end_after (record { held = hl; panel = common.panel }) f s u reported.left_writes el x reported.left_advanced l;
      right = end_after (record { held = hr; panel = common.panel }) g t v reported.right_writes er y reported.right_advanced r;
    }

pub ends_reported : (common : CommonPrefix) (diverging : Option Divergence) (hl hr : Option ChannelWrite) (s t : State) (write : Option WriteDivergence) (f g : Cursor) (u v : State) (el er : End) (x y : State) →
    hl ≡ held_left diverging → hr ≡ held_right diverging →
    FindsWriteDivergence common.writes (record { held = hl; panel = common.panel }) (record { held = hr; panel = common.panel }) s t write f g u v →
    IsEnd f.panel (run_with f.held u) el x → IsEnd g.panel (run_with g.held v) er y →
    HasEnds common diverging s t (record { write = write; left = el; right = er }) x y
ends_reported common diverging hl hr s t write f g u v el er x y e d reported l r =
    subst (λ (h : Option ChannelWrite). EndsWith common h (held_right diverging) s t (record { write = write; left = el; right = er }) x y) e
    (subst (λ (h : Option ChannelWrite). EndsWith common hl h s t (record { write = write; left = el; right = er }) x y) d
    (ends_with common hl hr s t write f g u v el er x y reported l r))

-- what two runs have in common, and how each continues
pub record Met (s t : State) (common : CommonPrefix) (last : Buffer Entry) (diverging : Option Divergence) (u v : State) : Type 0 where
  pub entries : List Entry
  pub reports : SummarizesEntries entries common last
  pub left_rest : List Entry
  pub left : trace_of s ≡ entries ++ left_rest
  pub right_rest : List Entry
  pub right : trace_of t ≡ entries ++ right_rest
  pub left_run : run_of s ≡ run_after (entry_writes entries) (run_with (held_left diverging) u)
  pub right_run : run_of t ≡ run_after (entry_writes entries) (run_with (held_right diverging) v)

run_parted : (s u : State) (entries : List Entry) (entry : Entry) → HasDiverged s entries entry u → run_of s ≡ run_after (entry_writes entries) (run_with entry.write u)
run_parted s u entries entry h =
    h.run ∙ ap (λ (ws : List ChannelWrite). record { writes = ws; last = (run_of u).last }) (append_assoc (entry_writes entries) (one_write entry.write) (run_of u).writes)

pub met : (s t : State) (common : CommonPrefix) (last : Buffer Entry) (diverging : Option Divergence) (u v : State) → ComesApart s t common last diverging u v → Met s t common last diverging u v
met s t common last None u v h =
    record {
      entries = h.0;
      reports = h.1;
      left_rest = [];
      left = h.2.trace ∙ sym (append-nil h.0);
      right_rest = [];
      right = h.3.trace ∙ sym (append-nil h.0);
      left_run = h.2.run;
      right_run = h.3.run;
    }
met s t common last (Some diverging) u v h =
    record {
      entries = h.0;
      reports = h.1;
      left_rest = diverging.left ∷ h.2.rest;
      left = h.2.trace;
      right_rest = diverging.right ∷ h.3.rest;
      right = h.3.trace;
      left_run = run_parted s u h.0 diverging.left h.2;
      right_run = run_parted t v h.0 diverging.right h.3;
    }

taken : (xs entries rest : List Entry) (n : ℕ) → xs ≡ entries ++ rest → n ≡ length entries → take n xs ≡ entries
taken xs entries rest n e h = ap (take n) e ∙ ap (λ (k : ℕ). take k (entries ++ rest)) h ∙ take-append_seam entries rest

pub common_reported : (s t : State) (common : CommonPrefix) (last : Buffer Entry) (diverging : Option Divergence) (u v : State) (c : Comparison) → Met s t common last diverging u v →
    c.boundaries ≡ common.boundaries → c.writes ≡ common.writes → c.before.items ≡ last.items → SummarizesCommon (trace_of s) (trace_of t) c
common_reported s t common last diverging u v c m b w l =
    let count : c.boundaries ≡ length m.entries = b ∙ m.reports.boundaries in
    let left = taken (trace_of s) m.entries m.left_rest c.boundaries m.left count in
    let right = taken (trace_of t) m.entries m.right_rest c.boundaries m.right count in
    record {
      same = left ∙ sym right;
      within = let all : length (trace_of s) ≡ length m.entries + length m.left_rest = ap length m.left ∙ length-append m.entries m.left_rest in omega (arith, count, all);
      writes = w ∙ m.reports.writes ∙ ap (λ (es : List Entry). length (entry_writes es)) (sym left);
      before = l ∙ ap (λ (x : Buffer Entry). x.items) m.reports.last_ones ∙ ap (keep_last kept) (sym left);
    }

pub before_fits : (s t : State) (common : CommonPrefix) (last : Buffer Entry) (diverging : Option Divergence) (u v : State) (items : List Entry) → Met s t common last diverging u v →
    items ≡ last.items → All FitsLine items
before_fits s t common last diverging u v items m e =
    subst (All FitsLine) (sym (e ∙ ap (λ (x : Buffer Entry). x.items) m.reports.last_ones)) (All-drop FitsLine (length m.entries - kept) m.entries m.reports.fits)

some_differ : (a b c d : Entry) → a ≡ c → b ≡ d → c ≢ d → Some a ≢ Some b
some_differ a b c d e f h g = h (sym e ∙ ap (λ (o : Option Entry). unwrap_or o a) g ∙ f)

get_parted : (xs entries rest : List Entry) (entry reported : Entry) (n : ℕ) → xs ≡ entries ++ entry ∷ rest → n ≡ length entries → reported ≡ entry → slice_get xs n ≡ Some reported
get_parted xs entries rest entry reported n e h k =
    ap (λ (ys : List Entry). slice_get ys n) e ∙ ap (λ (i : ℕ). slice_get (entries ++ entry ∷ rest) i) h ∙ get_seam entries (entry ∷ rest)
    ∙ ap (λ (x : Entry). Some x) (sym k)

pub divergence_reported : (s t : State) (common : CommonPrefix) (last : Buffer Entry) (diverging : Option Divergence) (u v : State) (divergence : Option DivergencePoint) →
    ComesApart s t common last diverging u v → IsDivergencePoint common.boundaries diverging divergence → TracesPart common.boundaries (trace_of s) (trace_of t) divergence
divergence_reported s t common last None u v None h p = (h.2.trace ∙ sym h.3.trace, h.1.boundaries ∙ ap length (sym h.2.trace))
divergence_reported s t common last None u v (Some divergence) h p = absurd p
divergence_reported s t common last (Some diverging) u v None h p = absurd p
divergence_reported s t common last (Some diverging) u v (Some divergence) h p = (
  p.0,
  record {
    same =
        taken (trace_of s) h.0 (diverging.left ∷ h.2.rest) common.boundaries h.2.trace h.1.boundaries
        ∙ sym (taken (trace_of t) h.0 (diverging.right ∷ h.3.rest) common.boundaries h.3.trace h.1.boundaries);
    left = get_parted (trace_of s) h.0 h.2.rest diverging.left divergence.left common.boundaries h.2.trace h.1.boundaries p.1;
    right = get_parted (trace_of t) h.0 h.3.rest diverging.right divergence.right common.boundaries h.3.trace h.1.boundaries p.2;
    differ = some_differ divergence.left divergence.right diverging.left diverging.right p.1 p.2 h.4;
  },
)

pub divergence_fits : (s t : State) (common : CommonPrefix) (last : Buffer Entry) (diverging : Option Divergence) (u v : State) (divergence : Option DivergencePoint) →
    ComesApart s t common last diverging u v → IsDivergencePoint common.boundaries diverging divergence → FitsDivergence divergence
divergence_fits s t common last diverging u v None h p = tt
divergence_fits s t common last None u v (Some divergence) h p = absurd p
divergence_fits s t common last (Some diverging) u v (Some divergence) h p = (subst FitsLine (sym p.1) h.2.fits, subst FitsLine (sym p.2) h.3.fits)

get_add : (xs ys : List ChannelWrite) (n : ℕ) → slice_get (xs ++ ys) (length xs + n) ≡ slice_get ys n
get_add [] ys n = ap (slice_get ys) (zero-add n)
get_add (x ∷ xs) ys n = ap (slice_get ((x ∷ xs) ++ ys)) (suc-add (length xs) n) ∙ get_add xs ys n

part_later : (reported xs ys : List ChannelWrite) (count : ℕ) (x y : Option ChannelWrite) → PartAfter count xs ys x y → PartAfter (length reported + count) (reported ++ xs) (reported ++ ys) x y
part_later reported xs ys count x y h =
    record {
      same = take-append-add reported xs count ∙ ap (λ (ws : List ChannelWrite). reported ++ ws) h.same ∙ sym (take-append-add reported ys count);
      left = get_add reported xs count ∙ h.left;
      right = get_add reported ys count ∙ h.right;
      differ = h.differ;
    }

writes_later : (reported xs ys : List ChannelWrite) (before : ℕ) (divergence : Option WriteDivergence) → before ≡ length reported → WritesPart before xs ys divergence → WritesPart 0 (reported ++ xs) (reported ++ ys) divergence
writes_later reported xs ys before None e h = ap (λ (ws : List ChannelWrite). reported ++ ws) h
writes_later reported xs ys before (Some divergence) e h = (length reported + h.0, omega (arith, e, h.1), part_later reported xs ys h.0 divergence.left divergence.right h.2)

pub writes_reported : (s t : State) (common : CommonPrefix) (last : Buffer Entry) (diverging : Option Divergence) (u v : State) (divergence : Option WriteDivergence) → Met s t common last diverging u v →
    WritesPart common.writes (run_with (held_left diverging) u).writes (run_with (held_right diverging) v).writes divergence → WritesPart 0 (run_of s).writes (run_of t).writes divergence
writes_reported s t common last diverging u v divergence m h =
    subst (λ (r : Run). WritesPart 0 r.writes (run_of t).writes divergence) (sym m.left_run)
    (subst (λ (r : Run). WritesPart 0 (entry_writes m.entries ++ (run_with (held_left diverging) u).writes) r.writes divergence) (sym m.right_run)
    (writes_later (entry_writes m.entries) (run_with (held_left diverging) u).writes (run_with (held_right diverging) v).writes common.writes divergence m.reports.writes h))

-- the end of a run, described from its start
pub end_reported : (s u : State) (common : CommonPrefix) (writes : List ChannelWrite) (held : Option ChannelWrite) (end : End) (x : State) → common.panel ≡ panel_of writes →
    run_of s ≡ run_after writes (run_with held u) → IsEnd common.panel (run_with held u) end x → ShowsEnd s end x
end_reported s u common writes held end x p r h =
    let last : x ≡ end_of s = h.last ∙ ap (λ (run : Run). run.last) (sym r) in
    record {
      last = last;
      stopped = ap (λ (y : State). y.stopped) (sym last) ∙ h.stopped;
      cycle = ap (λ (y : State). y.cycle) (sym last) ∙ h.cycle;
      panel = h.shown writes p ∙ ap (λ (run : Run). panel_of run.writes) (sym r);
    }

same_forth : (divergence : Option DivergencePoint) (count : ℕ) (xs ys : List Entry) (b : Bool) → TracesPart count xs ys divergence → IsTrue (is_nowhere divergence && b) → (xs ≡ ys) × (b ≡ true)
same_forth None count xs ys b p h = (p.0, h)
same_forth (Some divergence) count xs ys b p h = cc

same_back : (divergence : Option DivergencePoint) (count : ℕ) (xs ys : List Entry) (b : Bool) → TracesPart count xs ys divergence → xs ≡ ys → b ≡ true → IsTrue (is_nowhere divergence && b)
same_back None count xs ys b p e h = h
same_back (Some divergence) count xs ys b p e h =
    absurd (p.1.differ (sym p.1.left ∙ ap (λ (zs : List Entry). slice_get zs count) e ∙ p.1.right))

none_there : (cells : List CellPair) → (length cells == 0) ≡ true → cells ≡ []
none_there [] h = refl
none_there (cell ∷ cells) h = let e : suc (length cells) ≡ 0 = eqb-true (suc (length cells)) 0 h in absurd (omega (arith, e))

pub law_reported : (c : Comparison) (xs ys : List Entry) (left right : List Number) → TracesPart c.boundaries xs ys c.divergence → (c.cells.items ≡ [] ↔ (left ≡ right)) →
    IsTrue (is_same c) ↔ ((xs ≡ ys) × (left ≡ right))
law_reported c xs ys left right p n = (
  λ h. let both = same_forth c.divergence c.boundaries xs ys (length c.cells.items == 0) p h in (both.0, n.0 (none_there c.cells.items both.1)),
  λ h. same_back c.divergence c.boundaries xs ys (length c.cells.items == 0) p h.0 (ap (λ (cells : List CellPair). length cells == 0) (n.1 h.1)),
)

-- the cells at the end of a run
pub cells_reported : (m : Memory) (x s : State) → m ≡ x.processor.store → x ≡ end_of s → m.erasable ≡ cells_at_end s
cells_reported m x s e f = ap (λ (n : Memory). n.erasable) e ∙ ap (λ (y : State). y.processor.store.erasable) f

pub same_cells : (items : List CellPair) (xs ys left right : List Number) → xs ≡ left → ys ≡ right → items ≡ [] ↔ (xs ≡ ys) → items ≡ [] ↔ (left ≡ right)
same_cells items xs ys left right e f h = (λ k. sym e ∙ h.0 k ∙ f, λ k. h.1 (e ∙ k ∙ sym f))

pub differing_cells_reported : (items : List CellPair) (xs ys left right : List Number) → xs ≡ left → ys ≡ right → items ≡ cells_that_differ xs ys → items ≡ cells_that_differ left right
differing_cells_reported items xs ys left right e f h = h ∙ ap (λ (zs : List Number). cells_that_differ zs ys) e ∙ ap (cells_that_differ left) f

write_fits : (from n : ℕ) (writes : List ChannelWrite) → AreRising from writes → FitsWrite (slice_get writes n)
write_fits from n [] h = tt
write_fits from zero (write ∷ writes) h = omega (arith, h.1.1)
write_fits from (suc n) (write ∷ writes) h = write_fits (write.cycle + 1) n writes h.2

pub writes_fit : (s t : State) (divergence : Option WriteDivergence) → WritesPart 0 (run_of s).writes (run_of t).writes divergence → FitsWriteDivergence divergence
writes_fit s t None h = tt
writes_fit s t (Some divergence) h =
    (subst FitsWrite h.2.left (write_fits s.cycle h.0 (run_of s).writes (run_rises s)), subst FitsWrite h.2.right (write_fits t.cycle h.0 (run_of t).writes (run_rises t)))
