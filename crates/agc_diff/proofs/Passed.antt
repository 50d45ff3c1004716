-- The common boundaries of two runs, one after another.
use Rattle.std.proofs.Common.{◌≡◌, ◌≢◌, ◌+◌, ◌≤◌, List, [], ◌∷◌, ◌++◌, length, Option, Some, None, Bool, true, false, refl, ap, sym, ◌∙◌, subst, arith, append_assoc, append-nil, length-append}
use Rattle.std.specs.Prelude.{if◌then◌else◌}
use Rattle.std.proofs.lemmas.Grind.{flat_map-append}
use Rattle.std.proofs.lemmas.List.Elements.{All-append, All-cons, All-nil}
use Rattle.circular_buffer.specs.Buffer.{Buffer, buffer, keep_last}
use Rattle.agc_word.specs.declared.channel_write.ChannelWrite.{ChannelWrite}
use Rattle.agc_machine.specs.Boundary.{boundary, upcoming_of}
use Rattle.agc_machine.specs.Laws.{Falls}
use Rattle.agc_machine.specs.Run.{run_of, while_writing}
use Rattle.agc_machine.specs.State.{State}
use Rattle.agc_machine.specs.declared.answer.Stepped.{Stepped}
use Rattle.agc_machine.specs.declared.answer.Stepped.TheVariants as stepped
use Rattle.agc_machine.proofs.Chain.{boundary_falls, next_after_quiet, next_of_stopped, run_at_stop, run_at_write, run_by_next, next_at_stop, next_at_write}
use Rattle.agc_trace.specs.Entry.{entry_of, write_shown}
use Rattle.agc_trace.specs.Trace.{entries_left, is_stop, trace_of}
use Rattle.agc_trace.specs.declared.entry.Entry.{Entry}
use Rattle.agc_trace.proofs.Steps.{fewer_after_entry, trace_by_entry}
use Rattle.agc_diff.specs.CommonPrefix.{ComesApart, HasEnded, HasDiverged, HasPassed, Shares, SummarizesEntries, one_write, run_after, entry_writes}
use Rattle.agc_diff.specs.declared.common_prefix.CommonPrefix.{CommonPrefix}
use Rattle.agc_panel.specs.Face.{panel_of}
use Rattle.agc_trace.specs.Entry.{FitsLine}
use Rattle.agc_diff.proofs.Kept.{keep_one}
use Rattle.agc_diff.specs.Turn.{IsTaken}

-- a run is the write that its first boundary shows, and the run from there
run_by : (s : State) (r : State × Stepped) → r ≡ boundary None s → Falls s r → run_of s ≡ run_after (one_write (write_shown r.1)) (run_of r.0)
run_by s (t, stepped.Quiet) e f = run_by_next s ∙ ap (while_writing run_of) (sym (next_after_quiet s t e)) ∙ sym (run_by_next t)
run_by s (t, stepped.Wrote write) e f = run_at_write s t write (next_at_write s t write e)
run_by s (t, stepped.Stopped why) e f =
    run_at_stop s t why (next_at_stop s t why e) ∙ sym (run_at_stop t t why (sym (next_of_stopped t why f.0)))

shows : (s : State) → (entry_of s).write ≡ write_shown (boundary None s).1
unfolding entry_of
shows s = refl

pub run_by_boundary : (s : State) → run_of s ≡ run_after (one_write (entry_of s).write) (run_of (boundary None s).0)
run_by_boundary s =
    run_by s (boundary None s) refl (boundary_falls s)
    ∙ ap (λ (write : Option ChannelWrite). run_after (one_write write) (run_of (boundary None s).0)) (sym (shows s))

reports : (s : State) → (entry_of s).happening ≡ upcoming_of s
unfolding entry_of
reports s = refl

pub entry_writes-snoc : (entries : List Entry) (entry : Entry) → entry_writes (entries ++ entry ∷ []) ≡ entry_writes entries ++ one_write entry.write
unfolding entry_writes
entry_writes-snoc entries entry =
    flat_map-append (λ (e : Entry). one_write e.write) entries (entry ∷ []) ∙ ap (λ (ws : List ChannelWrite). entry_writes entries ++ ws) (append-nil (one_write entry.write))

goes_on : (b : Bool) (xs : List Entry) → b ≡ false → (if b then [] else xs) ≡ xs
goes_on true xs e = cc
goes_on false xs e = refl

ends : (b : Bool) (xs : List Entry) → b ≡ true → (if b then [] else xs) ≡ []
ends true xs e = refl
ends false xs e = cc

-- the run after some entries continues by one more
run_on : (s t : State) (writes : List ChannelWrite) → run_of s ≡ run_after writes (run_of t) →
    run_of s ≡ run_after (writes ++ one_write (entry_of t).write) (run_of (boundary None t).0)
run_on s t writes h =
    h ∙ ap (run_after writes) (run_by_boundary t)
    ∙ ap (λ (ws : List ChannelWrite). record { writes = ws; last = (run_of (boundary None t).0).last })
    (sym (append_assoc writes (one_write (entry_of t).write) (run_of (boundary None t).0).writes))

run_passed : (s t : State) (entries : List Entry) → run_of s ≡ run_after (entry_writes entries) (run_of t) →
    run_of s ≡ run_after (entry_writes (entries ++ entry_of t ∷ [])) (run_of (boundary None t).0)
run_passed s t entries h =
    run_on s t (entry_writes entries) h ∙ ap (λ (ws : List ChannelWrite). run_after ws (run_of (boundary None t).0)) (sym (entry_writes-snoc entries (entry_of t)))

-- no boundary is passed yet
pub passed_none : (s : State) → HasPassed s [] s
unfolding entry_writes
passed_none s = record { trace = refl; run = refl }

-- one more boundary, which is not a stop
pub passed_one : (s t u : State) (entries : List Entry) (entry : Entry) → entry ≡ entry_of t → u ≡ (boundary None t).0 →
    is_stop entry.happening ≡ false → HasPassed s entries t → HasPassed s (entries ++ entry ∷ []) u
passed_one s t u entries entry e f stop h =
    let reported : is_stop (upcoming_of t) ≡ false = ap is_stop (sym (reports t) ∙ ap (λ (x : Entry). x.happening) (sym e)) ∙ stop in
    let rest = trace_of (boundary None t).0 in
    let trace : trace_of s ≡ (entries ++ entry_of t ∷ []) ++ rest =
    h.trace ∙ ap (λ (xs : List Entry). entries ++ xs) (trace_by_entry t ∙ ap (λ (xs : List Entry). entry_of t ∷ xs) (goes_on (is_stop (upcoming_of t)) rest reported))
    ∙ sym (append_assoc entries (entry_of t ∷ []) rest) in
    let passed : HasPassed s (entries ++ entry_of t ∷ []) (boundary None t).0 = record { trace = trace; run = run_passed s t entries h.run } in
    subst (λ (x : Entry). HasPassed s (entries ++ x ∷ []) u) (sym e) (subst (λ (v : State). HasPassed s (entries ++ entry_of t ∷ []) v) (sym f) passed)

-- the last boundary
pub ended_with : (s t u : State) (entries : List Entry) (entry : Entry) → entry ≡ entry_of t → u ≡ (boundary None t).0 →
    is_stop entry.happening ≡ true → HasPassed s entries t → HasEnded s (entries ++ entry ∷ []) u
ended_with s t u entries entry e f stop h =
    let reported : is_stop (upcoming_of t) ≡ true = ap is_stop (sym (reports t) ∙ ap (λ (x : Entry). x.happening) (sym e)) ∙ stop in
    let rest = trace_of (boundary None t).0 in
    let trace : trace_of s ≡ entries ++ entry_of t ∷ [] =
    h.trace ∙ ap (λ (xs : List Entry). entries ++ xs) (trace_by_entry t ∙ ap (λ (xs : List Entry). entry_of t ∷ xs) (ends (is_stop (upcoming_of t)) rest reported)) in
    let ended : HasEnded s (entries ++ entry_of t ∷ []) (boundary None t).0 = record { trace = trace; run = run_passed s t entries h.run } in
    subst (λ (x : Entry). HasEnded s (entries ++ x ∷ []) u) (sym e) (subst (λ (v : State). HasEnded s (entries ++ entry_of t ∷ []) v) (sym f) ended)

-- one more boundary is recorded
pub record ReportsMore (c d : CommonPrefix) (last more : Buffer Entry) (entry : Entry) : Type 0 where
  pub boundaries : d.boundaries ≡ c.boundaries + 1
  pub writes : d.writes ≡ c.writes + length (one_write entry.write)
  pub panel : (taken : List ChannelWrite) → c.panel ≡ panel_of taken → d.panel ≡ panel_of (taken ++ one_write entry.write)
  pub fits : FitsLine entry
  pub last_ones : more ≡ buffer (keep_last last.capacity (last.items ++ entry ∷ [])) last.capacity

reports_more : (entries : List Entry) (c d : CommonPrefix) (last more : Buffer Entry) (entry : Entry) → ReportsMore c d last more entry →
    SummarizesEntries entries c last → SummarizesEntries (entries ++ entry ∷ []) d more
reports_more entries c d last more entry h t =
    let writes = entry_writes-snoc entries entry in
    record {
      boundaries = h.boundaries ∙ ap (λ n. n + 1) t.boundaries ∙ sym (length-append entries (entry ∷ []));
      writes = h.writes ∙ ap (λ n. n + length (one_write entry.write)) t.writes ∙ sym (length-append (entry_writes entries) (one_write entry.write)) ∙ ap length (sym writes);
      panel = h.panel (entry_writes entries) t.panel ∙ ap panel_of (sym writes);
      last_ones =
          h.last_ones ∙ ap (λ (b : Buffer Entry). buffer (keep_last b.capacity (b.items ++ entry ∷ [])) b.capacity) t.last_ones
          ∙ ap (λ (xs : List Entry). buffer xs 5) (keep_one entries entry);
      fits = All-append FitsLine entries (entry ∷ []) t.fits (All-cons FitsLine entry [] h.fits (All-nil FitsLine));
    }

pub shares_none : (s t : State) (common : CommonPrefix) (last : Buffer Entry) → common.boundaries ≡ 0 → common.writes ≡ 0 → common.panel ≡ panel_of [] →
    last ≡ buffer [] 5 → Shares s t common last s t
unfolding entry_writes
shares_none s t common last b w p l =
    record { entries = []; reports = record { boundaries = b; writes = w; panel = p; last_ones = l; fits = All-nil FitsLine }; left = passed_none s; right = passed_none t }

-- another boundary that both have
pub shares_more : (s t : State) (c d : CommonPrefix) (last more : Buffer Entry) (u v x y : State) (entry other : Entry) →
    entry ≡ entry_of u → other ≡ entry_of v → x ≡ (boundary None u).0 → y ≡ (boundary None v).0 → entry ≡ other →
    is_stop entry.happening ≡ false → ReportsMore c d last more entry → Shares s t c last u v → Shares s t d more x y
shares_more s t c d last more u v x y entry other e f g h same stop reports k =
    record {
      entries = k.entries ++ entry ∷ [];
      reports = reports_more k.entries c d last more entry reports k.reports;
      left = passed_one s u x k.entries entry e g stop k.left;
      right = passed_one t v y k.entries entry (same ∙ f) h stop k.right;
    }

-- one more boundary after others, of two machines that have taken it
pub passes_more : (b : CommonPrefix) (first : Buffer Entry) (p q : State) (c d : CommonPrefix) (last more : Buffer Entry) (u v x y : State) (entry other : Entry) →
    IsTaken u entry x → IsTaken v other y → entry ≡ other → is_stop entry.happening ≡ false → ReportsMore c d last more entry →
    ((s t : State) → Shares s t b first p q → Shares s t c last u v) × (entries_left u ≤ entries_left p) →
    ((s t : State) → Shares s t b first p q → Shares s t d more x y) × (entries_left x ≤ entries_left p)
passes_more b first p q c d last more u v x y entry other left right same goes_on reports k =
    let fewer = fewer_after_entry u x entry left.entered left.after goes_on in
    let fewer_still : entries_left x ≤ entries_left p = omega (arith, fewer, k.1) in (
      λ s t shared.
          shares_more s t c d last more u v x y entry other left.entered right.entered left.after right.after same goes_on reports (k.0 s t shared),
      fewer_still,
    )

-- the stop, which both have
pub shares_all : (s t : State) (c d : CommonPrefix) (last more : Buffer Entry) (u v x y : State) (entry other : Entry) →
    entry ≡ entry_of u → other ≡ entry_of v → x ≡ (boundary None u).0 → y ≡ (boundary None v).0 → entry ≡ other →
    is_stop entry.happening ≡ true → ReportsMore c d last more entry → Shares s t c last u v → ComesApart s t d more None x y
shares_all s t c d last more u v x y entry other e f g h same stop reports k = (
  k.entries ++ entry ∷ [],
  reports_more k.entries c d last more entry reports k.reports,
  ended_with s u x k.entries entry e g stop k.left,
  ended_with t v y k.entries entry (same ∙ f) h stop k.right,
)

parted_with : (s u x : State) (entries : List Entry) (entry : Entry) → entry ≡ entry_of u → x ≡ (boundary None u).0 → FitsLine entry →
    HasPassed s entries u → HasDiverged s entries entry x
parted_with s u x entries entry e f fits h =
    let rest = if is_stop (upcoming_of u) then [] else trace_of (boundary None u).0 in
    let parted : HasDiverged s entries (entry_of u) (boundary None u).0 =
    record {
      rest = rest;
      trace = h.trace ∙ ap (λ (xs : List Entry). entries ++ xs) (trace_by_entry u);
      run = run_on s u (entry_writes entries) h.run;
      fits = subst FitsLine e fits;
    } in
    subst (λ (y : Entry). HasDiverged s entries y x) (sym e) (subst (λ (v : State). HasDiverged s entries (entry_of u) v) (sym f) parted)

-- the boundaries at which they diverge
pub shares_no_more : (s t : State) (c : CommonPrefix) (last : Buffer Entry) (u v x y : State) (entry other : Entry) →
    entry ≡ entry_of u → other ≡ entry_of v → x ≡ (boundary None u).0 → y ≡ (boundary None v).0 → entry ≢ other →
    FitsLine entry → FitsLine other → Shares s t c last u v → ComesApart s t c last (Some (record { left = entry; right = other })) x y
shares_no_more s t c last u v x y entry other e f g h differ fits fits_too k =
    (k.entries, k.reports, parted_with s u x k.entries entry e g fits k.left, parted_with t v y k.entries other f h fits_too k.right, differ)
