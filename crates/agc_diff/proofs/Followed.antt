-- The writes of two runs, one after another.
use Rattle.std.proofs.Common.{◌≡◌, ◌≢◌, ℕ, ◌+◌, ◌<◌, suc, List, [], ◌∷◌, ◌++◌, length, take, Option, Some, None, refl, ap, sym, ◌∙◌, subst, arith, append_assoc, append-nil, add-zero, length-append}
use Rattle.std.specs.Prelude.{IsSome, slice_get}
use Rattle.agc_machine.specs.Run.{Run, run_of}
use Rattle.agc_machine.specs.State.{State}
use Rattle.agc_machine.specs.declared.answer.Next.TheVariants as next
use Rattle.agc_machine.specs.declared.answer.Stop.{Stop}
use Rattle.agc_machine.specs.Run.{next_of}
use Rattle.agc_machine.proofs.Chain.{next_of_stopped, run_at_stop, run_at_write, stop_is_kept}
use Rattle.std.proofs.Math.Seq.{take-append_seam}
use Rattle.agc_word.specs.declared.channel_write.ChannelWrite.{ChannelWrite}
use Rattle.agc_panel.specs.Face.{panel_of}
use Rattle.agc_panel.specs.declared.face.Face.{Face}
use Rattle.agc_diff.specs.CommonPrefix.{one_write, run_after}
use Rattle.agc_diff.specs.Cursor.{HasAdvanced, IsEnd, PartAfter, FindsWriteDivergence, run_with}
use Rattle.agc_diff.specs.declared.cursor.End.{End}
use Rattle.agc_diff.specs.declared.cursor.Cursor.{Cursor}

-- a run got from one state to another, and the panel shows the writes between
pub record HasRun (before : Face) (s : State) (after : Face) (t : State) : Type 0 where
  pub writes : List ChannelWrite
  pub run : run_of s ≡ run_after writes (run_of t)
  pub panel : (taken : List ChannelWrite) → before ≡ panel_of taken → after ≡ panel_of (taken ++ writes)

-- the writes that a cursor has yet to return
abbrev pub writes_left : Cursor → State → ℕ
writes_left follower s = length (run_with follower.held s).writes

-- two cursors have returned the same writes
pub record HasReportedSame (before number : ℕ) (left : Cursor) (s : State) (left_now : Cursor) (u : State)
    (right : Cursor) (t : State) (right_now : Cursor) (v : State) : Type 0 where
  pub reported : List ChannelWrite
  pub left_advanced : HasAdvanced left s reported left_now u
  pub right_advanced : HasAdvanced right t reported right_now v
  pub count : number ≡ before + length reported

-- a step with no write at all
gone_none : (f : Cursor) (s : State) → HasAdvanced f s [] f s
gone_none f s = record { run = refl; panel = λ taken e. e ∙ ap panel_of (sym (append-nil taken)) }

gone_on : (f g h : Cursor) (s t u : State) (xs ys : List ChannelWrite) → HasAdvanced f s xs g t → HasAdvanced g t ys h u → HasAdvanced f s (xs ++ ys) h u
gone_on f g h s t u xs ys a b =
    record {
      run = a.run ∙ ap (run_after xs) b.run ∙ ap (λ (ws : List ChannelWrite). record { writes = ws; last = (run_of u).last }) (sym (append_assoc xs ys (run_with h.held u).writes));
      panel = λ taken e. b.panel (taken ++ xs) (a.panel taken e) ∙ ap panel_of (append_assoc taken xs ys);
    }

run_at_end : (s t : State) (why : Stop) → (t, next.Stopped why) ≡ next_of s → run_of t ≡ record { writes = []; last = t }
run_at_end s t why e = run_at_stop t t why (sym (next_of_stopped t why (stop_is_kept s t why e)))

same_at_end : (s t : State) (why : Stop) → (t, next.Stopped why) ≡ next_of s → run_of s ≡ run_of t
same_at_end s t why e = run_at_stop s t why e ∙ sym (run_at_end s t why e)

-- the stop comes before any further write
pub took_none : (f : Cursor) (s t : State) (why : Stop) → (t, next.Stopped why) ≡ next_of s → HasAdvanced f s [] f t
took_none f s t why e =
    record {
      run = ap (run_after (one_write f.held)) (same_at_end s t why e);
      panel = λ taken e. e ∙ ap panel_of (sym (append-nil taken));
    }

pub ended : (held : Option ChannelWrite) (s t : State) (why : Stop) → held ≡ None → (t, next.Stopped why) ≡ next_of s → (run_with held t).writes ≡ []
ended held s t why h e = ap (λ (o : Option ChannelWrite). (run_with o t).writes) h ∙ ap (λ (r : Run). r.writes) (run_at_end s t why e)

-- the held write is returned
pub took_held : (f g : Cursor) (s t : State) (write : ChannelWrite) → s ≡ t → f.held ≡ Some write → g.held ≡ None →
    ((taken : List ChannelWrite) → f.panel ≡ panel_of taken → g.panel ≡ panel_of (taken ++ write ∷ [])) → HasAdvanced f s (write ∷ []) g t
took_held f g s t write e h k p =
    record {
      run =
          ap (λ (o : Option ChannelWrite). run_with o s) h ∙ ap (λ (u : State). run_with (Some write) u) e
          ∙ ap (λ (o : Option ChannelWrite). run_after (write ∷ []) (run_with o t)) (sym k);
      panel = p;
    }

-- the machine's next write is returned
pub took_next : (f g : Cursor) (s t u : State) (write reported : ChannelWrite) → t ≡ u → write ≡ reported → f.held ≡ None → g.held ≡ None →
    (t, next.Wrote write) ≡ next_of s →
    ((taken : List ChannelWrite) → f.panel ≡ panel_of taken → g.panel ≡ panel_of (taken ++ reported ∷ [])) → HasAdvanced f s (reported ∷ []) g u
took_next f g s t u write reported d n h k e p =
    record {
      run =
          ap (λ (o : Option ChannelWrite). run_with o s) h ∙ run_at_write s t write e ∙ ap (λ (v : State). run_after (write ∷ []) (run_of v)) d
          ∙ ap (λ (w : ChannelWrite). run_after (w ∷ []) (run_of u)) n ∙ ap (λ (o : Option ChannelWrite). run_after (reported ∷ []) (run_with o u)) (sym k);
      panel = p;
    }

-- a panel with the writes of a run, one after another
pub run_none : (panel : Face) (s : State) → HasRun panel s panel s
run_none panel s = record { writes = []; run = refl; panel = λ taken e. e ∙ ap panel_of (sym (append-nil taken)) }

pub run_more : (start before after : Face) (s t u : State) (write : ChannelWrite) → (u, next.Wrote write) ≡ next_of t →
    ((taken : List ChannelWrite) → before ≡ panel_of taken → after ≡ panel_of (taken ++ write ∷ [])) → HasRun start s before t → HasRun start s after u
run_more start before after s t u write e p h =
    record {
      writes = h.writes ++ write ∷ [];
      run = h.run ∙ ap (run_after h.writes) (run_at_write t u write e)
          ∙ ap (λ (ws : List ChannelWrite). record { writes = ws; last = (run_of u).last }) (sym (append_assoc h.writes (write ∷ []) (run_of u).writes));
      panel = λ taken k. p (taken ++ h.writes) (h.panel taken k) ∙ ap panel_of (append_assoc taken h.writes (write ∷ []));
    }

pub run_ends : (start before : Face) (s t u : State) (why : Stop) (end : End) → (u, next.Stopped why) ≡ next_of t → end.stop ≡ why → end.cycle ≡ u.cycle → end.panel ≡ before →
    HasRun start s before t → IsEnd start (run_of s) end u
run_ends start before s t u why end e stop cycle panel h =
    let run : run_of s ≡ record { writes = h.writes ++ []; last = u } = h.run ∙ ap (run_after h.writes) (run_at_stop t u why e) in
    record {
      last = ap (λ (r : Run). r.last) (sym run);
      stopped = stop_is_kept t u why e ∙ ap (λ (w : Stop). Some w) (sym stop);
      cycle = sym cycle;
      shown = λ taken k. panel ∙ h.panel taken k ∙ ap (λ (ws : List ChannelWrite). panel_of (taken ++ ws)) (sym (append-nil h.writes) ∙ ap (λ (r : Run). r.writes) (sym run));
    }

-- the held write is applied first
pub end_with : (before panel : Face) (held : Option ChannelWrite) (s t : State) (end : End) →
    ((taken : List ChannelWrite) → before ≡ panel_of taken → panel ≡ panel_of (taken ++ one_write held)) →
    IsEnd panel (run_of s) end t → IsEnd before (run_with held s) end t
end_with before panel held s t end p h =
    record {
      last = h.last;
      stopped = h.stopped;
      cycle = h.cycle;
      shown = λ taken e. h.shown (taken ++ one_write held) (p taken e) ∙ ap panel_of (append_assoc taken (one_write held) (run_of s).writes);
    }

pub get_seam : {A : Type 0} (xs ys : List A) → slice_get (xs ++ ys) (length xs) ≡ slice_get ys 0
get_seam [] ys = refl
get_seam (x ∷ xs) ys = get_seam xs ys

get_next : (x : Option ChannelWrite) (rest : List ChannelWrite) → (x ≡ None → rest ≡ []) → slice_get (one_write x ++ rest) 0 ≡ x
get_next (Some write) rest h = refl
get_next None rest h = ap (λ (ws : List ChannelWrite). slice_get ws 0) (h refl)

some_write : (o : Option ChannelWrite) → IsSome o → (write : ChannelWrite) × (o ≡ Some write)
some_write (Some write) h = (write, refl)
some_write None h = cc

-- no write is returned yet
pub reported_none : (before : ℕ) (f g : Cursor) (s t : State) → HasReportedSame before before f s f s g t g t
reported_none before f g s t = record { reported = []; left_advanced = gone_none f s; right_advanced = gone_none g t; count = sym (add-zero before) }

-- a write that both have is returned
reported_write : (before number more : ℕ) (f f2 f3 g g2 g3 : Cursor) (s s2 s3 t t2 t3 : State) (x y : Option ChannelWrite) (write : ChannelWrite) →
    HasAdvanced f2 s2 (one_write x) f3 s3 → HasAdvanced g2 t2 (one_write y) g3 t3 → x ≡ y → x ≡ Some write → more ≡ number + 1 →
    HasReportedSame before number f s f2 s2 g t g2 t2 → HasReportedSame before more f s f3 s3 g t g3 t3
reported_write before number more f f2 f3 g g2 g3 s s2 s3 t t2 t3 x y write a b same some m h =
    let u : HasAdvanced f2 s2 (write ∷ []) f3 s3 = subst (λ (o : Option ChannelWrite). HasAdvanced f2 s2 (one_write o) f3 s3) some a in
    let v : HasAdvanced g2 t2 (write ∷ []) g3 t3 = subst (λ (o : Option ChannelWrite). HasAdvanced g2 t2 (one_write o) g3 t3) (sym same ∙ some) b in
    record {
      reported = h.reported ++ write ∷ [];
      left_advanced = gone_on f f2 f3 s s2 s3 h.reported (write ∷ []) h.left_advanced u;
      right_advanced = gone_on g g2 g3 t t2 t3 h.reported (write ∷ []) h.right_advanced v;
      count = omega (arith, m, h.count, length-append h.reported (write ∷ []));
    }

pub reported_more : (before number more : ℕ) (f f2 f3 g g2 g3 : Cursor) (s s2 s3 t t2 t3 : State) (x y : Option ChannelWrite) →
    HasAdvanced f2 s2 (one_write x) f3 s3 → HasAdvanced g2 t2 (one_write y) g3 t3 → x ≡ y → IsSome x → more ≡ number + 1 →
    HasReportedSame before number f s f2 s2 g t g2 t2 → HasReportedSame before more f s f3 s3 g t g3 t3
reported_more before number more f f2 f3 g g2 g3 s s2 s3 t t2 t3 x y a b same some m h =
    let write = some_write x some in
    reported_write before number more f f2 f3 g g2 g3 s s2 s3 t t2 t3 x y write.0 a b same write.1 m h

fewer_by : (f g : Cursor) (s t : State) (x : Option ChannelWrite) (write : ChannelWrite) → HasAdvanced f s (one_write x) g t → x ≡ Some write →
    writes_left g t < writes_left f s
fewer_by f g s t x write h e =
    let run : run_with f.held s ≡ run_after (write ∷ []) (run_with g.held t) =
    h.run ∙ ap (λ (o : Option ChannelWrite). run_after (one_write o) (run_with g.held t)) e in
    let count : writes_left f s ≡ suc (writes_left g t) = ap (λ (r : Run). length r.writes) run in
    omega (arith, count)

pub fewer_left : (f g : Cursor) (s t : State) (x : Option ChannelWrite) → HasAdvanced f s (one_write x) g t → IsSome x → writes_left g t < writes_left f s
fewer_left f g s t x h some = let write = some_write x some in fewer_by f g s t x write.0 h write.1

-- all writes of both runs are returned
pub reported_all : (before number : ℕ) (f f2 f3 g g2 g3 : Cursor) (s s2 s3 t t2 t3 : State) (x y : Option ChannelWrite) →
    HasAdvanced f2 s2 (one_write x) f3 s3 → HasAdvanced g2 t2 (one_write y) g3 t3 → x ≡ y → x ≡ None →
    (x ≡ None → (run_with f3.held s3).writes ≡ []) → (y ≡ None → (run_with g3.held t3).writes ≡ []) →
    HasReportedSame before number f s f2 s2 g t g2 t2 → FindsWriteDivergence before f g s t None f3 g3 s3 t3
reported_all before number f f2 f3 g g2 g3 s s2 s3 t t2 t3 x y a b same none p q h =
    let left = gone_on f f2 f3 s s2 s3 h.reported (one_write x) h.left_advanced a in
    let right = gone_on g g2 g3 t t2 t3 h.reported (one_write y) h.right_advanced b in
    let after : (h.reported ++ one_write x) ++ (run_with f3.held s3).writes ≡ (h.reported ++ one_write y) ++ (run_with g3.held t3).writes =
    ap (λ (o : Option ChannelWrite). (h.reported ++ one_write o) ++ (run_with f3.held s3).writes) same
    ∙ ap (λ (ws : List ChannelWrite). (h.reported ++ one_write y) ++ ws) (p none ∙ sym (q (sym same ∙ none))) in
    record {
      writes = ap (λ (r : Run). r.writes) left.run ∙ after ∙ ap (λ (r : Run). r.writes) (sym right.run);
      left_writes = h.reported ++ one_write x;
      left_advanced = left;
      right_writes = h.reported ++ one_write y;
      right_advanced = right;
    }

-- two lists that differ in what comes next
parts_after : (reported xs ys : List ChannelWrite) (x y : Option ChannelWrite) → x ≢ y → (x ≡ None → xs ≡ []) → (y ≡ None → ys ≡ []) →
    PartAfter (length reported) ((reported ++ one_write x) ++ xs) ((reported ++ one_write y) ++ ys) x y
parts_after reported xs ys x y differ p q =
    let left = append_assoc reported (one_write x) xs in
    let right = append_assoc reported (one_write y) ys in
    record {
      same =
          ap (take (length reported)) left ∙ take-append_seam reported (one_write x ++ xs)
          ∙ sym (ap (take (length reported)) right ∙ take-append_seam reported (one_write y ++ ys));
      left = ap (λ (ws : List ChannelWrite). slice_get ws (length reported)) left ∙ get_seam reported (one_write x ++ xs) ∙ get_next x xs p;
      right = ap (λ (ws : List ChannelWrite). slice_get ws (length reported)) right ∙ get_seam reported (one_write y ++ ys) ∙ get_next y ys q;
      differ = differ;
    }

-- the writes that come next differ
pub reported_apart : (before number more : ℕ) (f f2 f3 g g2 g3 : Cursor) (s s2 s3 t t2 t3 : State) (x y : Option ChannelWrite) →
    HasAdvanced f2 s2 (one_write x) f3 s3 → HasAdvanced g2 t2 (one_write y) g3 t3 → x ≢ y →
    (x ≡ None → (run_with f3.held s3).writes ≡ []) → (y ≡ None → (run_with g3.held t3).writes ≡ []) → more ≡ number + 1 →
    HasReportedSame before number f s f2 s2 g t g2 t2 → FindsWriteDivergence before f g s t (Some (record { number = more; left = x; right = y })) f3 g3 s3 t3
reported_apart before number more f f2 f3 g g2 g3 s s2 s3 t t2 t3 x y a b differ p q m h =
    let left = gone_on f f2 f3 s s2 s3 h.reported (one_write x) h.left_advanced a in
    let right = gone_on g g2 g3 t t2 t3 h.reported (one_write y) h.right_advanced b in
    record {
      writes = (
        length h.reported,
        omega (arith, m, h.count),
        subst (λ (ws : List ChannelWrite). PartAfter (length h.reported) ws (run_with g.held t).writes x y) (ap (λ (r : Run). r.writes) (sym left.run))
            (subst (λ (ws : List ChannelWrite). PartAfter (length h.reported) ((h.reported ++ one_write x) ++ (run_with f3.held s3).writes) ws x y) (ap (λ (r : Run). r.writes) (sym right.run))
            (parts_after h.reported (run_with f3.held s3).writes (run_with g3.held t3).writes x y differ p q)),
      );
      left_writes = h.reported ++ one_write x;
      left_advanced = left;
      right_writes = h.reported ++ one_write y;
      right_advanced = right;
    }

-- the end of a run from a later state is the end of the whole run
pub end_after : (f g : Cursor) (s t : State) (writes : List ChannelWrite) (end : End) (u : State) → HasAdvanced f s writes g t →
    IsEnd g.panel (run_with g.held t) end u → IsEnd f.panel (run_with f.held s) end u
end_after f g s t writes end u h k =
    record {
      last = k.last ∙ ap (λ (r : Run). r.last) (sym h.run);
      stopped = k.stopped;
      cycle = k.cycle;
      shown = λ taken e. k.shown (taken ++ writes) (h.panel taken e) ∙ ap panel_of (append_assoc taken writes (run_with g.held t).writes)
          ∙ ap (λ (r : Run). panel_of (taken ++ r.writes)) (sym h.run);
    }
