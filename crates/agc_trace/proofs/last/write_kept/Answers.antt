use Rattle.std.proofs.Common.{ℕ, ◌<◌, List, length, get_or, ap, sym, ◌∙◌, subst}
use Rattle.std.proofs.lemmas.List.Elements.{All-drop}
use Rattle.agc_trace.specs.OperandLine.{watched_line}
use Rattle.agc_trace.specs.Selection.{lines_of}
use Rattle.agc_trace.specs.Watch.{FitsWatched, Watched}
use Rattle.agc_trace.proofs.Kept.{nothing_left}
use Rattle.agc_io.proofs.Begun.{any_err}
use Rattle.agc_trace.proofs.Lines.{IsWritten, begun_line_as, begun_next, line_as, lines_of-cons, lines_of-none, written_more, written_whole}
use Rattle.agc_trace.proofs.last.write_kept.Goals as goal

pub loop-kept-preserved : goal.loop-kept-preserved
loop-kept-preserved g c =
    let next = ap (λ (xs : List Watched). lines_of c.args.form.now xs) c.in-Some.ensures.items ∙ lines_of-cons c.args.form.now c.in-Some.kept c.pop_front.new.self.items in
    record {
      written = written_more _ _ _ (watched_line c.args.form.now c.in-Some.kept) (lines_of c.args.form.now c.pop_front.new.self.items) _
          (subst (λ (xs : List ℕ). IsWritten (g.W.Write.contents c.args.out.now) (g.W.Write.contents c.loop-kept.out) xs (lines_of c.args.form.now c.args.last.now.items))
          next c.loop-kept.invariant.written)
          (line_as c.args.form.now _ _ _ _ _ _ _ c.as_slice.ensures.value c.kept.view_is c.in_ok-write_line.ensures.line);
      fits = subst (λ (xs : List Watched). (k : ℕ) (d : Watched) → k < length xs → FitsWatched (get_or xs k d)) (sym c.pop_front.ensures.rest)
          (All-drop FitsWatched 1 c.loop-kept.last.items c.loop-kept.invariant.fits);
    }

pub returns-clause-lines : goal.returns-clause-lines
returns-clause-lines g c =
    written_whole _ _ _ _
    (ap (λ (xs : List Watched). lines_of c.args.form.now xs)
    (nothing_left c.loop-kept.last.items c.pop_front.new.self.items (rw c.in_default.is at c.pop_front.ensures.items) c.pop_front.ensures.rest)
    ∙ lines_of-none c.args.form.now)
    c.loop-kept.invariant.written

pub returns-in_err-write_line-clause-cut : goal.returns-in_err-write_line-clause-cut
returns-in_err-write_line-clause-cut g c =
    let next = ap (λ (xs : List Watched). lines_of c.args.form.now xs) c.in-Some.ensures.items ∙ lines_of-cons c.args.form.now c.in-Some.kept c.pop_front.new.self.items in
    any_err _ (begun_next _ _ _ (watched_line c.args.form.now c.in-Some.kept) (lines_of c.args.form.now c.pop_front.new.self.items) _
    (subst (λ (xs : List ℕ). IsWritten (g.W.Write.contents c.args.out.now) (g.W.Write.contents c.loop-kept.out) xs (lines_of c.args.form.now c.args.last.now.items))
    next c.loop-kept.invariant.written)
    (begun_line_as c.args.form.now _ _ _ _ _ _ _ c.as_slice.ensures.value c.kept.view_is c.in_err-write_line.ensures.cut))
