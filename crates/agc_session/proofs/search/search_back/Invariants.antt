use Rattle.std.specs.Prelude.{◌≡◌, ℕ, ◌<◌, ◌≤◌, length}
use Rattle.agc_machine.specs.Laws.{after}
use Rattle.agc_session.specs.Search.{IsSearching}
use Rattle.agc_session.specs.Session.{start_with}
use Rattle.agc_session.proofs.search.search_back.Given as goal

abbrev pub invariant-loop-place : goal.invariant-loop-place
invariant-loop-place g l = record {
  searching : (n : ℕ) → after n (start_with l.script l.now) ≡ l.now → IsSearching l.condition l.count l.wanted (start_with l.script l.now) l.now l.end;
  some : 0 < l.wanted;
  bound : l.place ≤ length l.checkpoints.copies.items;
}

abbrev pub decreases-loop-place : goal.decreases-loop-place
decreases-loop-place g l = l.place
