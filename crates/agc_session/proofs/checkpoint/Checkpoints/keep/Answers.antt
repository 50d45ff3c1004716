use Rattle.std.specs.Prelude.{◌≡◌, ◌⊎◌, ◌++◌, ◌∷◌, ◌+◌, ℕ, List, [], All, take, drop}
use Rattle.std.proofs.Common.{ap, inl, inr, subst, sym, ◌∙◌}
use Rattle.std.proofs.lemmas.List.Elements.{All-append, All-drop, All-push, All-take}
use Rattle.agc_word.specs.Number.{Number}
use Rattle.agc_session.specs.Checkpoints.{IsCheckpoint}
use Rattle.agc_session.specs.declared.checkpoint.Checkpoint.{Checkpoint}
use Rattle.agc_session.specs.declared.checkpoint.Checkpoints.{Checkpoints}
use Rattle.agc_session.proofs.checkpoint.Checkpoints.keep.Goals as goal
use Rattle.agc_session.proofs.checkpoint.Checkpoints.keep.Goals.{in-Some, in_default}

-- with one copy less, and perhaps the new one
kept : (words : List Number) (limit : ℕ) (items now : List Checkpoint) (copy : Checkpoint) → IsCheckpoint words limit copy → All (IsCheckpoint words limit) items
    → (now ≡ items) ⊎ (now ≡ items ++ copy ∷ []) → All (IsCheckpoint words limit) now
kept words limit items now copy h all (inl e) = subst (All (IsCheckpoint words limit)) (sym e) all
kept words limit items now copy h all (inr e) = subst (All (IsCheckpoint words limit)) (sym e) (All-push (IsCheckpoint words limit) items copy all h)

fewer : (words : List Number) (limit place : ℕ) (items left : List Checkpoint) → left ≡ take place items ++ drop (place + 1) items → All (IsCheckpoint words limit) items
    → All (IsCheckpoint words limit) left
fewer words limit place items left e all =
    subst (All (IsCheckpoint words limit)) (sym e)
    (All-append (IsCheckpoint words limit) (take place items) (drop (place + 1) items) (All-take (IsCheckpoint words limit) place items all) (All-drop (IsCheckpoint words limit) (place + 1) items all))

pub returns : goal.returns
returns c = λ words limit all h.
    let left : All (IsCheckpoint words limit) c.match-place_of.self.copies.items =
    elim c.match-place_of.branch as (λ _. All (IsCheckpoint words limit) c.match-place_of.self.copies.items) [
      | in-Some w ↦ fewer words limit w.in-Some.place c.args.self.now.copies.items _
          (ap (λ (kept : Checkpoints). kept.copies.items) w.self-is ∙ w.remove.ensures.by_index.2) all
      | in_default w ↦ subst (λ (kept : Checkpoints). All (IsCheckpoint words limit) kept.copies.items) (sym w.self-is) all
    ] in
    kept words limit _ _ c.args.copy h left c.push.ensures
