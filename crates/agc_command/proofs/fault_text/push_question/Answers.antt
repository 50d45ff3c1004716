use Rattle.std.specs.Prelude.{◌≡◌, ℕ, List, ◌++◌, Option, Some, Result, OnOk, string_bytes}
use Rattle.std.proofs.Common.{subst}
use Rattle.agc_command.specs.Fault.{name_meant, question}
use Rattle.agc_command.proofs.fault_text.push_question.Goals as goal

as_meant : {A E : Type 0} (r : Result A E) (new old name : List ℕ) (q : Option (List ℕ)) → Some name ≡ q
    → OnOk r (new ≡ old ++ question (Some name)) → OnOk r (new ≡ old ++ question q)
as_meant r new old name q e h = subst (λ (o : Option (List ℕ)). OnOk r (new ≡ old ++ question o)) e h

pub returns-in-Some : goal.returns-in-Some
returns-in-Some c =
    as_meant c.push_meant.result (string_bytes c.push_meant.new.text) (string_bytes c.args.text.now) c.in-Some.name.now
    (name_meant c.args.names.now c.args.fault) c.in-Some.ensures c.push_meant.ensures
