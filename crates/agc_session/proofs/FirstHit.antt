-- The first of some conditions that a boundary has hit.
use Rattle.std.specs.Prelude.{◌≡◌, Bool, true, false, List, [], ◌∷◌, cond, Option, None, Some}
use Rattle.std.proofs.Common.{refl}
use Rattle.agc_machine.specs.State.{State}
use Rattle.agc_machine.specs.declared.answer.Stepped.{Stepped}
use Rattle.agc_panel.specs.declared.face.Face.{Face}
use Rattle.agc_session.specs.Condition.{first_hit, is_hit}
use Rattle.agc_session.specs.declared.condition.Armed.{Armed}

first_is : (b : Bool) (x : Armed) (rest : Option Armed) → b ≡ true → cond b (Some x) rest ≡ Some x
first_is b x rest e = rw e refl

first_not : (b : Bool) (x : Armed) (rest : Option Armed) → b ≡ false → cond b (Some x) rest ≡ rest
first_not b x rest e = rw e refl

pub hit_there : (a : Armed) (xs rest : List Armed) (panel : Face) (s : State) (answer : Stepped) → xs ≡ a ∷ rest → is_hit a panel s answer ≡ true
    → first_hit xs panel s answer ≡ Some a
unfolding first_hit
hit_there a xs rest panel s answer e h = rw e (first_is (is_hit a panel s answer) a _ h)

pub pass_by : (a : Armed) (xs rest : List Armed) (panel : Face) (s : State) (answer : Stepped) → xs ≡ a ∷ rest → is_hit a panel s answer ≡ false
    → first_hit xs panel s answer ≡ first_hit rest panel s answer
unfolding first_hit
pass_by a xs rest panel s answer e h = rw e (first_not (is_hit a panel s answer) a _ h)

pub none_left : (xs : List Armed) (panel : Face) (s : State) (answer : Stepped) → xs ≡ [] → first_hit xs panel s answer ≡ None
unfolding first_hit
none_left xs panel s answer e = rw e refl
