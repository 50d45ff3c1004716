-- A run forward and a search back hit at the same boundary.
use Rattle.std.specs.Prelude.{◌≡◌, ◌↔◌, ℕ, IsTrue, Bool, true, false, None}
use Rattle.std.proofs.Common.{refl}
use Rattle.agc_machine.specs.Boundary.{boundary}
use Rattle.agc_machine.specs.State.{State}
use Rattle.agc_machine.specs.declared.answer.Stepped.{Stepped}
use Rattle.agc_panel.specs.declared.face.Face.{Face}
use Rattle.agc_session.specs.Condition.{Meets, armed_in, is_hit, is_on_next}
use Rattle.agc_session.specs.declared.condition.Condition.{Condition}
use Rattle.agc_session.specs.declared.condition.Condition.TheVariants as condition

itself : (b : Bool) → IsTrue b ↔ IsTrue b
itself b = (λ h. h, λ h. h)

pub at_next : (number : ℕ) (what : Condition) (r s : State) (panel shown : Face) (answer : Stepped) → is_on_next what ≡ true
    → IsTrue (is_hit (armed_in r number what) panel s answer) ↔ Meets what shown s
unfolding is_hit Meets
at_next number (condition.Order place) r s panel shown answer e = itself _
at_next number (condition.OrderIf place comparison) r s panel shown answer e = itself _
at_next number (condition.Caller caller) r s panel shown answer e = itself _
at_next number (condition.Interrupt which) r s panel shown answer e = itself _
at_next number (condition.Cell cell) r s panel shown answer e = cc
at_next number (condition.Write channel word) r s panel shown answer e = cc
at_next number condition.Panel r s panel shown answer e = cc
at_next number (condition.Shows line) r s panel shown answer e = cc
at_next number condition.Boundary r s panel shown answer e = cc

pub at_last : (number : ℕ) (what : Condition) (s : State) (panel : Face) → is_on_next what ≡ false
    → IsTrue (is_hit (armed_in s number what) panel (boundary None s).0 (boundary None s).1) ↔ Meets what panel s
unfolding is_hit Meets
at_last number (condition.Order place) s panel e = cc
at_last number (condition.OrderIf place comparison) s panel e = cc
at_last number (condition.Caller caller) s panel e = cc
at_last number (condition.Interrupt which) s panel e = cc
at_last number (condition.Cell cell) s panel e = itself _
at_last number (condition.Write channel word) s panel e = itself _
at_last number condition.Panel s panel e = itself _
at_last number (condition.Shows line) s panel e = itself _
at_last number condition.Boundary s panel e = (λ h. tt, λ h. refl)
