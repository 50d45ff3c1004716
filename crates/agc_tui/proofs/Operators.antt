-- An operator's session loses nothing of its script.
use Rattle.std.specs.Prelude.{◌≡◌, List, [], ◌∷◌, ◌++◌}
use Rattle.std.proofs.Common.{refl, ap, sym, ◌∙◌}
use Rattle.std.proofs.lemmas.List.{append-nil, append_assoc}
use Rattle.agc_script.specs.declared.event.Event.{Event}
use Rattle.agc_script.specs.declared.event.What.{What}
use Rattle.agc_machine.specs.State.{State, live_event}
use Rattle.agc_machine.specs.declared.answer.Stepped.{Stepped}
use Rattle.agc_session.specs.Session.{HasGone, SessionState, injected_now}
use Rattle.agc_tui.specs.Operator.{Keeps}
use Rattle.agc_tui.specs.declared.operator.Operator.{Operator}

pub keeps_same : (s t : SessionState) → t ≡ s → Keeps s t
keeps_same s t e = record {
  base = ap (λ (x : SessionState). x.base) e;
  retained = ap (λ (x : SessionState). x.retained) e;
  script = ap (λ (x : SessionState). x.script) e;
  more = [];
  injected = ap (λ (x : SessionState). x.injected) e ∙ sym (append-nil s.injected);
}

pub keeps_gone : (s t : SessionState) (way : State × Stepped) (answer : Stepped) → HasGone s way answer t → Keeps s t
keeps_gone s t way answer h = record {
  base = h.base;
  retained = h.retained;
  script = h.script;
  more = [];
  injected = h.injected ∙ sym (append-nil s.injected);
}

pub keeps_injected : (s t : SessionState) (what : What) → t ≡ injected_now what s → Keeps s t
keeps_injected s t what e = record {
  base = ap (λ (x : SessionState). x.base) e;
  retained = ap (λ (x : SessionState). x.retained) e;
  script = ap (λ (x : SessionState). x.script) e;
  more = live_event s.now what ∷ [];
  injected = ap (λ (x : SessionState). x.injected) e;
}

pub keeps_then : (s t u : SessionState) → Keeps s t → Keeps t u → Keeps s u
keeps_then s t u h k = record {
  base = k.base ∙ h.base;
  retained = k.retained ∙ h.retained;
  script = k.script ∙ h.script;
  more = h.more ++ k.more;
  injected = k.injected ∙ ap (λ (es : List Event). es ++ k.more) h.injected ∙ append_assoc s.injected h.more k.more;
}

pub keeps_run : (s t : SessionState) → (t.base ≡ s.base) → (t.retained ≡ s.retained) → (t.script ≡ s.script) → (t.injected ≡ s.injected) → Keeps s t
keeps_run s t b r c i = record {
  base = b;
  retained = r;
  script = c;
  more = [];
  injected = i ∙ sym (append-nil s.injected);
}

-- an operator whose session is the same is the same
pub same_session : (o : Operator) (s : SessionState) → s ≡ o.session → record o { session = s } ≡ o
same_session o s e = ap (λ (x : SessionState). record o { session = x }) e
