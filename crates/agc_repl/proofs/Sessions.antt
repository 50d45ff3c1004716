-- The requests of an input are answered one after another.
use Rattle.std.specs.Prelude.{◌≡◌, ◌⊎◌, ℕ, List, [], ◌∷◌, ◌++◌, Option, None, Some, Result, Ok, IfOk, IfSome, codes}
use Rattle.std.specs.Io.KnownBytes.{Appends, Keeps}
use Rattle.std.proofs.Common.{refl, ap, sym, subst, ◌∙◌, append-nil, append_assoc, inl, inr}
use Rattle.std.proofs.KnownBytes.{Appends-kept, Appends-trans, Keeps-refl}
use Rattle.agc_repl.specs.Answered.{Grows, IsAnswered, IsHandled, Means, Request, RunsOut, Outputs, answer_to}
use Rattle.agc_repl.specs.Input.{ReadsRequest}
use Rattle.agc_repl.specs.Transcript.{AllMean, AreAnswered, IsSessionOf, RanOut, after_answers, requests_in, session_text}
use Rattle.agc_repl.specs.declared.conversation.ReplFault.{ReplFault}
use Rattle.agc_repl.specs.declared.repl.Repl.{Repl}
use Rattle.agc_symbols.specs.Symbols.{Symbol}

-- answering the rest of the input from here completes the session
abbrev pub Goes : Option (List Symbol) → Option (List ℕ) → Option (List ℕ) → Repl → Repl → Option (List ℕ) → Option (List ℕ) → Type 0
Goes names known left s t old now =
    IfSome known (λ input. (rest : List ℕ) × (left ≡ Some rest)
    × ((end : Option (List ℕ)) → AreAnswered names (requests_in names rest) t now end → AreAnswered names (requests_in names input) s old end))

pub nothing_answered : (names : Option (List Symbol)) (known left : Option (List ℕ)) (s : Repl) (old : Option (List ℕ)) → left ≡ known → Goes names known left s s old old
nothing_answered names None left s old e = tt
nothing_answered names (Some input) left s old e = (input, e, λ end h. h)

still_out : (names : Option (List Symbol)) (request : Request) (s t : Repl) (old mid new : Option (List ℕ)) → RunsOut names request s t old mid → Keeps mid new → RunsOut names request s t old new
still_out names request s t old mid new h k =
    record { left = h.left; parsed = h.parsed; rest = h.rest; begins = h.begins; ends = Appends-kept old mid new _ h.ends k }

still_answered : (names : Option (List Symbol)) (request : Request) (s t : Repl) (old mid new : Option (List ℕ)) → IsAnswered names request s t old mid → Keeps mid new → IsAnswered names request s t old new
still_answered names request s t old mid new (inl h) k = inl (h.0, Appends-kept old mid new (answer_to names request s).1 h.1 k)
still_answered names request s t old mid new (inr h) k = inr (still_out names request s t old mid new h k)

pub still_handled : (names : Option (List Symbol)) (request : Request) (s t : Repl) (old mid new : Option (List ℕ)) → IsHandled names request s t old mid → Keeps mid new → IsHandled names request s t old new
still_handled names request s t old mid new (inl h) k = inl (h.0, h.1, still_answered names h.0 s t old mid new h.2 k)
still_handled names request s t old mid new (inr h) k = inr (still_out names request s t old mid new h k)

first_answered : (names : Option (List Symbol)) (request : Request) (requests : List Request) (s t : Repl) (old mid new : Option (List ℕ)) → IsHandled names request s t old mid
    → AreAnswered names requests t mid new → AreAnswered names (request ∷ requests) s old new
unfolding AreAnswered
first_answered names request requests s t old mid new h k = (t, mid, h, k)

one_answered : (names : Option (List Symbol)) (left later : Option (List ℕ)) (rest : List ℕ) (request : Request) → left ≡ Some rest → ReadsRequest names left later (Some request)
    → (more : List ℕ) × (later ≡ Some more) × (requests_in names rest ≡ request ∷ requests_in names more)
one_answered names None later rest request e h = cc
one_answered names (Some other) later rest request e h =
    let same : Some other ≡ Some rest = e in
    subst (λ (o : Option (List ℕ)). ReadsRequest names o later (Some request)) same h

pub one_more_answered : (names : Option (List Symbol)) (known left later : Option (List ℕ)) (s t u : Repl) (old now mid new : Option (List ℕ)) (request : Request) → Goes names known left s t old now
    → ReadsRequest names left later (Some request) → IsHandled names request t u now mid → Keeps mid new → Goes names known later s u old new
one_more_answered names None left later s t u old now mid new request h r a k = tt
one_more_answered names (Some input) left later s t u old now mid new request h r a k =
    let next = one_answered names left later h.0 request h.1 r in (
      next.0,
      next.1,
      λ end more. h.2 end (subst (λ (requests : List Request). AreAnswered names requests t now end) (sym next.2)
          (first_answered names request (requests_in names next.0) t u now new end (still_handled names request t u now mid new a k) more)),
    )

none_left : (names : Option (List Symbol)) (left later : Option (List ℕ)) (rest : List ℕ) → left ≡ Some rest → ReadsRequest names left later None → requests_in names rest ≡ []
none_left names None later rest e h = cc
none_left names (Some other) later rest e h = subst (λ (o : Option (List ℕ)). ReadsRequest names o later None) e h

no_requests : (names : Option (List Symbol)) (t : Repl) (known : Option (List ℕ)) → AreAnswered names [] t known known
unfolding AreAnswered
no_requests names t known = Keeps-refl known

pub all_answered : (names : Option (List Symbol)) (known left later : Option (List ℕ)) (s t : Repl) (old now : Option (List ℕ)) → Goes names known left s t old now → ReadsRequest names left later None
    → IfSome known (λ input. AreAnswered names (requests_in names input) s old now)
all_answered names None left later s t old now h r = tt
all_answered names (Some input) left later s t old now h r =
    h.2 now (subst (λ (requests : List Request). AreAnswered names requests t now now) (sym (none_left names left later h.0 h.1 r)) (no_requests names t now))

-- if memory suffices, the text is that of the session
kept_is_none : (a b : Option (List ℕ)) → Keeps a b → Appends a b []
kept_is_none None b h = tt
kept_is_none (Some xs) None h = absurd h
kept_is_none (Some xs) (Some ys) h = h ∙ sym (append-nil xs)

answer_grows : (names : Option (List Symbol)) (request : Request) (s t : Repl) (old new : Option (List ℕ)) → IsAnswered names request s t old new → Grows old new
answer_grows names request s t old new (inl h) = ((answer_to names request s).1, h.1)
answer_grows names request s t old new (inr h) = (h.parsed ++ codes "error: memory\n", h.ends)

handling_grows : (names : Option (List Symbol)) (request : Request) (s t : Repl) (old new : Option (List ℕ)) → IsHandled names request s t old new → Grows old new
handling_grows names request s t old new (inl h) = answer_grows names h.0 s t old new h.2
handling_grows names request s t old new (inr h) = (h.parsed ++ codes "error: memory\n", h.ends)

answers_grow : (names : Option (List Symbol)) (requests : List Request) (s : Repl) (old new : Option (List ℕ)) → AreAnswered names requests s old new → Grows old new
unfolding AreAnswered
answers_grow names [] s old new h = ([], kept_is_none old new h)
answers_grow names (request ∷ requests) s old new h =
    let one = handling_grows names request s h.0 old h.1 h.2 in
    let more = answers_grow names requests h.0 h.1 new h.3 in
    (one.0 ++ more.0, Appends-trans old h.1 new one.0 more.0 one.1 more.1)

text_then : (names : Option (List Symbol)) (request : Request) (requests : List Request) (s : Repl)
    → session_text names (request ∷ requests) s ≡ (answer_to names request s).1 ++ session_text names requests (answer_to names request s).0
unfolding session_text
text_then names request requests s = refl

no_text : (names : Option (List Symbol)) (s : Repl) → session_text names [] s ≡ []
unfolding session_text
no_text names s = refl

abbrev IsText : Option (List Symbol) → List Request → Repl → Option (List ℕ) → Option (List ℕ) → Type 0
IsText names requests s old new = IsSessionOf names requests s old new ⊎ RanOut names requests s old new

-- what the first request means comes before what the rest means
mean_more : (names : Option (List Symbol)) (request first : Request) (requests rest : List Request) (s t : Repl) → Means request s first → t ≡ (answer_to names first s).0
    → AllMean names requests t rest → AllMean names (request ∷ requests) s (first ∷ rest)
unfolding AllMean
mean_more names request first requests rest s t m e h = (first, rest, m, subst (λ (u : Repl). AllMean names requests u rest) e h, refl)

none_mean : (names : Option (List Symbol)) (s : Repl) → AllMean names [] s []
unfolding AllMean
none_mean names s = refl

left_then : (names : Option (List Symbol)) (first : Request) (rest : List Request) (s t : Repl) → t ≡ (answer_to names first s).0
    → after_answers names rest t ≡ after_answers names (first ∷ rest) s
unfolding after_answers
left_then names first rest s t e = ap (after_answers names rest) e

nothing_left : (names : Option (List Symbol)) (s : Repl) → after_answers names [] s ≡ s
unfolding after_answers
nothing_left names s = refl

-- an answer comes before the rest of a session
text_after : (names : Option (List Symbol)) (first : Request) (rest : List Request) (s t : Repl) (old mid new : Option (List ℕ)) (more : List ℕ) → Outputs (answer_to names first s) t old mid
    → Appends mid new (session_text names rest t ++ more) → Appends old new (session_text names (first ∷ rest) s ++ more)
text_after names first rest s t old mid new more h k =
    let one = (answer_to names first s).1 in
    let whole : one ++ (session_text names rest t ++ more) ≡ session_text names (first ∷ rest) s ++ more =
    sym (append_assoc one (session_text names rest t) more) ∙ ap (λ (u : Repl). (one ++ session_text names rest u) ++ more) h.0
    ∙ ap (λ (text : List ℕ). text ++ more) (sym (text_then names first rest s)) in
    subst (Appends old new) whole (Appends-trans old mid new one (session_text names rest t ++ more) h.1 k)

begins_after : (names : Option (List Symbol)) (first : Request) (rest : List Request) (last : Request) (s t : Repl) (more : List ℕ) → t ≡ (answer_to names first s).0
    → session_text names (rest ++ (last ∷ [])) t ≡ session_text names rest t ++ more
    → session_text names ((first ∷ rest) ++ (last ∷ [])) s ≡ session_text names (first ∷ rest) s ++ more
begins_after names first rest last s t more e h =
    let one = (answer_to names first s).1 in
    text_then names first (rest ++ (last ∷ [])) s
    ∙ ap (λ (u : Repl). one ++ session_text names (rest ++ (last ∷ [])) u) (sym e)
    ∙ ap (λ (text : List ℕ). one ++ text) h
    ∙ sym (append_assoc one (session_text names rest t) more)
    ∙ ap (λ (u : Repl). (one ++ session_text names rest u) ++ more) e
    ∙ ap (λ (text : List ℕ). text ++ more) (sym (text_then names first rest s))

answer_first : (names : Option (List Symbol)) (request first : Request) (requests : List Request) (s t : Repl) (old mid new : Option (List ℕ)) → Means request s first
    → Outputs (answer_to names first s) t old mid → IsText names requests t mid new → IsText names (request ∷ requests) s old new
answer_first names request first requests s t old mid new m h (inl k) =
    let nothing : session_text names k.0 t ≡ session_text names k.0 t ++ [] = sym (append-nil _) in
    inl (
      first ∷ k.0,
      mean_more names request first requests k.0 s t m h.0 k.1,
      subst (Appends old new) (append-nil _) (text_after names first k.0 s t old mid new [] h (subst (Appends mid new) nothing k.2)),
    )
answer_first names request first requests s t old mid new m h (inr k) =
    inr (record {
      earlier = request ∷ k.earlier;
      request = k.request;
      later = k.later;
      requests_are = ap (λ (more : List Request). request ∷ more) k.requests_are;
      meant = first ∷ k.meant;
      all = mean_more names request first k.earlier k.meant s t m h.0 k.all;
      last = k.last;
      means = subst (λ (u : Repl). Means k.request u k.last ⊎ (k.last ≡ k.request)) (left_then names first k.meant s t h.0) k.means;
      parsed = k.parsed;
      rest = k.rest;
      begins = begins_after names first k.meant k.last s t (k.parsed ++ k.rest) h.0 k.begins;
      more = k.more;
      text = text_after names first k.meant s t old mid new _ h k.text;
    })

ran_out_first : (names : Option (List Symbol)) (request last : Request) (requests : List Request) (s t : Repl) (old mid new : Option (List ℕ))
    → Means request s last ⊎ (last ≡ request) → RunsOut names last s t old mid → Grows mid new → RanOut names (request ∷ requests) s old new
ran_out_first names request last requests s t old mid new m h k =
    let one = (answer_to names last s).1 in
    let until : session_text names (last ∷ []) s ≡ session_text names [] s ++ (h.parsed ++ h.rest) =
    text_then names last [] s ∙ ap (λ (text : List ℕ). one ++ text) (no_text names (answer_to names last s).0) ∙ append-nil one ∙ h.begins
    ∙ ap (λ (text : List ℕ). text ++ (h.parsed ++ h.rest)) (sym (no_text names s)) in
    let here : Appends old new ((h.parsed ++ codes "error: memory\n") ++ k.0) = Appends-trans old mid new (h.parsed ++ codes "error: memory\n") k.0 h.ends k.1 in
    record {
      earlier = [];
      request = request;
      later = requests;
      requests_are = refl;
      meant = [];
      all = none_mean names s;
      last = last;
      means = subst (λ (u : Repl). Means request u last ⊎ (last ≡ request)) (sym (nothing_left names s)) m;
      parsed = h.parsed;
      rest = h.rest;
      begins = until;
      more = k.0;
      text = subst (Appends old new) (append_assoc h.parsed (codes "error: memory\n") k.0 ∙ ap (λ (text : List ℕ). text ++ (h.parsed ++ (codes "error: memory\n" ++ k.0))) (sym (no_text names s))) here;
    }

by_answer : (names : Option (List Symbol)) (request first : Request) (requests : List Request) (s t : Repl) (old mid new : Option (List ℕ)) → Means request s first
    → IsAnswered names first s t old mid → AreAnswered names requests t mid new → IsText names requests t mid new → IsText names (request ∷ requests) s old new
by_answer names request first requests s t old mid new m (inl h) k more = answer_first names request first requests s t old mid new m h more
by_answer names request first requests s t old mid new m (inr h) k more =
    inr (ran_out_first names request first requests s t old mid new (inl m) h (answers_grow names requests t mid new k))

by_handling : (names : Option (List Symbol)) (request : Request) (requests : List Request) (s t : Repl) (old mid new : Option (List ℕ)) → IsHandled names request s t old mid → AreAnswered names requests t mid new
    → IsText names requests t mid new → IsText names (request ∷ requests) s old new
by_handling names request requests s t old mid new (inl h) k more = by_answer names request h.0 requests s t old mid new h.1 h.2 k more
by_handling names request requests s t old mid new (inr h) k more =
    inr (ran_out_first names request request requests s t old mid new (inr refl) h (answers_grow names requests t mid new k))

session_reported : (names : Option (List Symbol)) (requests : List Request) (s : Repl) (old new : Option (List ℕ)) → AreAnswered names requests s old new → IsText names requests s old new
unfolding AreAnswered
session_reported names [] s old new h = inl ([], none_mean names s, subst (Appends old new) (sym (no_text names s)) (kept_is_none old new h))
session_reported names (request ∷ requests) s old new h =
    by_handling names request requests s h.0 old h.1 new h.2 h.3 (session_reported names requests h.0 h.1 new h.3)

pub text_reported : (names : Option (List Symbol)) (known : Option (List ℕ)) (s : Repl) (old new : Option (List ℕ)) → IfSome known (λ input. AreAnswered names (requests_in names input) s old new)
    → IfSome known (λ input. IsSessionOf names (requests_in names input) s old new ⊎ RanOut names (requests_in names input) s old new)
text_reported names None s old new h = tt
text_reported names (Some input) s old new h = session_reported names (requests_in names input) s old new h

-- at first the reader contains the whole input
pub session_so : (names : Option (List Symbol)) (known left : Option (List ℕ)) (s t : Repl) (old new : Option (List ℕ)) → left ≡ known → t ≡ s
    → IfSome left (λ input. AreAnswered names (requests_in names input) t old new) → IfSome known (λ input. AreAnswered names (requests_in names input) s old new)
session_so names known left s t old new e same h = rw (sym e, sym same) h

-- what was read, as the arms of a match know it
pub reads_as : (names : Option (List Symbol)) (left later : Option (List ℕ)) (r : Result (Option Request) ReplFault) (parsed next : Option Request) → r ≡ Ok parsed → parsed ≡ next
    → IfOk r (λ x. ReadsRequest names left later x) → ReadsRequest names left later next
reads_as names left later r parsed next e f h = rw (e, f) at h
