-- The events of a line are those at FROM, FROM + N and so on, up to TO.
use Rattle.std.specs.Prelude.{◌≡◌, ℕ, zero, suc, ◌+◌, ◌-◌, ◌*◌, ◌/◌, ◌≤◌, ◌<◌, ◌==◌, nat_lt, nat_le, Bool, true, false, ◌||◌, List, [], ◌∷◌, ◌++◌, map, filter, Some, None, Ok, Err, if◌then◌else◌, cond, length, slice_get, IfOk}
use Rattle.std.specs.List.{range_with_len}
use Rattle.std.proofs.Common.{refl, arith, ap, sym, ◌∙◌, add-one, inl, inr}
use Rattle.std.proofs.Math.Nat.{mul-le-mul_left, mul-le-mul_right}
use Rattle.std.proofs.lemmas.Bool.{lt-leb, le-leb, cases_lt}
use Rattle.std.proofs.lemmas.Option.{slice_get-get_or, slice_get_past}
use Rattle.std.proofs.lemmas.List.{append-nil}
use Rattle.std.proofs.lemmas.List.FromFn.{map-range_with_len_more, filter_of_map_range_with_len_more, length-map-range_with_len, get_or-map-range_with_len}
use Rattle.agc_script.specs.declared.event.Event.{Event}
use Rattle.agc_script.specs.declared.event.What.{What}
use Rattle.agc_script.specs.declared.fault.FaultKind.TheVariants.{OutOfRange}
use Rattle.agc_script.specs.Line.{repeat_of}
use Rattle.agc_script.specs.Parse.{events_of}
use Rattle.agc_script.specs.Injection.{cycles_parsed, parsed_at}
use Rattle.agc_script.proofs.Counts.{spans}

longer : (f : ℕ → ℕ) (k : ℕ) → map f (range_with_len 0 (suc k)) ≡ map f (range_with_len 0 k) ++ f k ∷ []
longer f k = rw add-one at (map-range_with_len_more f 0 k k (omega arith))

more_kept : (p : ℕ → Bool) (f : ℕ → ℕ) (k : ℕ)
    → filter p (map f (range_with_len 0 (suc k))) ≡ filter p (map f (range_with_len 0 k)) ++ cond (p (f k)) (f k ∷ []) []
more_kept p f k = rw add-one at (filter_of_map_range_with_len_more p f 0 k k (omega arith))

all_kept : (p : ℕ → Bool) (f : ℕ → ℕ) (k : ℕ) → ((i : ℕ) → i < k → p (f i) ≡ true) → filter p (map f (range_with_len 0 k)) ≡ map f (range_with_len 0 k)
all_kept p f zero h = refl
all_kept p f (suc k) h =
    more_kept p f k ∙ (rw (h k (omega arith), all_kept p f k (λ i l. h i (omega arith))) (sym (longer f k)))

none_kept : (p : ℕ → Bool) (f : ℕ → ℕ) (t d : ℕ) → ((i : ℕ) → t ≤ i → p (f i) ≡ false)
    → filter p (map f (range_with_len 0 (t + d))) ≡ filter p (map f (range_with_len 0 t))
none_kept p f t zero h = let e : t + 0 ≡ t = omega arith in rw e
none_kept p f t (suc d) h =
    let e : t + suc d ≡ suc (t + d) = omega arith in
    rw e (more_kept p f (t + d) ∙ (rw (h (t + d) (omega arith)) (append-nil _ ∙ none_kept p f t d h)))

kept : (p : ℕ → Bool) (f : ℕ → ℕ) (t k : ℕ) → t ≤ k → ((i : ℕ) → i < t → p (f i) ≡ true) → ((i : ℕ) → t ≤ i → p (f i) ≡ false)
    → filter p (map f (range_with_len 0 k)) ≡ map f (range_with_len 0 t)
kept p f t k l a b =
    let e : t + (k - t) ≡ k = omega arith in
    let cut = rw e at (none_kept p f t (k - t) b) in
    cut ∙ all_kept p f t a

map_twice : (g : ℕ → Event) (f : ℕ → ℕ) (xs : List ℕ) → map (λ i. g (f i)) xs ≡ map g (map f xs)
map_twice g f [] = refl
map_twice g f (x ∷ xs) = ap (λ (rest : List Event). g (f x) ∷ rest) (map_twice g f xs)

-- the times of a line are those that TO reaches
reached : (n from to : ℕ) → 0 < n → from ≤ to → cycles_parsed (n, from, to) ≡ map (λ i. from + i * n) (range_with_len 0 ((to - from) / n + 1))
unfolding cycles_parsed
reached n from to some up =
    let few : (to - from) / n * 1 ≤ (to - from) / n * n = mul-le-mul_left ((to - from) / n) some in
    kept (λ cycle. nat_le cycle to) (λ i. from + i * n) ((to - from) / n + 1) (to + 1 - from) (omega arith)
    (λ i l. let near : i ≤ (to - from) / n = omega arith in let m : i * n ≤ (to - from) / n * n = mul-le-mul_right n near in le-leb (from + i * n) to (omega arith))
    (λ i l. let m : ((to - from) / n + 1) * n ≤ i * n = mul-le-mul_right n l in lt-leb (from + i * n) to (omega arith))

pub repeated_events : (n from to : ℕ) (what : What) → 0 < n → from ≤ to
    → events_of (record { start = from; period = n; times = (to - from) / n + 1; what = what }) ≡ map (parsed_at what) (cycles_parsed (n, from, to))
unfolding events_of
repeated_events n from to what some up =
    rw (reached n from to some up) (map_twice (parsed_at what) (λ i. from + i * n) (range_with_len 0 ((to - from) / n + 1)))

-- the event at a position: at FROM plus that many times N, unless that is past TO
pub nth_event : (n from to i : ℕ) (what : What) → 0 < n → from ≤ to
    → slice_get (events_of (record { start = from; period = n; times = (to - from) / n + 1; what = what })) i
    ≡ (if nat_le (from + i * n) to then Some (parsed_at what (from + i * n)) else None)
unfolding events_of
nth_event n from to i what some up =
    let f : ℕ → Event = λ k. parsed_at what (from + k * n) in
    let times : ℕ = (to - from) / n + 1 in
    let len : length (map f (range_with_len 0 ((to - from) / n + 1))) ≡ (to - from) / n + 1 = length-map-range_with_len f 0 ((to - from) / n + 1) in
    elim (cases_lt i ((to - from) / n + 1)) as (λ _. slice_get (map f (range_with_len 0 ((to - from) / n + 1))) i ≡ (if nat_le (from + i * n) to then Some (parsed_at what (from + i * n)) else None)) [
      | inl l ↦
          let near : i ≤ (to - from) / n = omega arith in
          let m : i * n ≤ (to - from) / n * n = mul-le-mul_right n near in
          let within : nat_le (from + i * n) to ≡ true = le-leb (from + i * n) to (omega arith) in
          rw within
          (slice_get-get_or (map f (range_with_len 0 ((to - from) / n + 1))) i (f i) (omega arith)
          ∙ ap (λ (e : Event). Some e) (get_or-map-range_with_len f 0 ((to - from) / n + 1) i i (f i) l (omega arith)))
      | inr g ↦
          let m : ((to - from) / n + 1) * n ≤ i * n = mul-le-mul_right n g in
          let beyond : nat_le (from + i * n) to ≡ false = lt-leb (from + i * n) to (omega arith) in
          rw beyond (slice_get_past (map f (range_with_len 0 ((to - from) / n + 1))) i (omega arith))
    ]

-- the events of `every N FROM TO` and a command
nth_if : (z : Bool) (n from to i : ℕ) (what : What) → ((n == 0) || nat_lt to from) ≡ z
    → IfOk (if z then Err OutOfRange else Ok (record { start = from; period = n; times = (to - from) / n + 1; what = what }))
    (λ repeat. slice_get (events_of repeat) i ≡ (if nat_le (from + i * n) to then Some (parsed_at what (from + i * n)) else None))
nth_if true n from to i what z = tt
nth_if false n from to i what z = let s = spans n from to z in nth_event n from to i what s.0 s.1

pub nth_of_every : (n from to i : ℕ) (what : What)
    → IfOk (repeat_of n from to what) (λ repeat. slice_get (events_of repeat) i ≡ (if nat_le (from + i * n) to then Some (parsed_at what (from + i * n)) else None))
unfolding repeat_of
nth_of_every n from to i what = nth_if ((n == 0) || nat_lt to from) n from to i what refl
