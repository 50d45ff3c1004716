-- The turns of an idle loop repeat, so that whole turns can be skipped.
use Rattle.std.proofs.Common.{◌≡◌, ℕ, ◌+◌, ◌-◌, ◌*◌, ◌<◌, ◌≤◌, suc, zero, length, true, None, refl, ap, sym, ◌∙◌, subst, arith}
use Rattle.std.proofs.Math.Nat.{suc-mul, zero-mul}
use Rattle.agc_word.specs.declared.channel_write.ChannelWrite.{ChannelWrite}
use Rattle.agc_processor.specs.Channel.{switch_word}
use Rattle.agc_processor.specs.Effect.{order_effect, IsOrderly}
use Rattle.agc_processor.specs.Idle.{IsUnseen, context_of, is_still, rest_of}
use Rattle.agc_processor.specs.Keeps.{IsSame}
use Rattle.agc_processor.specs.declared.processor.Processor.{Processor}
use Rattle.agc_processor.specs.declared.processor.Ran.{Ran}
use Rattle.agc_processor.specs.declared.processor.Ran.TheVariants as ran
use Rattle.agc_processor.proofs.Contexts.{same_processor, still_keeps}
use Rattle.agc_processor.proofs.Orderly.{order_effect-orderly}
use Rattle.agc_machine.specs.Boundary.{boundary, by_order, ran_order}
use Rattle.agc_machine.specs.Engine.{engine_at, state_of, IsSound}
use Rattle.agc_machine.specs.Idle.{AreStill, IsTurn, Leads, later}
use Rattle.agc_machine.specs.Laws.{Falls, after}
use Rattle.agc_machine.specs.Quiet.{IsQuiet, Serves}
use Rattle.agc_machine.specs.Run.{boundaries_left, next_before}
use Rattle.agc_machine.specs.State.{State}
use Rattle.agc_machine.specs.declared.answer.Stepped.{Stepped}
use Rattle.agc_machine.specs.declared.answer.Stepped.TheVariants as stepped
use Rattle.agc_machine.specs.declared.answer.Stop.{Stop}
use Rattle.agc_machine.specs.declared.quiet.Pace.TheVariants as pace
use Rattle.agc_machine.specs.declared.engine.Engine.{Engine}
use Rattle.agc_machine.proofs.Before.{before_after_quiet}
use Rattle.agc_machine.proofs.Chain.{boundary_falls}
use Rattle.agc_machine.proofs.InTime.{later_in_time}
use Rattle.agc_machine.proofs.Stillness.{bare_step, quiet_kept, serves_kept}

-- the cycles of an order that shows nothing
abbrev taken : Ran → ℕ
taken (ran.Quiet cycles) = cycles
taken (ran.Wrote channel value) = 0
taken (ran.Halted why) = 0

-- the state after a still order, whose effect is the same at every cycle
abbrev pub moved : State → State
moved s = let r = order_effect 0 s.processor in record s { processor = r.0; cycle = s.cycle + taken r.1 }

ran_unseen : (s : State) (r : Processor × Ran) → IsUnseen r.1 → ran_order s r ≡ (record s { processor = r.0; cycle = s.cycle + taken r.1 }, stepped.Quiet)
ran_unseen s (p, ran.Quiet cycles) h = refl
ran_unseen s (p, ran.Wrote channel value) h = absurd h
ran_unseen s (p, ran.Halted why) h = absurd h

some_taken : (r : Ran) → IsUnseen r → IsOrderly r → 0 < taken r
some_taken (ran.Quiet cycles) h o = omega (arith, o.0)
some_taken (ran.Wrote channel value) h o = absurd h
some_taken (ran.Halted why) h o = absurd h

pub moves : (s : State) → is_still s.processor ≡ true → s.cycle < (moved s).cycle
moves s h =
    let some = some_taken (order_effect 0 s.processor).1 ((still_keeps s.processor h).unseen 0) (order_effect-orderly 0 s.processor) in omega (arith, some)

-- a still order below the end is the boundary
pub still_boundary : (end : ℕ) (s : State) → IsQuiet end s → Serves pace.Bare s → is_still s.processor ≡ true → s.cycle < end →
    boundary None s ≡ (moved s, stepped.Quiet)
unfolding by_order
still_boundary end s q b h l =
    let keeps = still_keeps s.processor h in
    bare_step end s q l b ∙ ap (ran_order s) (keeps.always s.cycle 0) ∙ ran_unseen s (order_effect 0 s.processor) (keeps.unseen 0)

-- at another cycle the clock is as quiet, and nothing else depends on the cycle
quiet_later : (end d : ℕ) (s : State) → IsQuiet end s → IsQuiet end (later d s)
quiet_later end d s q = quiet_kept end s s.processor (s.cycle + d) q (refl, refl, refl)

moved_later : (d : ℕ) (s : State) → moved (later d s) ≡ later d (moved s)
moved_later d s =
    let r = order_effect 0 s.processor in
    let sum : (s.cycle + d) + taken r.1 ≡ (s.cycle + taken r.1) + d = omega arith in
    ap (λ (c : ℕ). record s { processor = r.0; cycle = c }) sum

pub still_later : (end d : ℕ) (s : State) → IsQuiet end s → Serves pace.Bare s → is_still s.processor ≡ true → s.cycle + d < end →
    boundary None (later d s) ≡ (later d (moved s), stepped.Quiet)
still_later end d s q b h l =
    still_boundary end (later d s) (quiet_later end d s q) b h l ∙ ap (λ (t : State). (t, stepped.Quiet)) (moved_later d s)

-- the rest of a processor has its timers, requests and channels
same_rest : (p q : Processor) → rest_of q ≡ rest_of p → IsSame p q
same_rest p q h = (ap (λ (x : Processor). x.timers) h, ap (λ (x : Processor). x.requests) h, ap (λ (x : Processor). switch_word x) h)

pub quiet_moved : (end : ℕ) (s : State) → IsQuiet end s → is_still s.processor ≡ true → IsQuiet end (moved s)
quiet_moved end s q h =
    let r = order_effect 0 s.processor in
    quiet_kept end s r.0 (s.cycle + taken r.1) q (same_rest s.processor r.0 ((still_keeps s.processor h).rest 0))

pub bare_moved : (s : State) → Serves pace.Bare s → is_still s.processor ≡ true → Serves pace.Bare (moved s)
bare_moved s b h =
    let r = order_effect 0 s.processor in
    serves_kept pace.Bare s r.0 (s.cycle + taken r.1) b (same_rest s.processor r.0 ((still_keeps s.processor h).rest 0))

some_short : (r : Ran) → IsUnseen r → IsOrderly r → taken r ≤ 6
some_short (ran.Quiet cycles) h o = o.1
some_short (ran.Wrote channel value) h o = absurd h
some_short (ran.Halted why) h o = absurd h

moves_shortly : (s : State) → is_still s.processor ≡ true → (moved s).cycle ≤ s.cycle + 6
moves_shortly s h =
    let short = some_short (order_effect 0 s.processor).1 ((still_keeps s.processor h).unseen 0) (order_effect-orderly 0 s.processor) in omega (arith, short)

-- what is quiet up to a cycle is quiet up to an earlier one
quiet_before : (end until : ℕ) (s : State) → end ≤ until → IsQuiet until s → IsQuiet end s
quiet_before end until s l q =
    record { going = q.going; limit = λ c k. q.limit c (omega arith); events = λ c k. q.events c (omega arith); timers = λ c k. q.timers c (omega arith) }

pub leads_start : (end : ℕ) (s : State) → Leads end s s
leads_start end s = record { same = refl; rest = refl; rises = omega arith; way = λ d l. refl }

pub leads_on : (end : ℕ) (s t : State) → Leads end s t → IsQuiet end t → Serves pace.Bare t → is_still t.processor ≡ true → Leads end s (moved t)
leads_on end s t h q b still =
    let rises = moves t still in
    record {
      same = ap (λ (x : State). record x { processor = (moved t).processor; cycle = (moved t).cycle }) h.same;
      rest = (still_keeps t.processor still).rest 0 ∙ h.rest;
      rises = omega (arith, h.rises);
      way = λ d l. h.way d (omega arith) ∙ sym (before_after_quiet end (later d t) (later d (moved t)) (sym (still_later end d t q b still (omega arith))) l);
    }

-- back at the same context the state is the same, a period later
pub back_later : (end period : ℕ) (s t : State) → Leads end s t → context_of t.processor ≡ context_of s.processor → t.cycle ≡ s.cycle + period →
    t ≡ later period s
back_later end period s t h back takes =
    h.same ∙ ap (λ (p : Processor). record s { processor = p; cycle = t.cycle }) (same_processor t.processor s.processor back h.rest)
    ∙ ap (λ (c : ℕ). record s { cycle = c }) takes

later_at : (c d : ℕ) (s : State) → c ≡ d → later c s ≡ later d s
later_at c d s e = ap (λ (x : ℕ). later x s) e

later_later : (d period : ℕ) (s : State) → later d (later period s) ≡ later (period + d) s
later_later d period s =
    let sum : (s.cycle + period) + d ≡ s.cycle + (period + d) = omega arith in ap (λ (c : ℕ). record s { cycle = c }) sum

-- so that whole turns can be skipped
pub turns_skipped : (end period n d : ℕ) (s t : State) → Leads end s t → context_of t.processor ≡ context_of s.processor → t.cycle ≡ s.cycle + period →
    s.cycle + d + n * period < end → next_before end (later d s) ≡ next_before end (later (d + n * period) s)
turns_skipped end period zero d s t h back takes l =
    let no_turn = zero-mul period in
    let none : d ≡ d + zero * period = omega (arith, no_turn) in
    ap (next_before end) (later_at d (d + zero * period) s none)
turns_skipped end period (suc n) d s t h back takes l =
    let product = suc-mul n period in
    let sum : period + d + n * period ≡ d + suc n * period = omega (arith, product) in
    h.way d (omega (arith, product))
    ∙ ap (λ (x : State). next_before end (later d x)) (back_later end period s t h back takes)
    ∙ ap (next_before end) (later_later d period s)
    ∙ turns_skipped end period n (period + d) s t h back takes (omega (arith, product))
    ∙ ap (next_before end) (later_at (period + d + n * period) (d + suc n * period) s sum)

-- the boundaries of a chain never go back
rises_by : (s : State) (r : State × Stepped) → Falls s r → s.cycle ≤ r.0.cycle
rises_by s (t, stepped.Quiet) f = f.1
rises_by s (t, stepped.Wrote write) f = omega (arith, f.2)
rises_by s (t, stepped.Stopped why) f = f.1

after_rises : (k : ℕ) (s : State) → s.cycle ≤ (after k s).cycle
unfolding after
after_rises zero s = omega arith
after_rises (suc k) s =
    let one = rises_by s (boundary None s) (boundary_falls s) in let more = after_rises k (boundary None s).0 in omega (arith, one, more)

leads_after : (k end : ℕ) (s t : State) → Leads end s t → IsQuiet end t → Serves pace.Bare t → AreStill k t → (after k t).cycle < end → Leads end s (after k t)
unfolding after AreStill
leads_after zero end s t h q b a l = h
leads_after (suc k) end s t h q b a l =
    let rises = after_rises (suc k) t in
    let first = still_boundary end t q b a.0 (omega (arith, rises)) in
    subst (λ (r : State × Stepped). Leads end s (after k r.0)) (sym first)
    (leads_after k end s (moved t) (leads_on end s t h q b a.0) (quiet_moved end t q a.0) (bare_moved t b a.0)
    (subst (λ (r : State × Stepped). AreStill k r.0) first a.1) (subst (λ (r : State × Stepped). (after k r.0).cycle < end) first l))

-- a turn some cycles later
after_later : (k end d : ℕ) (t : State) → IsQuiet end t → Serves pace.Bare t → AreStill k t → (after k t).cycle + d < end → after k (later d t) ≡ later d (after k t)
unfolding after AreStill
after_later zero end d t q b a l = refl
after_later (suc k) end d t q b a l =
    let rises = after_rises (suc k) t in
    let first = still_boundary end t q b a.0 (omega (arith, rises)) in
    ap (λ (r : State × Stepped). after k r.0) (still_later end d t q b a.0 (omega (arith, rises)))
    ∙ after_later k end d (moved t) (quiet_moved end t q a.0) (bare_moved t b a.0)
    (subst (λ (r : State × Stepped). AreStill k r.0) first a.1) (subst (λ (r : State × Stepped). (after k r.0).cycle + d < end) first l)
    ∙ ap (λ (r : State × Stepped). later d (after k r.0)) (sym first)

-- no boundary
nothing_after : (s : State) → after 0 s ≡ s
unfolding after
nothing_after s = refl

after_at : (a b : ℕ) (s : State) → a ≡ b → after a s ≡ after b s
after_at a b s e = ap (λ (n : ℕ). after n s) e

after_more : (a b : ℕ) (s : State) → after (a + b) s ≡ after b (after a s)
unfolding after
after_more zero b s = after_at (zero + b) b s (omega arith)
after_more (suc a) b s = after_at (suc a + b) (suc (a + b)) s (omega arith) ∙ after_more a b (boundary None s).0

turn_leads : (orders period end : ℕ) (s : State) → IsTurn orders period end s → s.cycle + period < end → Leads end s (after orders s)
turn_leads orders period end s h l =
    leads_after orders end s s (leads_start end s) h.quiet h.bare h.still (omega (arith, h.takes))

turns_after : (n orders period end d : ℕ) (s : State) → IsTurn orders period end s → s.cycle + d + n * period < end →
    after (n * orders) (later d s) ≡ later (d + n * period) s
turns_after zero orders period end d s h l =
    let none : zero * period ≡ 0 = zero-mul period in
    after_at (zero * orders) 0 (later d s) (zero-mul orders) ∙ nothing_after (later d s) ∙ later_at d (d + zero * period) s (omega arith)
turns_after (suc n) orders period end d s h l =
    let product = suc-mul n period in
    let before : s.cycle + d + n * period < end = omega (arith, product) in
    let sum : period + (d + n * period) ≡ d + suc n * period = omega (arith, product) in
    after_at (suc n * orders) (n * orders + orders) (later d s) (suc-mul n orders)
    ∙ after_more (n * orders) orders (later d s)
    ∙ ap (after orders) (turns_after n orders period end d s h before)
    ∙ after_later orders end (d + n * period) s h.quiet h.bare h.still (omega (arith, product, h.takes))
    ∙ ap (later (d + n * period)) (back_later end period s (after orders s) (turn_leads orders period end s h (omega (arith, product))) h.back h.takes)
    ∙ later_later (d + n * period) period s
    ∙ later_at (period + (d + n * period)) (d + suc n * period) s sum

later_none : (s : State) → later 0 s ≡ s
later_none s = let none : s.cycle + 0 ≡ s.cycle = omega arith in ap (λ (c : ℕ). record s { cycle = c }) none

-- n turns lead to the same state n periods later
pub turns_repeat : (orders period end n : ℕ) (s : State) → IsTurn orders period end s → s.cycle + n * period < end →
    after (n * orders) s ≡ later (n * period) s
turns_repeat orders period end n s h l =
    ap (after (n * orders)) (sym (later_none s)) ∙ turns_after n orders period end 0 s h (omega arith)
    ∙ later_at (0 + n * period) (n * period) s (omega arith)

-- and what comes after them is the same
pub turns_skip : (orders period end n : ℕ) (s : State) → IsTurn orders period end s → s.cycle + n * period < end →
    next_before end s ≡ next_before end (later (n * period) s)
turns_skip orders period end zero s h l =
    let none : zero * period ≡ 0 = zero-mul period in
    ap (next_before end) (sym (later_none s) ∙ later_at 0 (zero * period) s (sym none))
turns_skip orders period end (suc n) s h l =
    let product = suc-mul n period in
    ap (next_before end) (sym (later_none s))
    ∙ turns_skipped end period (suc n) 0 s (after orders s) (turn_leads orders period end s h (omega (arith, product))) h.back h.takes (omega arith)
    ∙ ap (next_before end) (later_at (0 + suc n * period) (suc n * period) s (omega arith))

-- an order of the search
order_moves : (end until : ℕ) (t u : State) → end ≤ until → IsQuiet until t → Serves pace.Bare t → is_still t.processor ≡ true → t.cycle < end →
    (u, stepped.Quiet) ≡ boundary None t → u ≡ moved t
order_moves end until t u l q b still k e =
    ap (λ (r : State × Stepped). r.0) (e ∙ still_boundary end t (quiet_before end until t l q) b still k)

pub order_leads : (end until : ℕ) (s t u : State) → Leads end s t → end ≤ until → IsQuiet until t → Serves pace.Bare t → is_still t.processor ≡ true →
    t.cycle < end → (u, stepped.Quiet) ≡ boundary None t → Leads end s u
order_leads end until s t u h l q b still k e =
    subst (Leads end s) (sym (order_moves end until t u l q b still k e)) (leads_on end s t h (quiet_before end until t l q) b still)

pub order_rises : (end until : ℕ) (t u : State) → end ≤ until → IsQuiet until t → Serves pace.Bare t → is_still t.processor ≡ true → t.cycle < end →
    (u, stepped.Quiet) ≡ boundary None t → t.cycle < u.cycle
order_rises end until t u l q b still k e =
    subst (λ (x : State). t.cycle < x.cycle) (sym (order_moves end until t u l q b still k e)) (moves t still)

pub order_is_short : (end until : ℕ) (t u : State) → end ≤ until → IsQuiet until t → Serves pace.Bare t → is_still t.processor ≡ true → t.cycle < end →
    (u, stepped.Quiet) ≡ boundary None t → u.cycle ≤ t.cycle + 6
order_is_short end until t u l q b still k e =
    subst (λ (x : State). x.cycle ≤ t.cycle + 6) (sym (order_moves end until t u l q b still k e)) (moves_shortly t still)

-- what comes after the orders of the search is the same
pub leads_way : (end : ℕ) (s t : State) → Leads end s t → t.cycle < end → next_before end t ≡ next_before end s
leads_way end s t h l =
    ap (next_before end) (sym (later_none t)) ∙ sym (h.way 0 (omega arith)) ∙ ap (next_before end) (later_none s)

-- and so it is after whole turns
way_after_turns : (end n : ℕ) (s t : State) → Leads end s t → context_of t.processor ≡ context_of s.processor → s.cycle < t.cycle →
    t.cycle + n * (t.cycle - s.cycle) < end → next_before end (record t { cycle = t.cycle + n * (t.cycle - s.cycle) }) ≡ next_before end s
way_after_turns end n s t h back rises l =
    let period : ℕ = t.cycle - s.cycle in
    let takes : t.cycle ≡ s.cycle + period = omega arith in
    let product = suc-mul n period in
    let there : t.cycle + n * period ≡ s.cycle + (0 + suc n * period) = omega (arith, product) in
    sym (ap (next_before end) (sym (later_none s))
    ∙ turns_skipped end period (suc n) 0 s t h back takes (omega (arith, product))
    ∙ ap (next_before end) (ap (λ (c : ℕ). record s { cycle = c }) (sym there))
    ∙ ap (λ (x : State). next_before end (record x { cycle = t.cycle + n * period })) (sym (back_later end period s t h back takes)))

pub way_at : (end n cycle : ℕ) (s t : State) → Leads end s t → context_of t.processor ≡ context_of s.processor → s.cycle < t.cycle →
    cycle ≡ t.cycle + n * (t.cycle - s.cycle) → cycle < end → next_before end (record t { cycle = cycle }) ≡ next_before end s
way_at end n cycle s t h back rises at l =
    ap (λ (c : ℕ). next_before end (record t { cycle = c })) at ∙ way_after_turns end n s t h back rises (subst (λ (c : ℕ). c < end) at l)

-- fewer boundaries are left
pub fewer_left : (end cycle : ℕ) (s t : State) → Leads end s t → t.cycle ≤ cycle → boundaries_left (record t { cycle = cycle }) ≤ boundaries_left s
unfolding boundaries_left
fewer_left end cycle s t h l =
    let limit = ap (λ (x : State). x.limit) h.same in
    let events = ap (λ (x : State). length x.events) h.same in
    omega (arith, h.rises, limit, events)

-- a sound machine is sound at a later cycle below `quiet_until`
pub sound_later : (m : Engine) (cycle : ℕ) → IsSound m → m.cycle ≤ cycle → cycle < m.quiet_until → IsSound (engine_at cycle m)
sound_later m cycle h l below =
    let some : 0 < m.quiet_until = omega arith in
    let q = h.quiet some in
    let under = q.limit cycle below in
    record {
      place = h.place;
      some = h.some;
      limit = h.limit;
      cycle = omega (arith, under);
      in_time = later_in_time m.cycle cycle m.processor.timers h.in_time l;
      quiet = λ k. quiet_kept m.quiet_until (state_of m) m.processor cycle q (refl, refl, refl);
      pace = λ k. serves_kept m.pace (state_of m) m.processor cycle (h.pace some) (refl, refl, refl);
      fresh = λ e. cc (q.going.begun);
    }

-- a still order writes nothing and stops nothing
pub never_writes : (until : ℕ) (s t : State) (write : ChannelWrite) → IsQuiet until s → Serves pace.Bare s → is_still s.processor ≡ true → s.cycle < until →
    (t, stepped.Wrote write) ≡ boundary None s → ⊥
never_writes until s t write q b h l e =
    let shown : stepped.Wrote write ≡ stepped.Quiet = ap (λ (r : State × Stepped). r.1) (e ∙ still_boundary until s q b h l) in cc

pub never_stops : (until : ℕ) (s t : State) (why : Stop) → IsQuiet until s → Serves pace.Bare s → is_still s.processor ≡ true → s.cycle < until →
    (t, stepped.Stopped why) ≡ boundary None s → ⊥
never_stops until s t why q b h l e =
    let shown : stepped.Stopped why ≡ stepped.Quiet = ap (λ (r : State × Stepped). r.1) (e ∙ still_boundary until s q b h l) in cc
