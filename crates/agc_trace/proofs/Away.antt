-- A boundary does not change the cells past EDOP that it cannot touch.
use Rattle.std.proofs.Common.{◌≡◌, ◌≢◌, ℕ, ◌+◌, ◌*◌, ◌<◌, List, [], ◌∷◌, Option, Some, None, Bool, true, false, refl, ap, sym, ◌∙◌, subst, arith}
use Rattle.std.specs.Prelude.{◌||◌, ◌&&◌, not, nat_le, filter, map, if◌then◌else◌}
use Rattle.std.specs.List.{list_any, range_with_len}
use Rattle.std.proofs.lemmas.Bool.Decides.{nat_tests}
use Rattle.std.proofs.lemmas.List.{get_or-set_other}
use Rattle.agc_word.specs.Number.{Number, pattern_of}
use Rattle.agc_word.specs.Pulses.{pulsed}
use Rattle.agc_word.specs.declared.pulse.Pulse.TheVariants as pulse
use Rattle.agc_word.specs.declared.pulse.Carry.{Carry}
use Rattle.agc_word.specs.declared.pulse.Carry.TheVariants as carry
use Rattle.agc_store.specs.Places.{erasable_cells, zero_cell, edop_cell, time1_cell, time3_cell, time4_cell, time5_cell, time6_cell}
use Rattle.agc_store.specs.Memory.{Memory, cell_at, nothing, erasable_bank, erasable_place}
use Rattle.agc_store.specs.Cells.{poke_of}
use Rattle.agc_order.specs.Order.{basic_of, extracode_of}
use Rattle.agc_order.specs.declared.order.Basic.{Basic}
use Rattle.agc_order.specs.declared.order.Basic.TheVariants as basic
use Rattle.agc_order.specs.declared.order.Extracode.{Extracode}
use Rattle.agc_order.specs.declared.order.Extracode.TheVariants as extra
use Rattle.agc_processor.specs.declared.interrupt.Rupt.{Rupt}
use Rattle.agc_processor.specs.declared.interrupt.Rupt.TheVariants as rupt
use Rattle.agc_processor.specs.declared.processor.Processor.{Processor}
use Rattle.agc_processor.specs.declared.processor.Ran.{Ran}
use Rattle.agc_processor.specs.declared.processor.Ran.TheVariants as ran
use Rattle.agc_processor.specs.declared.timer.Timer.{Timer}
use Rattle.agc_processor.specs.declared.timer.Timer.TheVariants as timer
use Rattle.agc_processor.specs.Effect.{basic_effect, extracode_effect, order_effect}
use Rattle.agc_processor.specs.Timer.{carried, counter, set_counter, switched_off, tick, time1_step, time1_taken, time2_by, time3_step, time3_taken, time4_step, time4_taken, time5_step, time5_taken, time6_step, time6_taken, timer_step}
use Rattle.agc_processor.specs.Row.{IsElsewhere, IsNoneOf, IsNotEdited, IsOutOfReach, Reach, below, no_cell, written, two_written, edited_again, far_edited_again, two_edited_again, channel, place_of, ten_bits, upper_place}
use Rattle.agc_processor.specs.Table.{basic_row, extracode_row}
use Rattle.agc_processor.proofs.Rows.{basic_changes, extracode_changes}
use Rattle.agc_machine.specs.Boundary.{Applies, boundary, carried_out, in_hand, ran_order, by_order, upcoming_of}
use Rattle.agc_machine.specs.State.{State}
use Rattle.agc_machine.specs.declared.answer.Stop.{Stop}
use Rattle.agc_machine.specs.declared.upcoming.InHand.{InHand}
use Rattle.agc_machine.specs.declared.upcoming.Upcoming.{Upcoming}
use Rattle.agc_machine.specs.declared.upcoming.Upcoming.TheVariants as upcoming
use Rattle.agc_machine.proofs.Cases.{upcoming_applies, upcoming_comes}
use Rattle.agc_listing.specs.declared.location.Location.{Location}
use Rattle.agc_listing.specs.declared.location.Location.TheVariants as location
use Rattle.agc_listing.specs.Cell.{same_word}
use Rattle.agc_trace.specs.Change.{changes_since, is_changed, is_named, named_below, named_cells, seen_in}
use Rattle.agc_listing.specs.Ranges.{has_place, is_from_to}
use Rattle.agc_trace.specs.Touched.{are_past, begins_by, cell_in, is_away, reach_of, touched_at, touched_by}
use Rattle.agc_trace.specs.declared.change.Change.{Change}
use Rattle.agc_trace.specs.declared.change.Seen.{Seen}
use Rattle.agc_listing.specs.declared.location_range.LocationRange.{LocationRange}
use Rattle.agc_trace.specs.declared.touched.Touched.{Touched}
use Rattle.agc_trace.specs.declared.touched.Touched.TheVariants as touched
use Rattle.agc_trace.specs.Entry.{entry_of}
use Rattle.agc_trace.specs.Watch.{watched_of}
use Rattle.agc_trace.specs.declared.entry.Entry.{Entry}
use Rattle.agc_trace.specs.Operand.{operand_of}
use Rattle.agc_trace.specs.declared.operand.Operand.{Operand}
use Rattle.agc_listing.proofs.SameWord.{same_word-refl}
use Rattle.agc_trace.proofs.Changes.{seen_after, watched_is}

-- a cell past EDOP that is not among the touched ones
abbrev IsAway : Touched → ℕ → Type 0
IsAway touched.Nothing c = Unit {0}
IsAway (touched.One cell) c = c ≢ cell
IsAway (touched.Two low high) c = (c ≢ low) × (c ≢ high)
IsAway touched.Counter c = time6_cell < c
IsAway touched.Any c = ⊥

-- no order sets a register past EDOP
basic_registers : (o : Basic) (c : ℕ) → edop_cell < c → IsNoneOf (basic_row o).sets c
unfolding basic_row IsNoneOf
basic_registers basic.Tc c h = (omega arith, tt)
basic_registers basic.Ccs c h = (omega arith, tt)
basic_registers basic.Das c h = (omega arith, (omega arith, tt))
basic_registers basic.Lxch c h = (omega arith, tt)
basic_registers basic.Ads c h = (omega arith, tt)
basic_registers basic.Ca c h = (omega arith, tt)
basic_registers basic.Cs c h = (omega arith, tt)
basic_registers basic.Dxch c h = (omega arith, (omega arith, tt))
basic_registers basic.Ts c h = (omega arith, tt)
basic_registers basic.Xch c h = (omega arith, tt)
basic_registers basic.Ad c h = (omega arith, tt)
basic_registers basic.Mask c h = (omega arith, tt)
basic_registers o c h = tt

extracode_registers : (o : Extracode) (c : ℕ) → edop_cell < c → IsNoneOf (extracode_row o).sets c
unfolding extracode_row IsNoneOf
extracode_registers extra.Write c h = tt
extracode_registers extra.Edrupt c h = tt
extracode_registers extra.Dv c h = (omega arith, (omega arith, tt))
extracode_registers extra.Bzf c h = tt
extracode_registers extra.Aug c h = tt
extracode_registers extra.Dim c h = tt
extracode_registers extra.Dca c h = (omega arith, (omega arith, tt))
extracode_registers extra.Dcs c h = (omega arith, (omega arith, tt))
extracode_registers extra.Index c h = tt
extracode_registers extra.Bzmf c h = tt
extracode_registers extra.Mp c h = (omega arith, (omega arith, tt))
extracode_registers o c h = (omega arith, tt)

-- the cell that an address names
place_is : (cells : List Number) (k : ℕ) → erasable_place cells k ≡ cell_in (erasable_bank cells) k
unfolding erasable_place
place_is cells k = refl

-- a cell past EDOP is neither a register nor an editing register
elsewhere : (place c : ℕ) → edop_cell < c → c ≢ place → IsElsewhere place c
elsewhere place c h other = (other, λ is. grind (arith, nat_tests))

not_edited : (k : ℕ) (p : Processor) (c : ℕ) → edop_cell < c → IsNotEdited k p c
not_edited k p c h = λ erasable editing. grind (arith, nat_tests)

-- the upper word's cell, if the lower one is not a register
upper_is : (p q : Processor) → zero_cell < place_of (ten_bits p) p → upper_place p q ≡ place_of (below 0o1777 (ten_bits p)) p
upper_is p q h = grind (arith, nat_tests)

two_by : (b : Bool) (low high c : ℕ) → nat_le low zero_cell ≡ b → IsAway (if b then touched.Any else touched.Two low high) c → (zero_cell < low) × (c ≢ low) × (c ≢ high)
two_by true low high c e away = absurd away
two_by false low high c e away = (grind (arith, nat_tests), away.0, away.1)

out_of_reach : (r : Reach) (p q : Processor) (c : ℕ) → edop_cell < c → IsAway (touched_at r (erasable_bank p.store.erasable) (ten_bits p)) c → IsOutOfReach r p q c
unfolding IsOutOfReach
out_of_reach no_cell p q c h away = tt
out_of_reach written p q c h away = elsewhere _ c h (subst (λ (place : ℕ). c ≢ place) (sym (place_is p.store.erasable (ten_bits p))) away)
out_of_reach two_written p q c h away =
    let bank = erasable_bank p.store.erasable in
    let k = ten_bits p in
    let two = two_by (nat_le (cell_in bank k) zero_cell) (cell_in bank k) (cell_in bank (below 0o1777 k)) c refl away in
    let low = place_is p.store.erasable k in (
      elsewhere _ c h (subst (λ (place : ℕ). c ≢ place) (sym low) two.1),
      elsewhere _ c h (subst (λ (place : ℕ). c ≢ place) (sym (upper_is p q (subst (λ (place : ℕ). zero_cell < place) (sym low) two.0) ∙ place_is p.store.erasable (below 0o1777 k))) two.2),
    )
out_of_reach edited_again p q c h away = not_edited _ p c h
out_of_reach far_edited_again p q c h away = not_edited _ p c h
out_of_reach two_edited_again p q c h away = (not_edited _ p c h, not_edited _ p c h)
out_of_reach channel p q c h away = (λ is. omega arith, λ is. omega arith)

-- what an order does not change
order_kept : (extracode : Bool) (word n : ℕ) (p : Processor) (c : ℕ) → edop_cell < c
    → IsAway (touched_at (if extracode then (extracode_row (extracode_of word)).reach else (basic_row (basic_of word)).reach) (erasable_bank p.store.erasable) (ten_bits p)) c
    → cell_at c (if extracode then extracode_effect (extracode_of word) n p else basic_effect (basic_of word) p).0.store.erasable ≡ cell_at c p.store.erasable
order_kept true word n p c h away =
    (extracode_changes (extracode_of word) n p).cells c (omega arith) (extracode_registers (extracode_of word) c h) (out_of_reach _ p _ c h away)
order_kept false word n p c h away =
    (basic_changes (basic_of word) p).cells c (omega arith) (basic_registers (basic_of word) c h) (out_of_reach _ p _ c h away)

effect_kept : (n : ℕ) (p : Processor) (c : ℕ) → edop_cell < c → IsAway (touched_by (erasable_bank p.store.erasable) (upcoming.Order (in_hand p))) c
    → cell_at c (order_effect n p).0.store.erasable ≡ cell_at c p.store.erasable
unfolding touched_by reach_of in_hand order_effect
effect_kept n p c h away = order_kept p.extracode (pattern_of 15 p.hand) n p c h away

-- the processor that an order leaves
ran_processor : (s : State) (r : Processor × Ran) → (ran_order s r).0.processor ≡ r.0
ran_processor s (p, ran.Quiet cycles) = refl
ran_processor s (p, ran.Wrote h value) = refl
ran_processor s (p, ran.Halted why) = refl

order_done : (s : State) → (by_order s).0.processor ≡ (order_effect s.cycle s.processor).0
unfolding by_order
order_done s = ran_processor s (order_effect s.cycle s.processor)

-- a timer's step
poke_kept : (m : Memory) (place c : ℕ) (w : Number) → c ≢ 0o400 * 0 + place → cell_at c (poke_of m 0 place w).erasable ≡ cell_at c m.erasable
unfolding poke_of cell_at
poke_kept m place c w other = get_or-set_other m.erasable (0o400 * 0 + place) c w nothing other

time2_kept : (o : Carry) (p : Processor) (c : ℕ) → time6_cell < c → cell_at c (time2_by o p).0.store.erasable ≡ cell_at c p.store.erasable
time2_kept carry.Out p c h = poke_kept p.store _ c _ (omega arith)
time2_kept carry.None p c h = refl

carry_kept : (r : Rupt) (o : Carry) (p : Processor) → (carried r o p).store ≡ p.store
carry_kept r carry.Out p = refl
carry_kept r carry.None p = refl

switch_kept : (o : Carry) (p : Processor) → (switched_off o p).store ≡ p.store
switch_kept carry.Out p = refl
switch_kept carry.None p = refl

tick_kept : (place : ℕ) (r : Rupt) (p : Processor) (c : ℕ) → c ≢ 0o400 * 0 + place → cell_at c (tick place r p).store.erasable ≡ cell_at c p.store.erasable
tick_kept place r p c other =
    let stepped = pulsed pulse.Pinc (counter place p) in
    ap (λ (m : Memory). cell_at c m.erasable) (carry_kept r stepped.1 (set_counter place stepped.0 p)) ∙ poke_kept p.store place c stepped.0 other

time6_kept : (p : Processor) (c : ℕ) → time6_cell < c → cell_at c (time6_step p).0.store.erasable ≡ cell_at c p.store.erasable
unfolding time6_step
time6_kept p c h =
    let stepped = pulsed pulse.Dinc (counter time6_cell p) in
    ap (λ (m : Memory). cell_at c m.erasable) (switch_kept stepped.1 (set_counter time6_cell stepped.0 (time6_taken p)))
    ∙ poke_kept p.store time6_cell c stepped.0 (omega arith)

time1_kept : (p : Processor) (c : ℕ) → time6_cell < c → cell_at c (time1_step p).0.store.erasable ≡ cell_at c p.store.erasable
unfolding time1_step
time1_kept p c h =
    let stepped = pulsed pulse.Pinc (counter time1_cell p) in
    time2_kept stepped.1 (set_counter time1_cell stepped.0 (time1_taken p)) c h ∙ poke_kept p.store time1_cell c stepped.0 (omega arith)

timer_kept : (t : Timer) (p : Processor) (c : ℕ) → time6_cell < c → cell_at c (timer_step t p).0.store.erasable ≡ cell_at c p.store.erasable
unfolding time3_step time4_step time5_step
timer_kept timer.Time1 p c h = time1_kept p c h
timer_kept timer.Time3 p c h = tick_kept time3_cell rupt.T3rupt (time3_taken p) c (omega arith)
timer_kept timer.Time4 p c h = tick_kept time4_cell rupt.T4rupt (time4_taken p) c (omega arith)
timer_kept timer.Time5 p c h = tick_kept time5_cell rupt.T5rupt (time5_taken p) c (omega arith)
timer_kept timer.Time6 p c h = time6_kept p c h

-- what comes does not change what it does not touch
come_kept : (u : Upcoming) (s : State) (c : ℕ) → Applies u s → edop_cell < c → IsAway (touched_by (erasable_bank s.processor.store.erasable) u) c
    → cell_at c (carried_out u (record s { begun = true })).0.processor.store.erasable ≡ cell_at c s.processor.store.erasable
unfolding touched_by
come_kept (upcoming.Order order) s c applies h away =
    ap (λ (p : Processor). cell_at c p.store.erasable) (order_done (record s { begun = true }))
    ∙ effect_kept s.cycle s.processor c h (subst (λ (o : InHand). IsAway (touched_by (erasable_bank s.processor.store.erasable) (upcoming.Order o)) c) applies.3 away)
come_kept (upcoming.Timer t) s c applies h away = timer_kept t s.processor c away
come_kept (upcoming.Stop why) s c applies h away = absurd away
come_kept (upcoming.Event what) s c applies h away = absurd away
come_kept (upcoming.Interrupt r) s c applies h away = absurd away

stop_is_any : (bank : ℕ) (why : Stop) (c : ℕ) → IsAway (touched_by bank (upcoming.Stop why)) c → ⊥
unfolding touched_by
stop_is_any bank why c away = away

kept_unless : (o : Option Stop) (s : State) (c : ℕ) → s.stopped ≡ o → edop_cell < c → IsAway (touched_by (erasable_bank s.processor.store.erasable) (upcoming_of s)) c
    → cell_at c (boundary None s).0.processor.store.erasable ≡ cell_at c s.processor.store.erasable
kept_unless (Some why) s c e h away =
    absurd (stop_is_any _ why c (subst (λ (u : Upcoming). IsAway (touched_by (erasable_bank s.processor.store.erasable) u) c) ((upcoming_comes s).stays why e) away))
kept_unless None s c e h away =
    ap (λ r. cell_at c r.0.processor.store.erasable) ((upcoming_comes s).comes e) ∙ come_kept (upcoming_of s) s c (upcoming_applies s e) h away

-- a watched cell, when all watched cells come after another cell
past_first : (first last : Location) (bound c : ℕ) → begins_by bound first ≡ false → is_from_to first last (location.Erasable c) ≡ true → bound < c
past_first (location.Erasable first) (location.Erasable last) bound c e h = grind (arith, nat_tests)
past_first (location.Erasable first) (location.Fixed last) bound c e h = cc
past_first (location.Fixed first) (location.Erasable last) bound c e h = cc
past_first (location.Fixed first) (location.Fixed last) bound c e h = cc

past_by : (a b x y : Bool) (bound c : ℕ) → (a ≡ false → x ≡ true → bound < c) → (b ≡ false → y ≡ true → bound < c) → (a || b) ≡ false → (x || y) ≡ true → bound < c
past_by true b x y bound c f g e h = cc
past_by false b true y bound c f g e h = f refl refl
past_by false b false y bound c f g e h = g e h

past : (several : List LocationRange) (bound c : ℕ) → list_any (λ places. begins_by bound places.first) several ≡ false → is_named several c ≡ true → bound < c
past [] bound c e h = cc
past (places ∷ several) bound c e h =
    past_by (begins_by bound places.first) (list_any (λ places. begins_by bound places.first) several) (has_place places (location.Erasable c)) (is_named several c) bound c
    (past_first places.first places.last bound c) (past several bound c) e h

pub not_true : (b : Bool) → not b ≡ true → b ≡ false
not_true true e = cc
not_true false e = refl

both : (a b : Bool) → (a && b) ≡ true → (a ≡ true) × (b ≡ true)
both true b e = (refl, e)
both false b e = cc

-- a watched cell differs from every cell that is not watched
is_other : (several : List LocationRange) (c cell : ℕ) → not (is_named several cell) ≡ true → is_named several c ≡ true → c ≢ cell
is_other several c cell e h = λ same. let n : is_named several cell ≡ true = subst (λ (k : ℕ). is_named several k ≡ true) same h in let f = not_true (is_named several cell) e in cc

away_from : (t : Touched) (several : List LocationRange) (c : ℕ) → is_away several t ≡ true → is_named several c ≡ true → (edop_cell < c) × IsAway t c
away_from touched.Nothing several c e h = (past several edop_cell c (not_true _ e) h, tt)
away_from (touched.One cell) several c e h =
    let b = both _ _ e in
    (past several edop_cell c (not_true _ b.0) h, is_other several c cell b.1 h)
away_from (touched.Two low high) several c e h =
    let b = both (are_past edop_cell several && not (is_named several low)) (not (is_named several high)) e in
    let d = both (are_past edop_cell several) (not (is_named several low)) b.0 in
    (past several edop_cell c (not_true _ d.0) h, (is_other several c low d.1 h, is_other several c high b.1 h))
away_from touched.Counter several c e h =
    let p = past several time6_cell c (not_true _ e) h in (omega arith, p)
away_from touched.Any several c e h = cc

-- a watched cell keeps its word if no watched cell is touched
named_kept : (several : List LocationRange) (s : State) → is_away several (touched_by (erasable_bank s.processor.store.erasable) (upcoming_of s)) ≡ true
    → (c : ℕ) → is_named several c ≡ true → cell_at c (boundary None s).0.processor.store.erasable ≡ cell_at c s.processor.store.erasable
named_kept several s e c h =
    let a = away_from (touched_by (erasable_bank s.processor.store.erasable) (upcoming_of s)) several c e h in
    kept_unless s.stopped s c refl a.0 a.1

unchanged : (before after : Memory) (c : ℕ) → cell_at c after.erasable ≡ cell_at c before.erasable → is_changed after (seen_in before c) ≡ false
unchanged before after c e = ap not (ap (same_word (cell_at c before.erasable)) e ∙ same_word-refl (cell_at c before.erasable))

none_by : (b : Bool) (before after : Memory) (c : ℕ) (rest : List ℕ) → (b ≡ true → cell_at c after.erasable ≡ cell_at c before.erasable)
    → list_any (λ s. is_changed after s) (map (seen_in before) rest) ≡ false
    → list_any (λ s. is_changed after s) (map (seen_in before) (if b then c ∷ rest else rest)) ≡ false
none_by true before after c rest h k = ap (λ (x : Bool). x || list_any (λ s. is_changed after s) (map (seen_in before) rest)) (unchanged before after c (h refl)) ∙ k
none_by false before after c rest h k = k

none_moved : (before after : Memory) (p : ℕ → Bool) (cells : List ℕ) → ((c : ℕ) → p c ≡ true → cell_at c after.erasable ≡ cell_at c before.erasable)
    → list_any (λ s. is_changed after s) (map (seen_in before) (filter p cells)) ≡ false
none_moved before after p [] h = refl
none_moved before after p (c ∷ cells) h = none_by (p c) before after c (filter p cells) (h c) (none_moved before after p cells h)

-- so nothing that was read has changed
pub none_touched : (several : List LocationRange) (s : State) (seen : List Seen) → seen ≡ map (seen_in s.processor.store) (named_cells several)
    → is_away several (touched_by (erasable_bank s.processor.store.erasable) (upcoming_of s)) ≡ true
    → list_any (λ x. is_changed (boundary None s).0.processor.store x) seen ≡ false
unfolding named_cells named_below
none_touched several s seen h e =
    ap (list_any (λ x. is_changed (boundary None s).0.processor.store x)) h
    ∙ none_moved s.processor.store (boundary None s).0.processor.store (is_named several) (range_with_len 0 erasable_cells) (named_kept several s e)

-- the same in terms of the code: the bank before the boundary, what happened, and the memory after it
pub none_found : (several : List LocationRange) (s t : State) (m : Memory) (entry : Entry) (seen : List Seen) (bank : ℕ) (b : Bool)
    → seen ≡ map (seen_in s.processor.store) (named_cells several) → bank ≡ erasable_bank s.processor.store.erasable → entry ≡ entry_of s → t ≡ (boundary None s).0
    → m ≡ t.processor.store → b ≡ is_away several (touched_by bank entry.happening) → b ≡ true
    → list_any (λ x. is_changed m x) seen ≡ false
unfolding entry_of
none_found several s t m entry seen bank b h k e f n a holds =
    ap (λ (x : Memory). list_any (λ y. is_changed x y) seen) (n ∙ ap (λ (u : State). u.processor.store) f)
    ∙ none_touched several s seen h
    (ap (λ (x : ℕ). is_away several (touched_by x (upcoming_of s))) (sym k) ∙ ap (λ (x : Entry). is_away several (touched_by bank x.happening)) (sym e) ∙ sym a ∙ holds)

pub watched_found : (cells : List ℕ) (s t : State) (m : Memory) (entry : Entry) (used : Operand) (seen : List Seen) (changes : List Change)
    → entry ≡ entry_of s → used ≡ operand_of s → t ≡ (boundary None s).0 → seen ≡ map (seen_in s.processor.store) cells → changes ≡ changes_since seen m → m ≡ t.processor.store
    → record { entry = entry; operand = used; changes = changes } ≡ watched_of cells s
watched_found cells s t m entry used seen changes e o f h k n =
    watched_is cells s t entry used seen changes e o f h (k ∙ ap (changes_since seen) n)

pub seen_found : (cells : List ℕ) (before after m : Memory) (seen again : List Seen) → seen ≡ map (seen_in before) cells
    → again ≡ map (λ x. seen_in m x.cell) seen → m ≡ after → again ≡ map (seen_in after) cells
seen_found cells before after m seen again h k n =
    seen_after cells before after seen again h (k ∙ ap (λ (x : Memory). map (λ y. seen_in x y.cell) seen) n)
