-- Unfolding the lines of boundaries gives the boundaries.
use Rattle.std.proofs.Common.{◌≡◌, ℕ, zero, suc, ◌+◌, ◌-◌, ◌<◌, ◌≤◌, List, [], ◌∷◌, ◌++◌, take, length, Bool, true, false, refl, ap, sym, subst, ◌∙◌, arith}
use Rattle.std.specs.Prelude.{◌&&◌, ◌||◌, ◌==◌, nat_le, nat_lt, flat_map, get_or, slice_get, Option, Some, None, if◌then◌else◌}
use Rattle.std.proofs.Math.Seq.{take-length, take-suc}
use Rattle.std.proofs.lemmas.Bool.{eqb-true, leb-true}
use Rattle.std.proofs.lemmas.Grind.{flat_map-append}
use Rattle.std.proofs.lemmas.List.{append-nil, append_assoc}
use Rattle.std.proofs.Math.Numerals.{add-one}
use Rattle.std.proofs.lemmas.Option.{get_or_from_slice_get, slice_get_within}
use Rattle.circular_buffer.specs.Buffer.{last_item}
use Rattle.agc_word.specs.declared.channel_write.ChannelWrite.{ChannelWrite}
use Rattle.agc_listing.specs.Cell.{same_sign, same_word}
use Rattle.agc_listing.proofs.SameWord.{same_word-same}
use Rattle.agc_machine.specs.declared.upcoming.InHand.{InHand}
use Rattle.agc_machine.specs.declared.upcoming.Upcoming.{Upcoming}
use Rattle.agc_machine.specs.declared.upcoming.Upcoming.TheVariants as upcoming
use Rattle.agc_trace.specs.declared.entry.Entry.{Entry}
use Rattle.agc_trace.specs.declared.entry.Registers.{Registers}
use Rattle.agc_tui.specs.Fold.{added, again, alone, boundaries_of, but_last, counted_up, counts_up, earlier, folded, folded_onto, is_quiet, most_counted, repeated, repeats, replaced, same_happening, same_order, same_registers, unfolded}
use Rattle.agc_tui.specs.declared.fold.Line.{Line}

both : (a b : Bool) → (a && b) ≡ true → (a ≡ true) × (b ≡ true)
both true true h = (refl, refl)
both true false h = cc
both false b h = cc

same_sign-same : (a b : Bool) → same_sign a b ≡ true → a ≡ b
same_sign-same true true h = refl
same_sign-same true false h = cc
same_sign-same false true h = cc
same_sign-same false false h = refl

order_same : (one other : InHand) → same_order one other ≡ true → one ≡ other
order_same one other h =
    let extra = both _ (same_sign one.extracode other.extracode) h in
    let word = both _ (same_word one.word other.word) extra.0 in
    let place = both (one.bank == other.bank) (one.address == other.address) word.0 in
    ap (λ (b : ℕ). record { bank = b; address = one.address; word = one.word; extracode = one.extracode }) (eqb-true one.bank other.bank place.0)
    ∙ ap (λ (a : ℕ). record { bank = other.bank; address = a; word = one.word; extracode = one.extracode }) (eqb-true one.address other.address place.1)
    ∙ ap (λ w. record { bank = other.bank; address = other.address; word = w; extracode = one.extracode }) (same_word-same one.word other.word word.1)
    ∙ ap (λ (e : Bool). record { bank = other.bank; address = other.address; word = other.word; extracode = e }) (same_sign-same one.extracode other.extracode extra.1)

happening_same : (one other : Upcoming) → same_happening one other ≡ true → one ≡ other
happening_same (upcoming.Order one) (upcoming.Order other) h = ap (λ (o : InHand). upcoming.Order o) (order_same one other h)
happening_same (upcoming.Order one) (upcoming.Stop why) h = cc
happening_same (upcoming.Order one) (upcoming.Event what) h = cc
happening_same (upcoming.Order one) (upcoming.Timer t) h = cc
happening_same (upcoming.Order one) (upcoming.Interrupt r) h = cc
happening_same (upcoming.Stop why) other h = cc
happening_same (upcoming.Event what) other h = cc
happening_same (upcoming.Timer t) other h = cc
happening_same (upcoming.Interrupt r) other h = cc

quiet_same : (one other : Option ChannelWrite) → is_quiet one ≡ true → is_quiet other ≡ true → one ≡ other
quiet_same None None h k = refl
quiet_same None (Some write) h k = cc
quiet_same (Some write) other h k = cc

registers_same : (one other : Registers) → same_registers one other ≡ true → one ≡ other
registers_same one other h =
    let f = both _ (one.fixed_bank == other.fixed_bank) h in
    let e = both _ (one.erasable_bank == other.erasable_bank) f.0 in
    let z = both _ (one.z == other.z) e.0 in
    let q = both _ (same_word one.q other.q) z.0 in
    let al = both (same_word one.a other.a) (same_word one.l other.l) q.0 in
    ap (λ x. record one { a = x }) (same_word-same one.a other.a al.0)
    ∙ ap (λ x. record one { a = other.a; l = x }) (same_word-same one.l other.l al.1)
    ∙ ap (λ x. record one { a = other.a; l = other.l; q = x }) (same_word-same one.q other.q q.1)
    ∙ ap (λ (x : ℕ). record one { a = other.a; l = other.l; q = other.q; z = x }) (eqb-true one.z other.z z.1)
    ∙ ap (λ (x : ℕ). record one { a = other.a; l = other.l; q = other.q; z = other.z; erasable_bank = x }) (eqb-true one.erasable_bank other.erasable_bank e.1)
    ∙ ap (λ (x : ℕ). record other { fixed_bank = x }) (eqb-true one.fixed_bank other.fixed_bank f.1)

-- a repeated boundary is the one before it, but for its cycle
again_same : (last next : Entry) → repeats last next ≡ true → (earlier (next.cycle - last.cycle) next ≡ last)
unfolding repeats
again_same last next h =
    let later = both _ (nat_le last.cycle next.cycle) h in
    let registers = both _ (same_registers last.registers next.registers) later.0 in
    let second = both _ (is_quiet next.write) registers.0 in
    let first = both (same_happening last.happening next.happening) (is_quiet last.write) second.0 in
    let order : last.cycle ≤ next.cycle = leb-true last.cycle next.cycle later.1 in
    let back : next.cycle - (next.cycle - last.cycle) ≡ last.cycle = omega (arith, order) in
    ap (λ (c : ℕ). record next { cycle = c }) back
    ∙ ap (λ x. record next { cycle = last.cycle; happening = x }) (sym (happening_same last.happening next.happening first.0))
    ∙ ap (λ x. record next { cycle = last.cycle; happening = last.happening; write = x }) (quiet_same next.write last.write second.1 first.1)
    ∙ ap (λ x. record last { registers = x }) (sym (registers_same last.registers next.registers registers.1))

-- the boundaries of a repeated one alone do not depend on the period
one_alone : (period other : ℕ) (last : Entry) → repeated period 1 last ≡ repeated other 1 last
unfolding repeated
one_alone period other last = refl

-- the same boundaries, whichever of both conditions on the period holds
same_period : (line : Line) (gap : ℕ) → (line.count == 1 || gap == line.period) ≡ true → repeated gap line.count line.last ≡ unfolded line
same_period line gap h = by_count (line.count == 1) line gap refl h
  where
    by_count : (b : Bool) (line : Line) (gap : ℕ) → (line.count == 1) ≡ b → (line.count == 1 || gap == line.period) ≡ true → repeated gap line.count line.last ≡ unfolded line
    by_count true line gap e h = let one = eqb-true line.count 1 e in rw one (one_alone gap line.period line.last)
    by_count false line gap e h =
        let k : (false || gap == line.period) ≡ true = subst (λ (b : Bool). (b || gap == line.period) ≡ true) e h in
        ap (λ (p : ℕ). repeated p line.count line.last) (eqb-true gap line.period k)

-- a line that has counted up has one boundary more
unfolded_again : (line : Line) (next : Entry) → counts_up line next ≡ true → unfolded (again line next) ≡ unfolded line ++ next ∷ []
unfolding counts_up repeated
unfolded_again line next h =
    let count = both _ (line.count == 1 || next.cycle - line.last.cycle == line.period) h in
    let repeat = both (repeats line.last next) (nat_lt line.count most_counted) count.0 in
    let gap = next.cycle - line.last.cycle in
    rw (add-one line.count)
    (ap (λ (e : Entry). repeated gap line.count e ++ next ∷ []) (again_same line.last next repeat.0)
    ∙ ap (λ (es : List Entry). es ++ next ∷ []) (same_period line gap count.1))

-- the lines are those without the last one, and the last one
last_split : (lines : List Line) (line : Line) → last_item lines ≡ Some line → lines ≡ but_last lines ++ line ∷ []
last_split lines line h =
    let within : length lines - 1 < length lines = slice_get_within lines (length lines - 1) line h in
    let all : suc (length lines - 1) ≡ length lines = omega (arith, within) in
    sym (take-length lines) ∙ ap (λ (n : ℕ). take n lines) (sym all) ∙ take-suc lines (length lines - 1) line within
    ∙ ap (λ (x : Line). but_last lines ++ x ∷ []) (get_or_from_slice_get lines (length lines - 1) line line h)

-- one more boundary, in a line of its own
more_alone : (next : Entry) (lines : List Line) → boundaries_of (lines ++ alone next ∷ []) ≡ boundaries_of lines ++ next ∷ []
unfolding repeated
more_alone next lines = flat_map-append unfolded lines (alone next ∷ [])

-- one more boundary, in the last line
more_counted : (next : Entry) (lines : List Line) (line : Line) → last_item lines ≡ Some line → counts_up line next ≡ true
    → boundaries_of (but_last lines ++ again line next ∷ []) ≡ boundaries_of lines ++ next ∷ []
more_counted next lines line h k =
    flat_map-append unfolded (but_last lines) (again line next ∷ [])
    ∙ ap (λ (es : List Entry). boundaries_of (but_last lines) ++ es) (append-nil (unfolded (again line next)) ∙ unfolded_again line next k)
    ∙ sym (append_assoc (boundaries_of (but_last lines)) (unfolded line) (next ∷ []))
    ∙ ap (λ (es : List Entry). (boundaries_of (but_last lines) ++ es) ++ next ∷ []) (sym (append-nil (unfolded line)))
    ∙ ap (λ (es : List Entry). es ++ next ∷ []) (sym (flat_map-append unfolded (but_last lines) (line ∷ [])))
    ∙ ap (λ (l : List Line). boundaries_of l ++ next ∷ []) (sym (last_split lines line h))

by_last : (last : Option Line) (next : Entry) (lines : List Line) → last_item lines ≡ last
    → boundaries_of (replaced (counted_up last next) next lines) ≡ boundaries_of lines ++ next ∷ []
by_last None next lines h = more_alone next lines
by_last (Some line) next lines h = by_test (counts_up line next) line next lines refl h
  where
    by_test : (b : Bool) (line : Line) (next : Entry) (lines : List Line) → counts_up line next ≡ b → last_item lines ≡ Some line
        → boundaries_of (replaced (if b then Some (again line next) else None) next lines) ≡ boundaries_of lines ++ next ∷ []
    by_test true line next lines e h = more_counted next lines line h e
    by_test false line next lines e h = more_alone next lines

pub one_more : (entry : Entry) (lines : List Line) → boundaries_of (added entry lines) ≡ boundaries_of lines ++ entry ∷ []
unfolding added
one_more entry lines = by_last (last_item lines) entry lines refl

all_more : (entries : List Entry) (lines : List Line) → boundaries_of (folded_onto lines entries) ≡ boundaries_of lines ++ entries
unfolding folded_onto
all_more [] lines = sym (append-nil (boundaries_of lines))
all_more (entry ∷ entries) lines =
    all_more entries (added entry lines) ∙ ap (λ (es : List Entry). es ++ entries) (one_more entry lines)
    ∙ append_assoc (boundaries_of lines) (entry ∷ []) entries

pub given_back : (entries : List Entry) → boundaries_of (folded entries) ≡ entries
given_back entries = all_more entries []
