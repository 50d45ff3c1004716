-- The words that a reading means, and their bits, are each other's inverse; what becomes of the parity bit.
use Rattle.std.specs.Prelude.{◌≡◌, ℕ, zero, suc, ◌+◌, ◌*◌, ◌/◌, ◌%◌, ◌^◌, ◌<◌, Bool, true, false}
use Rattle.std.specs.Int.Count.{ones}
use Rattle.std.proofs.Common.{refl, ap, ◌∙◌, arith}
use Rattle.std.proofs.lemmas.Bool.Decides.{nat_tests}
use Rattle.agc_store.specs.RopeFile.{is_bad_parity}
use Rattle.agc_mend.specs.Parity.{with_right_parity}
use Rattle.agc_mend.specs.Reading.{ComesBack, bits_for, bytes_in_order, carried_over, parity_at_end, parity_in_place, without_parity, word_meant}
use Rattle.agc_mend.specs.declared.reading.ParityBit.{ParityBit}
use Rattle.agc_mend.specs.declared.reading.ParityBit.TheVariants as parity
use Rattle.agc_mend.specs.declared.reading.Reading.{Reading}
use Rattle.agc_mend.proofs.RightParity.{one_more, right_fits, same_bits}

order_fits : (swap : Bool) (bits : ℕ) → bits < 2 ^ 16 → bytes_in_order swap bits < 2 ^ 16
order_fits true bits h = omega arith
order_fits false bits h = h

order_back : (swap : Bool) (bits : ℕ) → bits < 2 ^ 16 → bytes_in_order swap (bytes_in_order swap bits) ≡ bits
order_back true bits h = omega arith
order_back false bits h = refl

end_fits : (p : ParityBit) (bits : ℕ) → bits < 2 ^ 16 → parity_at_end p bits < 2 ^ 16
end_fits parity.Unused bits h = h
end_fits parity.Last bits h = h
end_fits parity.First bits h = omega arith

place_fits : (p : ParityBit) (word : ℕ) → word < 2 ^ 16 → parity_in_place p word < 2 ^ 16
place_fits parity.Unused word h = h
place_fits parity.Last word h = h
place_fits parity.First word h = omega arith

end_back : (p : ParityBit) (word : ℕ) → word < 2 ^ 16 → parity_at_end p (parity_in_place p word) ≡ word
end_back parity.Unused word h = refl
end_back parity.Last word h = refl
end_back parity.First word h = omega arith

place_back : (p : ParityBit) (bits : ℕ) → bits < 2 ^ 16 → parity_in_place p (parity_at_end p bits) ≡ bits
place_back parity.Unused bits h = refl
place_back parity.Last bits h = refl
place_back parity.First bits h = omega arith

pub meant_fits : (reading : Reading) (bits : ℕ) → bits < 2 ^ 16 → word_meant reading bits < 2 ^ 16
unfolding word_meant
meant_fits reading bits h =
    end_fits reading.parity (bytes_in_order reading.is_swapped bits) (order_fits reading.is_swapped bits h)

pub meant_back : (reading : Reading) (word : ℕ) → word < 2 ^ 16 → word_meant reading (bits_for reading word) ≡ word
unfolding word_meant bits_for
meant_back reading word h =
    ap (parity_at_end reading.parity) (order_back reading.is_swapped (parity_in_place reading.parity word) (place_fits reading.parity word h))
    ∙ end_back reading.parity word h

pub bits_back : (reading : Reading) (bits : ℕ) → bits < 2 ^ 16 → bits_for reading (word_meant reading bits) ≡ bits
unfolding word_meant bits_for
bits_back reading bits h =
    ap (bytes_in_order reading.is_swapped) (place_back reading.parity (bytes_in_order reading.is_swapped bits) (order_fits reading.is_swapped bits h))
    ∙ order_back reading.is_swapped bits h

nothing_ordered : (swap : Bool) → bytes_in_order swap 0 ≡ 0
nothing_ordered true = refl
nothing_ordered false = refl

nothing_ended : (p : ParityBit) → parity_at_end p 0 ≡ 0
nothing_ended parity.Unused = refl
nothing_ended parity.Last = refl
nothing_ended parity.First = refl

pub nothing_meant : (reading : Reading) → word_meant reading 0 ≡ 0
unfolding word_meant
nothing_meant reading =
    ap (parity_at_end reading.parity) (nothing_ordered reading.is_swapped) ∙ nothing_ended reading.parity

pub nothing_carried : (before after : ParityBit) → carried_over before after 0 ≡ 0
unfolding carried_over without_parity with_right_parity is_bad_parity
nothing_carried parity.Unused parity.Unused = refl
nothing_carried parity.Unused parity.Last = refl
nothing_carried parity.Unused parity.First = refl
nothing_carried parity.Last parity.Unused = refl
nothing_carried parity.Last parity.Last = refl
nothing_carried parity.Last parity.First = refl
nothing_carried parity.First parity.Unused = refl
nothing_carried parity.First parity.Last = refl
nothing_carried parity.First parity.First = refl

same_without : (word : ℕ) → without_parity word / 2 ≡ word / 2
unfolding without_parity
same_without word = grind (arith, nat_tests)

without_fits : (word : ℕ) → word < 2 ^ 16 → without_parity word < 2 ^ 16
unfolding without_parity
without_fits word h = grind (arith, nat_tests)

pub same_carried : (before after : ParityBit) (word : ℕ) → carried_over before after word / 2 ≡ word / 2
unfolding carried_over
same_carried parity.Unused parity.Unused word = refl
same_carried parity.Unused parity.Last word = same_bits word
same_carried parity.Unused parity.First word = same_bits word
same_carried parity.Last parity.Unused word = same_without word
same_carried parity.Last parity.Last word = refl
same_carried parity.Last parity.First word = refl
same_carried parity.First parity.Unused word = same_without word
same_carried parity.First parity.Last word = refl
same_carried parity.First parity.First word = refl

pub carried_fits : (before after : ParityBit) (word : ℕ) → word < 2 ^ 16 → carried_over before after word < 2 ^ 16
unfolding carried_over
carried_fits parity.Unused parity.Unused word h = h
carried_fits parity.Unused parity.Last word h = right_fits word h
carried_fits parity.Unused parity.First word h = right_fits word h
carried_fits parity.Last parity.Unused word h = without_fits word h
carried_fits parity.Last parity.Last word h = h
carried_fits parity.Last parity.First word h = h
carried_fits parity.First parity.Unused word h = without_fits word h
carried_fits parity.First parity.Last word h = h
carried_fits parity.First parity.First word h = h

-- +0 without and with its parity bit is not bad
right_zero : (word half : ℕ) → word / 2 ≡ half → half ≡ 0 → with_right_parity word ≡ word
unfolding with_right_parity is_bad_parity ones
right_zero zero half is none = refl
right_zero (suc zero) half is none = refl
right_zero (suc (suc word)) half is none = absurd (omega arith)

dropped_some : (word : ℕ) → 0 < word / 2 → without_parity word ≡ word → without_parity (with_right_parity word) ≡ word
unfolding without_parity
dropped_some word some clean = let same = same_bits word in grind (arith, nat_tests)

dropped_by : (word half : ℕ) → word / 2 ≡ half → without_parity word ≡ word → without_parity (with_right_parity word) ≡ word
dropped_by word zero is clean = rw (right_zero word zero is refl) clean
dropped_by word (suc half) is clean = dropped_some word (omega arith) clean

made_by : (word half last : ℕ) → word / 2 ≡ half → word % 2 ≡ last → is_bad_parity word ≡ false → with_right_parity (without_parity word) ≡ word
unfolding with_right_parity without_parity is_bad_parity
made_by word zero last is rest good = grind (arith, nat_tests)
made_by word (suc half) zero is rest good = grind (arith, nat_tests)
made_by word (suc half) (suc last) is rest good =
    let whole : word ≡ 2 * (word / 2) + 1 = omega arith in
    let more = one_more (word / 2) in
    grind (arith, nat_tests)

pub carried_back : (before after : ParityBit) (word : ℕ) → ComesBack before after word → carried_over after before (carried_over before after word) ≡ word
unfolding carried_over
carried_back parity.Unused parity.Unused word h = refl
carried_back parity.Unused parity.Last word h = dropped_by word (word / 2) refl h
carried_back parity.Unused parity.First word h = dropped_by word (word / 2) refl h
carried_back parity.Last parity.Unused word h = made_by word (word / 2) (word % 2) refl refl h
carried_back parity.Last parity.Last word h = refl
carried_back parity.Last parity.First word h = refl
carried_back parity.First parity.Unused word h = made_by word (word / 2) (word % 2) refl refl h
carried_back parity.First parity.Last word h = refl
carried_back parity.First parity.First word h = refl

pub nothing_comes_back : (before after : ParityBit) → ComesBack before after 0
unfolding without_parity is_bad_parity
nothing_comes_back parity.Unused parity.Unused = tt
nothing_comes_back parity.Unused parity.Last = refl
nothing_comes_back parity.Unused parity.First = refl
nothing_comes_back parity.Last parity.Unused = refl
nothing_comes_back parity.Last parity.Last = tt
nothing_comes_back parity.Last parity.First = tt
nothing_comes_back parity.First parity.Unused = refl
nothing_comes_back parity.First parity.Last = tt
nothing_comes_back parity.First parity.First = tt
