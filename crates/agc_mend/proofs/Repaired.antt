-- The sum of a bank with another word in it, one word more; and repairs of one plausibility more.
use Rattle.std.specs.Prelude.{◌≡◌, ℕ, ◌+◌, ◌==◌, List, [], ◌∷◌, ◌++◌, if◌then◌else◌}
use Rattle.std.specs.List.{flat_map, range_with_len}
use Rattle.std.proofs.Common.{refl, ap, ◌∙◌, add-one, zero-add, append-nil}
use Rattle.std.proofs.lemmas.List.Concat.{flat_map-append}
use Rattle.agc_word.specs.Number.{Number}
use Rattle.agc_store.specs.Memory.{nothing}
use Rattle.agc_mend.specs.BankSum.{bank_word, word_sum}
use Rattle.agc_listing.proofs.RopeLines.{range_more}
use Rattle.agc_mend.specs.Repair.{most_plausible_first, of_plausibility, sum_with}
use Rattle.agc_mend.specs.declared.repair.Repair.{Repair}

pub sum_none : (words : List Number) (bank offset : ℕ) (word : Number) → sum_with 0 words bank offset word ≡ nothing
unfolding sum_with
sum_none words bank offset word = refl

pub sum_more : (count : ℕ) (words : List Number) (bank offset : ℕ) (word : Number)
    → sum_with (count + 1) words bank offset word ≡ word_sum (sum_with count words bank offset word) (if count == offset then word else bank_word words bank count)
unfolding sum_with
sum_more count words bank offset word = rw add-one refl

pub ranks_none : (repairs : List Repair) → most_plausible_first 0 repairs ≡ []
unfolding most_plausible_first
ranks_none repairs = refl

pub ranks_more : (count : ℕ) (repairs : List Repair) → most_plausible_first (count + 1) repairs ≡ most_plausible_first count repairs ++ of_plausibility repairs count
unfolding most_plausible_first
ranks_more count repairs =
    let ranked = of_plausibility repairs in
    let before = range_with_len 0 count in
    rw add-one
    (ap (flat_map ranked) (range_more 0 count)
    ∙ flat_map-append ranked before ((0 + count) ∷ [])
    ∙ ap (λ (here : List Repair). flat_map ranked before ++ here) (append-nil (ranked (0 + count)))
    ∙ ap (λ (k : ℕ). flat_map ranked before ++ ranked k) (zero-add count))
