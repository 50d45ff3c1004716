-- The words of complemented orders and constants, and of orders whose offset takes a number below zero.
use Rattle.std.specs.Prelude.{◌≡◌, ℕ, Bool, true, false, List, [], ◌∷◌, codes, Some, None, Result, Ok, Err}
use Rattle.std.proofs.Common.{refl}
use Rattle.agc_word.specs.Number.{Number}
use Rattle.agc_listing.specs.Number.{begins_with_minus}
use Rattle.agc_vocabulary.specs.Body.{alias_named, spelled, spelled_by, without_minus, writes_nothing}
use Rattle.agc_encode.specs.Encode.{complemented, complemented_pair, complemented_word, offset_below_zero, lowered, encode_order, encode_pair, pair_spelled, plain_meaning, encode_word}
use Rattle.agc_vocabulary.specs.Mnemonic.{directive_named}
use Rattle.agc_vocabulary.specs.Name.{Naming}
use Rattle.agc_encode.specs.declared.encode.Banks.{Banks}
use Rattle.agc_encode.specs.declared.encode.Pair.{Pair}
use Rattle.agc_vocabulary.specs.declared.source_fault.SourceFault.{SourceFault}

-- a name without a minus
pub no_minus : (name : List ℕ) → begins_with_minus name ≡ false → without_minus name ≡ name
no_minus [] h = refl
no_minus (b ∷ bs) h = rw h refl

-- the name behind a minus
behind_minus : (name : List ℕ) → writes_nothing (directive_named name) ≡ false → without_minus (0x2D ∷ name) ≡ name
behind_minus name h = rw h refl

twice : (meaning : Result Number SourceFault) (word : Number) → complemented_word false meaning ≡ Ok word → complemented_word true meaning ≡ Ok (complemented true word)
twice (Err why) word is = absurd cc
twice (Ok mine) word is = let same : mine ≡ word = cc in rw same refl

pub complements_word : (naming : Naming) (here : ℕ) (leads : Bool) (banks : Banks) (name : List ℕ) (rest : List (List ℕ)) (word : Number) → begins_with_minus name ≡ false
    → writes_nothing (directive_named name) ≡ false → encode_word naming here leads banks (name ∷ rest) ≡ Ok word
    → encode_word naming here leads banks ((0x2D ∷ name) ∷ rest) ≡ Ok (complemented true word)
unfolding encode_word spelled
complements_word naming here leads banks name rest word plain writes is =
    let spelt = spelled_by (alias_named name) name rest in
    let own : complemented_word false (plain_meaning naming here leads banks (alias_named name) spelt) ≡ Ok word = rw (plain, no_minus name plain) at is in
    rw (behind_minus name writes) (twice (plain_meaning naming here leads banks (alias_named name) spelt) word own)

both_twice : (meaning : Result Pair SourceFault) (pair : Pair) → complemented_pair false meaning ≡ Ok pair
    → complemented_pair true meaning ≡ Ok (record { upper = complemented true pair.upper; lower = complemented true pair.lower })
both_twice (Err why) pair is = absurd cc
both_twice (Ok mine) pair is = let same : mine ≡ pair = cc in rw same refl

pub complements_pair : (naming : Naming) (here : ℕ) (banks : Banks) (name : List ℕ) (rest : List (List ℕ)) (pair : Pair) → begins_with_minus name ≡ false
    → writes_nothing (directive_named name) ≡ false → encode_pair naming here banks (name ∷ rest) ≡ Ok pair
    → encode_pair naming here banks ((0x2D ∷ name) ∷ rest) ≡ Ok (record { upper = complemented true pair.upper; lower = complemented true pair.lower })
unfolding encode_pair spelled
complements_pair naming here banks name rest pair plain writes is =
    let spelt = spelled_by (alias_named name) name rest in
    let own : complemented_pair false (pair_spelled naming here banks spelt) ≡ Ok pair = rw (plain, no_minus name plain) at is in
    rw (behind_minus name writes) (both_twice (pair_spelled naming here banks spelt) pair own)

-- an order with an offset below zero
as_it_is : (meaning : Result Number SourceFault) → complemented_word false meaning ≡ meaning
as_it_is (Err why) = refl
as_it_is (Ok word) = refl

pub adds_offset : (naming : Naming) (here : ℕ) (leads : Bool) (banks : Banks) (name : List ℕ) (rest : List (List ℕ)) (less : ℕ) → begins_with_minus name ≡ false
    → alias_named name ≡ None → directive_named name ≡ None → offset_below_zero rest ≡ Some less
    → encode_word naming here leads banks (name ∷ rest) ≡ lowered less (encode_order naming here leads name (codes "0" ∷ []))
unfolding encode_word spelled
adds_offset naming here leads banks name rest less plain own order below =
    rw (plain, no_minus name plain, own, order, below) (as_it_is (lowered less (encode_order naming here leads name (codes "0" ∷ []))))
