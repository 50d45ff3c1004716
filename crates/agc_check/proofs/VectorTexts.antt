-- The text of the vectors that hold +0, one after the other.
use Rattle.std.proofs.Common.{◌≡◌, ℕ, ◌+◌, List, ◌++◌, add-one, append-nil, append_assoc}
use Rattle.agc_word.specs.Number.{Number}
use Rattle.agc_check.specs.Vectors.{first_vectors_text, vector_text}

-- no vector yet
pub no_vectors : (words : List Number) (text : List ℕ) → text ++ first_vectors_text 0 words ≡ text
unfolding first_vectors_text
no_vectors words text = append-nil text

-- one more vector
pub vectors_more : (words : List Number) (index : ℕ) (old text new : List ℕ)
    → text ≡ old ++ first_vectors_text index words → new ≡ text ++ vector_text words index
    → new ≡ old ++ first_vectors_text (index + 1) words
unfolding first_vectors_text
vectors_more words index old text new so_far is =
    rw (is, so_far, add-one) (append_assoc old (first_vectors_text index words) (vector_text words index))
