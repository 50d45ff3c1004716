-- Which vectors of a rope hold +0: a run goes astray at an interrupt there.
use Rattle.std.specs.Prelude.{ℕ, zero, suc, ◌+◌, ◌*◌, Bool, not, List, [], ◌++◌, codes, if◌then◌else◌}
use Rattle.std.specs.List.{list_any, range_with_len}
use Rattle.agc_word.specs.Number.{Number}
use Rattle.agc_listing.specs.Place.{place_text}
use Rattle.agc_listing.specs.declared.place.Place.TheVariants as place
use Rattle.agc_mend.specs.Woven.{is_woven_at}

-- the vectors of the ten interrupts: 4004, 4010 and so on to 4050 octal
unfoldable pub vector_of : ℕ → ℕ
vector_of index = 0o4004 + 4 * index

-- the word of bank 02 at a vector is +0
unfoldable pub is_empty_vector : List Number → ℕ → Bool
is_empty_vector words index = not (is_woven_at words (vector_of index))

unfoldable pub has_empty_vector : List Number → Bool
has_empty_vector words = list_any (is_empty_vector words) (range_with_len 0 10)

-- a vector that holds +0, after a space
unfoldable pub vector_text : List Number → ℕ → List ℕ
vector_text words index =
    if is_empty_vector words index
    then codes " " ++ place_text (place.Plain (vector_of index))
    else []

-- those of the first n vectors that hold +0
unfoldable pub first_vectors_text : ℕ → List Number → List ℕ
first_vectors_text zero words = []
first_vectors_text (suc index) words =
    first_vectors_text index words ++ vector_text words index

-- all vectors that hold +0
unfoldable pub empty_vectors_text : List Number → List ℕ
empty_vectors_text words = first_vectors_text 10 words

unfoldable pub remark_head : List ℕ
remark_head = codes "    these interrupt vectors are empty, and an interrupt there runs off into the registers:"

-- the remark on the vectors that hold +0, when there are any
unfoldable pub vectors_remark : List Number → List ℕ
vectors_remark words = remark_head ++ empty_vectors_text words ++ codes "\n"

-- the same, if there are any
unfoldable pub vectors_text : List Number → List ℕ
vectors_text words = if has_empty_vector words then vectors_remark words else []
