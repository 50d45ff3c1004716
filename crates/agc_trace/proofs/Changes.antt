-- The watched cells, read boundary by boundary.
use Rattle.std.proofs.Common.{◌≡◌, ℕ, ◌+◌, List, [], ◌∷◌, ◌++◌, Bool, true, false, None, refl, ap, sym, ◌∙◌, zero-add, add-one}
use Rattle.std.specs.Prelude.{◌||◌, not, filter, map, if◌then◌else◌}
use Rattle.std.specs.List.{list_any, range_with_len}
use Rattle.std.proofs.lemmas.List.Elements.{filter-append}
use Rattle.std.proofs.lemmas.List.{map-append}
use Rattle.agc_word.specs.Number.{Number}
use Rattle.agc_store.specs.Memory.{Memory, cell_at}
use Rattle.agc_listing.proofs.RopeLines.{range_more}
use Rattle.agc_listing.proofs.SameWord.{same_word-same}
use Rattle.agc_listing.specs.Cell.{same_word}
use Rattle.agc_trace.specs.Change.{change_of, changes_between, changes_since, is_changed, is_named, named_below, seen_in}
use Rattle.agc_machine.specs.Boundary.{boundary}
use Rattle.agc_machine.specs.State.{State}
use Rattle.agc_trace.specs.Entry.{entry_of}
use Rattle.agc_trace.specs.Watch.{Watched, watched_of}
use Rattle.agc_trace.specs.declared.entry.Entry.{Entry}
use Rattle.agc_trace.specs.Operand.{operand_of}
use Rattle.agc_trace.specs.declared.operand.Operand.{Operand}
use Rattle.agc_trace.specs.declared.change.Change.{Change}
use Rattle.agc_trace.specs.declared.change.Seen.{Seen}
use Rattle.agc_listing.specs.declared.location_range.LocationRange.{LocationRange}

one_by : (m : Memory) (cell : ℕ) (b : Bool) → map (seen_in m) (if b then cell ∷ [] else []) ≡ (if b then seen_in m cell ∷ [] else [])
one_by m cell true = refl
one_by m cell false = refl

-- the watched cells, after one more cell
pub seen_more : (m : Memory) (several : List LocationRange) (count : ℕ) →
    map (seen_in m) (named_below (count + 1) several)
    ≡ map (seen_in m) (named_below count several) ++ (if is_named several count then seen_in m count ∷ [] else [])
unfolding named_below
seen_more m several count =
    let before = range_with_len 0 count in
    let here = ap (λ (cell : ℕ). before ++ cell ∷ []) (zero-add count) in
    rw add-one
    (ap (λ (cells : List ℕ). map (seen_in m) (filter (is_named several) cells)) (range_more 0 count ∙ here)
    ∙ ap (map (seen_in m)) (filter-append (is_named several) before (count ∷ []))
    ∙ map-append (seen_in m) (filter (is_named several) before) (filter (is_named several) (count ∷ []))
    ∙ ap (λ (xs : List Seen). map (seen_in m) (filter (is_named several) before) ++ xs) (one_by m count (is_named several count)))

-- one more cell, if it is watched
pub seen_next : (m : Memory) (several : List LocationRange) (count : ℕ) (b : Bool) (cell : Seen) (items new : List Seen) → b ≡ is_named several count → cell ≡ seen_in m count →
    items ≡ map (seen_in m) (named_below count several) → new ≡ items ++ (if b then cell ∷ [] else []) →
    new ≡ map (seen_in m) (named_below (count + 1) several)
seen_next m several count b cell items new e f h k =
    k ∙ ap (λ (xs : List Seen). xs ++ (if b then cell ∷ [] else [])) h
    ∙ ap (λ (c : Bool). map (seen_in m) (named_below count several) ++ (if c then cell ∷ [] else [])) e
    ∙ ap (λ (x : Seen). map (seen_in m) (named_below count several) ++ (if is_named several count then x ∷ [] else [])) f
    ∙ sym (seen_more m several count)

pub seen_none : (m : Memory) (several : List LocationRange) → map (seen_in m) (named_below 0 several) ≡ []
unfolding named_below
seen_none m several = refl

not_false : (b : Bool) → not b ≡ false → b ≡ true
not_false true e = refl
not_false false e = cc

neither : (a b : Bool) → (a || b) ≡ false → (a ≡ false) × (b ≡ false)
neither true b e = cc
neither false b e = (refl, e)

-- a cell whose word is the same
same_again : (m : Memory) (seen : Seen) → is_changed m seen ≡ false → seen_in m seen.cell ≡ seen
same_again m seen e =
    let same = not_false (same_word seen.word (cell_at seen.cell m.erasable)) e in
    ap (λ (word : Number). record { cell = seen.cell; word = word }) (sym (same_word-same seen.word (cell_at seen.cell m.erasable) same))

pub none_again : (m : Memory) (several : List Seen) → list_any (λ s. is_changed m s) several ≡ false → map (λ s. seen_in m s.cell) several ≡ several
none_again m [] e = refl
none_again m (seen ∷ several) e =
    let both = neither (is_changed m seen) (list_any (λ s. is_changed m s) several) e in
    ap (λ (x : Seen). x ∷ map (λ s. seen_in m s.cell) several) (same_again m seen both.0)
    ∙ ap (λ (xs : List Seen). seen ∷ xs) (none_again m several both.1)

none_by : (b : Bool) (m : Memory) (seen : Seen) (several : List Seen) → b ≡ false → map (change_of m) (filter (is_changed m) several) ≡ [] →
    map (change_of m) (if b then seen ∷ filter (is_changed m) several else filter (is_changed m) several) ≡ []
none_by true m seen several e h = cc
none_by false m seen several e h = h

pub none_changed : (m : Memory) (several : List Seen) → list_any (λ s. is_changed m s) several ≡ false → changes_since several m ≡ []
none_changed m [] e = refl
none_changed m (seen ∷ several) e =
    let both = neither (is_changed m seen) (list_any (λ s. is_changed m s) several) e in
    none_by (is_changed m seen) m seen several both.0 (none_changed m several both.1)

-- cells that were read in one memory, read again in another
pub again_in : (before after : Memory) (cells : List ℕ) → map (λ s. seen_in after s.cell) (map (seen_in before) cells) ≡ map (seen_in after) cells
again_in before after [] = refl
again_in before after (cell ∷ cells) = ap (λ (xs : List Seen). seen_in after cell ∷ xs) (again_in before after cells)

-- The watched cells were read before a boundary: what has changed after it makes its entry, and they are read again.
pub watched_is : (cells : List ℕ) (s t : State) (entry : Entry) (used : Operand) (seen : List Seen) (changes : List Change) →
    entry ≡ entry_of s → used ≡ operand_of s → t ≡ (boundary None s).0 → seen ≡ map (seen_in s.processor.store) cells → changes ≡ changes_since seen t.processor.store →
    record { entry = entry; operand = used; changes = changes } ≡ watched_of cells s
unfolding watched_of changes_between
watched_is cells s t entry used seen changes e o f h k =
    ap (λ (x : Entry). record { entry = x; operand = used; changes = changes }) e
    ∙ ap (λ (x : Operand). record { entry = entry_of s; operand = x; changes = changes }) o
    ∙ ap (λ (xs : List Change). record { entry = entry_of s; operand = operand_of s; changes = xs })
    (k ∙ ap (λ (xs : List Seen). changes_since xs t.processor.store) h ∙ ap (λ (u : State). changes_since (map (seen_in s.processor.store) cells) u.processor.store) f)

pub seen_after : (cells : List ℕ) (before after : Memory) (seen again : List Seen) → seen ≡ map (seen_in before) cells →
    again ≡ map (λ x. seen_in after x.cell) seen → again ≡ map (seen_in after) cells
seen_after cells before after seen again h k =
    k ∙ ap (λ (xs : List Seen). map (λ x. seen_in after x.cell) xs) h ∙ again_in before after cells

-- the same, in terms of the changes as printed
pub shown_is : (watched : Watched) (entry : Entry) (used : Operand) (changes shown : List Change) → shown ≡ changes →
    record { entry = entry; operand = used; changes = changes } ≡ watched → record { entry = entry; operand = used; changes = shown } ≡ watched
shown_is watched entry used changes shown e h = ap (λ (xs : List Change). record { entry = entry; operand = used; changes = xs }) e ∙ h
