-- Lemmas for the laws of the panel.
use Rattle.std.proofs.Common.{◌≡◌, ◌≢◌, ◌⊎◌, ◌∙◌, ◌==◌, ap, Bool, true, false, ℕ, inl, inr, List, [], ◌∷◌, map, Option, None, refl, sym}
use Rattle.std.proofs.lemmas.Bool.{and_parts, cases_Bool, eqb-true, false_from_ne_true}
use Rattle.std.proofs.lemmas.List.Elements.{recursion_from_All}
use Rattle.std.specs.List.{AllByRecursion, filter_map}
use Rattle.agc_word.specs.declared.channel_write.ChannelWrite.{ChannelWrite}
use Rattle.agc_word.specs.Channels.{dsalmout, out0}
use Rattle.agc_panel.specs.Face.{blank_face, blank_pair, blank_register, face_after, pair_after, panel_of}
use Rattle.agc_panel.specs.Field.{field_after}
use Rattle.agc_panel.specs.Lamp.{bit_given, dark_lamps, is_from, is_lit, lamps_after, lit_after, printed_order, wiring}
use Rattle.agc_panel.specs.Laws.{AreUnnamed, OfRow, OfDsalmout, fields_named, fields_of_source, fields_with}
use Rattle.agc_panel.specs.RelayWord.{bits, left_of_row, names_row, right_of_row, sign_of_row}
use Rattle.agc_panel.specs.declared.digit.Digit.{Digit}
use Rattle.agc_panel.specs.declared.face.Face.{Face}
use Rattle.agc_panel.specs.declared.lamp.Lamp.{Lamp}
use Rattle.agc_panel.specs.declared.lamp.Lamp.TheVariants.{CompActy, UplinkActy, NoAtt, Temp, GimbalLock, Prog, KeyRel, OprErr, Tracker, Alt, Vel, Iss}
use Rattle.agc_panel.specs.declared.lamp.Lamps.{Lamps}
use Rattle.agc_panel.specs.declared.lamp.Source.{Source}
use Rattle.agc_panel.specs.declared.lamp.Source.TheVariants.{Dsalmout, LampRow}

-- a write that gives a row something names its fields
row_named : (row : ℕ) (write : ChannelWrite) → names_row row write ≡ true → fields_named write ≡ OfRow row
row_named row write h =
    let parts = and_parts (write.channel == out0) (bits 15 12 write.value == row) h in
    rw parts.0 (ap OfRow (eqb-true (bits 15 12 write.value) row parts.1))

-- a write that gives DSALMOUT something names its fields
dsalmout_named : (write : ChannelWrite) → is_from Dsalmout write ≡ true → fields_named write ≡ OfDsalmout
dsalmout_named write h = rw (eqb-true write.channel dsalmout h) refl

source_named : (source : Source) (write : ChannelWrite) → is_from source write ≡ true → fields_named write ≡ fields_of_source source
source_named LampRow write h = row_named 12 write h
source_named Dsalmout write h = dsalmout_named write h

-- a write that names other fields gives nothing
row_silent : (row : ℕ) (write : ChannelWrite) → fields_named write ≢ OfRow row → names_row row write ≡ false
row_silent row write other = false_from_ne_true (names_row row write) (λ h. other (row_named row write h))

source_silent : (source : Source) (write : ChannelWrite) → fields_named write ≢ fields_of_source source → is_from source write ≡ false
source_silent source write other = false_from_ne_true (is_from source write) (λ h. other (source_named source write h))

-- of two writes that name different fields one gives a row nothing
one_row_silent : (row : ℕ) (a b : ChannelWrite) → fields_named a ≢ fields_named b → (names_row row a ≡ false) ⊎ (names_row row b ≡ false)
one_row_silent row a b other = from (cases_Bool (names_row row a))
  where
    from : (names_row row a ≡ true) ⊎ (names_row row a ≡ false) → (names_row row a ≡ false) ⊎ (names_row row b ≡ false)
    from (inl h) = inr (row_silent row b (λ same. other (row_named row a h ∙ sym same)))
    from (inr h) = inl h

one_source_silent : (source : Source) (a b : ChannelWrite) → fields_named a ≢ fields_named b → (is_from source a ≡ false) ⊎ (is_from source b ≡ false)
one_source_silent source a b other = from (cases_Bool (is_from source a))
  where
    from : (is_from source a ≡ true) ⊎ (is_from source a ≡ false) → (is_from source a ≡ false) ⊎ (is_from source b ≡ false)
    from (inl h) = inr (source_silent source b (λ same. other (source_named source a h ∙ sym same)))
    from (inr h) = inl h

-- a field that one of two writes gives nothing is the same in either order
swapped : {A : Type 0} (before : A) (given : ChannelWrite → Option A) (a b : ChannelWrite) → (given a ≡ None) ⊎ (given b ≡ None)
    → field_after before given (a ∷ b ∷ []) ≡ field_after before given (b ∷ a ∷ [])
unfolding field_after
swapped before given a b (inl e) = rw e refl
swapped before given a b (inr e) = rw e refl

sign_swapped : (before : Bool) (row : ℕ) (a b : ChannelWrite) → (names_row row a ≡ false) ⊎ (names_row row b ≡ false)
    → field_after before (sign_of_row row) (a ∷ b ∷ []) ≡ field_after before (sign_of_row row) (b ∷ a ∷ [])
unfolding sign_of_row
sign_swapped before row a b (inl e) = swapped before (sign_of_row row) a b (inl (rw e refl))
sign_swapped before row a b (inr e) = swapped before (sign_of_row row) a b (inr (rw e refl))

left_swapped : (before : Digit) (row : ℕ) (a b : ChannelWrite) → (names_row row a ≡ false) ⊎ (names_row row b ≡ false)
    → field_after before (left_of_row row) (a ∷ b ∷ []) ≡ field_after before (left_of_row row) (b ∷ a ∷ [])
unfolding left_of_row
left_swapped before row a b (inl e) = swapped before (left_of_row row) a b (inl (rw e refl))
left_swapped before row a b (inr e) = swapped before (left_of_row row) a b (inr (rw e refl))

right_swapped : (before : Digit) (row : ℕ) (a b : ChannelWrite) → (names_row row a ≡ false) ⊎ (names_row row b ≡ false)
    → field_after before (right_of_row row) (a ∷ b ∷ []) ≡ field_after before (right_of_row row) (b ∷ a ∷ [])
unfolding right_of_row
right_swapped before row a b (inl e) = swapped before (right_of_row row) a b (inl (rw e refl))
right_swapped before row a b (inr e) = swapped before (right_of_row row) a b (inr (rw e refl))

bit_swapped : (before : Bool) (source : Source) (bit : ℕ) (a b : ChannelWrite) → (is_from source a ≡ false) ⊎ (is_from source b ≡ false)
    → field_after before (bit_given source bit) (a ∷ b ∷ []) ≡ field_after before (bit_given source bit) (b ∷ a ∷ [])
unfolding bit_given
bit_swapped before source bit a b (inl e) = swapped before (bit_given source bit) a b (inl (rw e refl))
bit_swapped before source bit a b (inr e) = swapped before (bit_given source bit) a b (inr (rw e refl))

lamp_swapped : (before : Lamps) (a b : ChannelWrite) (lamp : Lamp) → (is_from (wiring lamp).source a ≡ false) ⊎ (is_from (wiring lamp).source b ≡ false)
    → lit_after before (a ∷ b ∷ []) lamp ≡ lit_after before (b ∷ a ∷ []) lamp
lamp_swapped before a b lamp h = bit_swapped (is_lit before lamp) (wiring lamp).source (wiring lamp).bit a b h

-- a list made by functions that agree
pub map_agree : {A B : Type 0} (f g : A → B) → ((x : A) → f x ≡ g x) → (xs : List A) → map f xs ≡ map g xs
map_agree f g same [] = refl
map_agree f g same (x ∷ xs) = rw (same x, map_agree f g same xs) refl

lamps_swapped : (before : Lamps) (a b : ChannelWrite) → fields_named a ≢ fields_named b → lamps_after before (a ∷ b ∷ []) ≡ lamps_after before (b ∷ a ∷ [])
lamps_swapped before a b other =
    ap (λ (lit : List Bool). record { lit = lit })
    (map_agree (lit_after before (a ∷ b ∷ [])) (lit_after before (b ∷ a ∷ []))
    (λ lamp. lamp_swapped before a b lamp (one_source_silent (wiring lamp).source a b other)) printed_order)

pub changed_places : (face : Face) (a b : ChannelWrite) → fields_named a ≢ fields_named b → face_after face (a ∷ b ∷ []) ≡ face_after face (b ∷ a ∷ [])
unfolding face_after pair_after
changed_places face a b other =
    let signs : (before : Bool) (row : ℕ) → field_after before (sign_of_row row) (a ∷ b ∷ []) ≡ field_after before (sign_of_row row) (b ∷ a ∷ []) =
    λ before row. sign_swapped before row a b (one_row_silent row a b other) in
    let lefts : (before : Digit) (row : ℕ) → field_after before (left_of_row row) (a ∷ b ∷ []) ≡ field_after before (left_of_row row) (b ∷ a ∷ []) =
    λ before row. left_swapped before row a b (one_row_silent row a b other) in
    let rights : (before : Digit) (row : ℕ) → field_after before (right_of_row row) (a ∷ b ∷ []) ≡ field_after before (right_of_row row) (b ∷ a ∷ []) =
    λ before row. right_swapped before row a b (one_row_silent row a b other) in
    let flash = bit_swapped face.flash Dsalmout 6 a b (one_source_silent Dsalmout a b other) in
    let lamps = lamps_swapped face.lamps a b other in
    simp (signs, lefts, rights, flash, lamps)

-- a field that each write gives nothing stays
unnamed : {A : Type 0} (before : A) (given : ChannelWrite → Option A) (writes : List ChannelWrite) → AllByRecursion (λ write. given write ≡ None) writes
    → filter_map given writes ≡ []
unnamed before given [] h = refl
unnamed before given (write ∷ writes) h = rw (h.0, unnamed before given writes h.1) refl

-- if no write names a row, it gives each nothing
silent_row : {A : Type 0} (row : ℕ) (given : ChannelWrite → Option A) (writes : List ChannelWrite) → ((write : ChannelWrite) → names_row row write ≡ false → given write ≡ None)
    → AllByRecursion (λ write. fields_named write ≢ OfRow row) writes → AllByRecursion (λ write. given write ≡ None) writes
silent_row row given [] none h = tt
silent_row row given (write ∷ writes) none h = (none write (row_silent row write h.0), silent_row row given writes none h.1)

silent_source : (source : Source) (bit : ℕ) (writes : List ChannelWrite)
    → AllByRecursion (λ write. fields_named write ≢ fields_of_source source) writes → AllByRecursion (λ write. bit_given source bit write ≡ None) writes
unfolding bit_given
silent_source source bit [] h = tt
silent_source source bit (write ∷ writes) h = (rw (source_silent source write h.0) refl, silent_source source bit writes h.1)

-- a field that no write names stays
kept : {A : Type 0} (before : A) (given : ChannelWrite → Option A) (writes : List ChannelWrite) → AllByRecursion (λ write. given write ≡ None) writes
    → field_after before given writes ≡ before
unfolding field_after
kept before given writes h = rw (unnamed before given writes h) refl

signs_kept : (before : Bool) (row : ℕ) (writes : List ChannelWrite) → AreUnnamed (OfRow row) writes → field_after before (sign_of_row row) writes ≡ before
unfolding sign_of_row
signs_kept before row writes h = kept before (sign_of_row row) writes (silent_row row (sign_of_row row) writes (λ write e. rw e refl) (recursion_from_All (λ write. fields_named write ≢ OfRow row) writes h))

lefts_kept : (before : Digit) (row : ℕ) (writes : List ChannelWrite) → AreUnnamed (OfRow row) writes → field_after before (left_of_row row) writes ≡ before
unfolding left_of_row
lefts_kept before row writes h = kept before (left_of_row row) writes (silent_row row (left_of_row row) writes (λ write e. rw e refl) (recursion_from_All (λ write. fields_named write ≢ OfRow row) writes h))

rights_kept : (before : Digit) (row : ℕ) (writes : List ChannelWrite) → AreUnnamed (OfRow row) writes → field_after before (right_of_row row) writes ≡ before
unfolding right_of_row
rights_kept before row writes h = kept before (right_of_row row) writes (silent_row row (right_of_row row) writes (λ write e. rw e refl) (recursion_from_All (λ write. fields_named write ≢ OfRow row) writes h))

bits_kept : (before : Bool) (source : Source) (bit : ℕ) (writes : List ChannelWrite) → AreUnnamed (fields_of_source source) writes → field_after before (bit_given source bit) writes ≡ before
bits_kept before source bit writes h = kept before (bit_given source bit) writes (silent_source source bit writes (recursion_from_All (λ write. fields_named write ≢ fields_of_source source) writes h))

-- the fields of blank panels
pub program_blank : (writes : List ChannelWrite) → AreUnnamed (OfRow 11) writes → (panel_of writes).program ≡ blank_pair
unfolding face_after pair_after blank_face
program_blank writes h = rw (lefts_kept _ 11 writes h, rights_kept _ 11 writes h) refl

pub verb_blank : (writes : List ChannelWrite) → AreUnnamed (OfRow 10) writes → (panel_of writes).verb ≡ blank_pair
unfolding face_after pair_after blank_face
verb_blank writes h = rw (lefts_kept _ 10 writes h, rights_kept _ 10 writes h) refl

pub noun_blank : (writes : List ChannelWrite) → AreUnnamed (OfRow 9) writes → (panel_of writes).noun ≡ blank_pair
unfolding face_after pair_after blank_face
noun_blank writes h = rw (lefts_kept _ 9 writes h, rights_kept _ 9 writes h) refl

pub r1_blank : (writes : List ChannelWrite) → AreUnnamed (OfRow 8) writes → AreUnnamed (OfRow 7) writes → AreUnnamed (OfRow 6) writes → (panel_of writes).r1 ≡ blank_register
unfolding face_after blank_face
r1_blank writes a b c =
    rw (signs_kept _ 7 writes b, signs_kept _ 6 writes c, rights_kept _ 8 writes a, lefts_kept _ 7 writes b, rights_kept _ 7 writes b, lefts_kept _ 6 writes c, rights_kept _ 6 writes c) refl

pub r2_blank : (writes : List ChannelWrite) → AreUnnamed (OfRow 5) writes → AreUnnamed (OfRow 4) writes → AreUnnamed (OfRow 3) writes → (panel_of writes).r2 ≡ blank_register
unfolding face_after blank_face
r2_blank writes a b c =
    rw (signs_kept _ 5 writes a, signs_kept _ 4 writes b, lefts_kept _ 5 writes a, rights_kept _ 5 writes a, lefts_kept _ 4 writes b, rights_kept _ 4 writes b, lefts_kept _ 3 writes c) refl

pub r3_blank : (writes : List ChannelWrite) → AreUnnamed (OfRow 3) writes → AreUnnamed (OfRow 2) writes → AreUnnamed (OfRow 1) writes → (panel_of writes).r3 ≡ blank_register
unfolding face_after blank_face
r3_blank writes a b c =
    rw (signs_kept _ 2 writes b, signs_kept _ 1 writes c, rights_kept _ 3 writes a, lefts_kept _ 2 writes b, rights_kept _ 2 writes b, lefts_kept _ 1 writes c, rights_kept _ 1 writes c) refl

pub flash_off : (writes : List ChannelWrite) → AreUnnamed OfDsalmout writes → (panel_of writes).flash ≡ false
unfolding face_after blank_face
flash_off writes h = bits_kept false Dsalmout 6 writes h

-- what is kept of a lamp is what it was made of
lit_at : (f : Lamp → Bool) (lamp : Lamp) → is_lit (record { lit = map f printed_order }) lamp ≡ f lamp
lit_at f CompActy = refl
lit_at f UplinkActy = refl
lit_at f NoAtt = refl
lit_at f Temp = refl
lit_at f GimbalLock = refl
lit_at f Prog = refl
lit_at f KeyRel = refl
lit_at f OprErr = refl
lit_at f Tracker = refl
lit_at f Alt = refl
lit_at f Vel = refl
lit_at f Iss = refl

pub lamp_dark : (lamp : Lamp) (writes : List ChannelWrite) → AreUnnamed (fields_with lamp) writes → is_lit (panel_of writes).lamps lamp ≡ false
unfolding face_after blank_face
lamp_dark lamp writes h =
    lit_at (lit_after dark_lamps writes) lamp
    ∙ bits_kept (is_lit dark_lamps lamp) (wiring lamp).source (wiring lamp).bit writes h
    ∙ lit_at (λ _. false) lamp

pub ruleset blank_fields = (program_blank, verb_blank, noun_blank, flash_off, lamp_dark)
