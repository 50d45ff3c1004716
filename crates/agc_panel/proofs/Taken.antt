-- Writes taken one after another give what the whole list gives.
use Rattle.std.proofs.Common.{◌≡◌, List, [], ◌∷◌, ◌++◌, Option, None, Some, unwrap_or, refl, sym, ◌∙◌}
use Rattle.std.specs.List.{last_or, filter_map}
use Rattle.std.proofs.lemmas.List.Elements.{filter_map-append}
use Rattle.agc_word.specs.declared.channel_write.ChannelWrite.{ChannelWrite}
use Rattle.agc_panel.specs.declared.face.Face.{Face}
use Rattle.agc_panel.specs.Face.{face_after, pair_after}
use Rattle.agc_panel.specs.Field.{field_after}

-- the last item of two lists is looked for in the second first
last_or-append : {A : Type 0} (o : Option A) (xs ys : List A) → last_or o (xs ++ ys) ≡ last_or (last_or o xs) ys
last_or-append o [] ys = refl
last_or-append o (x ∷ xs) ys = last_or-append (Some x) xs ys

-- a value for an empty list can be given at either end
last_or-start : {A : Type 0} (o : Option A) (xs : List A) (start : A) → unwrap_or (last_or o xs) start ≡ unwrap_or (last_or None xs) (unwrap_or o start)
last_or-start o [] start = refl
last_or-start o (x ∷ xs) start = last_or-start (Some x) xs start ∙ sym (last_or-start (Some x) xs (unwrap_or o start))

-- a field after two lists of writes
pub field_after-append : {A : Type 0} (before : A) (given : ChannelWrite → Option A) (xs ys : List ChannelWrite) → field_after (field_after before given xs) given ys ≡ field_after before given (xs ++ ys)
unfolding field_after
field_after-append before given xs ys =
    sym (rw (filter_map-append given xs ys, last_or-append None (filter_map given xs) (filter_map given ys)) (last_or-start (last_or None (filter_map given xs)) (filter_map given ys) before))

-- the fields after two lists of writes
pub face_after-append : (before : Face) (xs ys : List ChannelWrite) → face_after (face_after before xs) ys ≡ face_after before (xs ++ ys)
unfolding face_after pair_after
face_after-append before xs ys = simp field_after-append

pub ruleset takes_all = (face_after-append)
