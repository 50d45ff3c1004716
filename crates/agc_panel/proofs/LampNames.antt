-- Which lamps are on can be read back from the line of their names.
use Rattle.std.proofs.Common.{◌≡◌, ◌∙◌, ◌==◌, ap, append_assoc, arith, ℕ, Bool, true, false, cond, List, [], ◌∷◌, ◌++◌, codes, drop, get_or, Option, Some, None, refl, sym, if◌then◌else◌}
use Rattle.std.specs.List.{AllByRecursion, filter, flat_map}
use Rattle.std.proofs.lemmas.Bool.{both_ways}
use Rattle.std.proofs.lemmas.List.{append_cancel_left}
use Rattle.std.proofs.lemmas.List.Elements.{All-same, filter_passes, recursion_from_All}
use Rattle.agc_panel.specs.Lamp.{is_lit, printed_order, words_on}
use Rattle.agc_panel.specs.Text.{lit_lamps, names_of_lamps}
use Rattle.agc_panel.specs.declared.lamp.Lamp.{Lamp}
use Rattle.agc_panel.specs.declared.lamp.Lamp.TheVariants.{CompActy, UplinkActy, NoAtt, Temp, GimbalLock, Prog, KeyRel, OprErr, Tracker, Alt, Vel, Iss}
use Rattle.agc_panel.specs.declared.lamp.Lamps.{Lamps}

-- the lamp whose name begins with these two characters
lamp_read : ℕ → ℕ → Option Lamp
lamp_read first second =
    if first == 67 then Some CompActy else (if first == 85 then Some UplinkActy else (if first == 78 then Some NoAtt
    else (if first == 84 then (if second == 69 then Some Temp else Some Tracker) else (if first == 71 then Some GimbalLock
    else (if first == 80 then Some Prog else (if first == 75 then Some KeyRel else (if first == 79 then Some OprErr
    else (if first == 65 then Some Alt else (if first == 86 then Some Vel else (if first == 73 then Some Iss else None))))))))))

first_lamp : List ℕ → Option Lamp
first_lamp text = lamp_read (get_or text 0 0) (get_or text 1 0)

lamp_back : (lamp : Lamp) (rest : List ℕ) → first_lamp (words_on lamp ++ rest) ≡ Some lamp
unfolding first_lamp lamp_read
lamp_back CompActy rest = refl
lamp_back UplinkActy rest = refl
lamp_back NoAtt rest = refl
lamp_back Temp rest = refl
lamp_back GimbalLock rest = refl
lamp_back Prog rest = refl
lamp_back KeyRel rest = refl
lamp_back OprErr rest = refl
lamp_back Tracker rest = refl
lamp_back Alt rest = refl
lamp_back Vel rest = refl
lamp_back Iss rest = refl

-- equal texts that begin with names begin with the same name, and go on alike
same_lamp : (a b : Lamp) (s t : List ℕ) → words_on a ++ s ≡ words_on b ++ t → a ≡ b
same_lamp a b s t h =
    let read : Some a ≡ Some b = sym (lamp_back a s) ∙ ap first_lamp h ∙ lamp_back b t in
    cc

same_rest : (a b : Lamp) (s t : List ℕ) → a ≡ b → words_on a ++ s ≡ words_on b ++ t → s ≡ t
same_rest a b s t e h = append_cancel_left (words_on b) s t (ap (λ (lamp : Lamp). words_on lamp ++ s) (sym e) ∙ h)

-- the text after a name
after : List Lamp → List ℕ
after lamps = flat_map (λ lamp. codes ", " ++ words_on lamp) lamps ++ codes "\n"

after_more : (lamp : Lamp) (lamps : List Lamp) → after (lamp ∷ lamps) ≡ 44 ∷ 32 ∷ (words_on lamp ++ after lamps)
unfolding after
after_more lamp lamps = ap (λ (text : List ℕ). 44 ∷ 32 ∷ text) (append_assoc (words_on lamp) (flat_map (λ lamp. codes ", " ++ words_on lamp) lamps) (codes "\n"))

same_after : (xs ys : List Lamp) → after xs ≡ after ys → xs ≡ ys
unfolding after
same_after [] [] h = refl
same_after [] (y ∷ ys) h = absurd (let e : 10 ≡ 44 = ap (λ (text : List ℕ). get_or text 0 0) h in omega arith)
same_after (x ∷ xs) [] h = absurd (let e : 44 ≡ 10 = ap (λ (text : List ℕ). get_or text 0 0) h in omega arith)
same_after (x ∷ xs) (y ∷ ys) h =
    let texts : words_on x ++ after xs ≡ words_on y ++ after ys = ap (drop 2) (sym (after_more x xs) ∙ h ∙ after_more y ys) in
    let first = same_lamp x y (after xs) (after ys) texts in
    let rest = same_after xs ys (same_rest x y (after xs) (after ys) first texts) in
    rw (first, rest) refl

-- the names and the line's end
names : List Lamp → List ℕ
names lamps = names_of_lamps lamps ++ codes "\n"

names_more : (lamp : Lamp) (lamps : List Lamp) → names (lamp ∷ lamps) ≡ words_on lamp ++ after lamps
unfolding names after
names_more lamp lamps = append_assoc (words_on lamp) (flat_map (λ lamp. codes ", " ++ words_on lamp) lamps) (codes "\n")

-- `none` is no lamp's name
none_named : (lamp : Lamp) (lamps : List Lamp) → names [] ≡ names (lamp ∷ lamps) → ⊥
unfolding names first_lamp lamp_read
none_named lamp lamps h =
    let read : None ≡ Some lamp = ap first_lamp (h ∙ names_more lamp lamps) ∙ lamp_back lamp (after lamps) in
    cc

same_names : (xs ys : List Lamp) → names xs ≡ names ys → xs ≡ ys
same_names [] [] h = refl
same_names [] (y ∷ ys) h = absurd (none_named y ys h)
same_names (x ∷ xs) [] h = absurd (none_named x xs (sym h))
same_names (x ∷ xs) (y ∷ ys) h =
    let texts = sym (names_more x xs) ∙ h ∙ names_more y ys in
    let first = same_lamp x y (after xs) (after ys) texts in
    let rest = same_after xs ys (same_rest x y (after xs) (after ys) first texts) in
    rw (first, rest) refl

-- what passes one test and stays in the list passes the other
passes_too : (p q : Lamp → Bool) (xs : List Lamp) → AllByRecursion (λ x. q x ≡ true) (filter p xs) → AllByRecursion (λ x. p x ≡ true → q x ≡ true) xs
passes_too p q [] h = tt
passes_too p q (x ∷ xs) h = from (p x) refl h (λ rest. passes_too p q xs rest)
  where
    from : (b : Bool) → p x ≡ b → AllByRecursion (λ x. q x ≡ true) (cond b (x ∷ filter p xs) (filter p xs))
        → (AllByRecursion (λ x. q x ≡ true) (filter p xs) → AllByRecursion (λ x. p x ≡ true → q x ≡ true) xs)
        → (p x ≡ true → q x ≡ true) × AllByRecursion (λ x. p x ≡ true → q x ≡ true) xs
    from true e h more = (λ _. h.0, more h.1)
    from false e h more = (λ on. absurd (both_ways (p x) e on), more h)

each_lamp : (P : Lamp → Type 0) → AllByRecursion P printed_order → (lamp : Lamp) → P lamp
each_lamp P h CompActy = h.0
each_lamp P h UplinkActy = h.1.0
each_lamp P h NoAtt = h.1.1.0
each_lamp P h Temp = h.1.1.1.0
each_lamp P h GimbalLock = h.1.1.1.1.0
each_lamp P h Prog = h.1.1.1.1.1.0
each_lamp P h KeyRel = h.1.1.1.1.1.1.0
each_lamp P h OprErr = h.1.1.1.1.1.1.1.0
each_lamp P h Tracker = h.1.1.1.1.1.1.1.1.0
each_lamp P h Alt = h.1.1.1.1.1.1.1.1.1.0
each_lamp P h Vel = h.1.1.1.1.1.1.1.1.1.1.0
each_lamp P h Iss = h.1.1.1.1.1.1.1.1.1.1.1.0

lit_too : (a b : Lamps) → lit_lamps a ≡ lit_lamps b → (lamp : Lamp) → is_lit a lamp ≡ true → is_lit b lamp ≡ true
lit_too a b h =
    let all = recursion_from_All (λ x. is_lit b x ≡ true) (lit_lamps a) (All-same (λ x. is_lit b x ≡ true) (lit_lamps a) (lit_lamps b) h (filter_passes (is_lit b) printed_order)) in
    each_lamp (λ x. is_lit a x ≡ true → is_lit b x ≡ true) (passes_too (is_lit a) (is_lit b) printed_order all)

pub same_Bool : (a b : Bool) → (a ≡ true → b ≡ true) → (b ≡ true → a ≡ true) → a ≡ b
same_Bool true b there back = sym (there refl)
same_Bool false true there back = back refl
same_Bool false false there back = refl

-- equal lines of lamps come from the same lamps
pub same_lamps : (a b : Lamps) → names_of_lamps (lit_lamps a) ++ codes "\n" ≡ names_of_lamps (lit_lamps b) ++ codes "\n" → (lamp : Lamp) → is_lit a lamp ≡ is_lit b lamp
unfolding names
same_lamps a b h lamp =
    let lit = same_names (lit_lamps a) (lit_lamps b) h in
    same_Bool (is_lit a lamp) (is_lit b lamp) (lit_too a b lit lamp) (lit_too b a (sym lit) lamp)
