-- The lines of the tables in print, and what each is of.
use Rattle.std.proofs.Common.{◌≡◌, ℕ, ◌+◌, ◌/◌, ◌%◌, ◌<◌, ◌^◌, zero, suc, Bool, true, false, List, [], ◌∷◌, ◌++◌, length, drop, refl, ap, sym, ◌∙◌, arith, append_assoc, append-nil, codes}
use Rattle.std.specs.Prelude.{◌==◌, ◌&&◌, not, if◌then◌else◌, flat_map, map}
use Rattle.std.specs.Fmt.{decimal}
use Rattle.std.specs.List.{enumerate_from, list_all}
use Rattle.std.specs.Str.{bytes_eq}
use Rattle.std.proofs.lemmas.Bool.{and_from}
use Rattle.std.proofs.lemmas.Bool.Decides.{nat_tests}
use Rattle.std.proofs.lemmas.Fmt.{decimal_by_steps, decimal_injective}
use Rattle.std.proofs.lemmas.List.{map-append}
use Rattle.std.proofs.lemmas.List.Folds.{list_all-append}
use Rattle.std.proofs.lemmas.List.FromFn.{length-map-range_with_len}
use Rattle.std.proofs.lemmas.Slice.Eq.{bytes_eq-Decides}
use Rattle.agc_word.specs.Number.{Number, pattern_of}
use Rattle.agc_word.specs.Octal.{octal_digits, word_digits}
use Rattle.agc_store.specs.Memory.{Memory}
use Rattle.agc_panel.specs.CoreSet.{priority_number}
use Rattle.agc_panel.specs.Tables.{WatchedTables, entries, nth_task, tables_of}
use Rattle.agc_panel.specs.TablesText.{core_set_line, held_text, job_text, lst1_line, numbered, priority_text, tables_text, task_line, time_text}
use Rattle.agc_panel.specs.Watcher.{watch_text}
use Rattle.agc_panel.specs.WatchSpec.{first_cell, lst2_tasks}
use Rattle.agc_panel.specs.declared.core_set.CoreSet.{CoreSet}
use Rattle.agc_panel.specs.declared.core_set.CoreSet.TheVariants.{Free, Asleep, Ready}
use Rattle.agc_panel.specs.declared.core_set.Job.{Job}
use Rattle.agc_panel.specs.declared.tables.Task.{Task}
use Rattle.agc_panel.specs.declared.watch_spec.WatchSpec.{WatchSpec}
use Rattle.agc_timeline.specs.Lines.{lines_in, onto_first}
use Rattle.agc_timeline.specs.Printed.{after_name, entry_name, name_of}
use Rattle.agc_timeline.proofs.Laid.{are_apart, is_apart}

-- a byte that is no line feed, and one that is no space
abbrev plain : ℕ → Bool
plain b = not (b == 10)

abbrev solid : ℕ → Bool
solid b = not (b == 32)

decimal_passes : (test : ℕ → Bool) → ((d : ℕ) → d < 10 → test (48 + d) ≡ true) → (n : ℕ) → n < 2 ^ 64 → list_all test (decimal n) ≡ true
decimal_passes test each =
    decimal_by_steps (λ m ds. list_all test ds ≡ true) (λ m l. and_from _ _ (each m l) refl)
    (λ m ds l h. list_all-append test ds ((48 + m % 10) ∷ []) ∙ and_from _ _ h (and_from _ _ (each (m % 10) (omega arith)) refl))

octal_passes : (test : ℕ → Bool) → ((d : ℕ) → d < 10 → test (48 + d) ≡ true) → (width n : ℕ) → list_all test (octal_digits width n) ≡ true
unfolding octal_digits
octal_passes test each zero n = refl
octal_passes test each (suc width) n =
    list_all-append test (octal_digits width (n / 8)) ((48 + n % 8) ∷ [])
    ∙ and_from _ _ (octal_passes test each width (n / 8)) (and_from _ _ (each (n % 8) (omega arith)) refl)

digit_plain : (d : ℕ) → d < 10 → plain (48 + d) ≡ true
digit_plain d h = grind (arith, nat_tests)

digit_solid : (d : ℕ) → d < 10 → solid (48 + d) ≡ true
digit_solid d h = grind (arith, nat_tests)

both_pass : (test : ℕ → Bool) (front back : List ℕ) → list_all test front ≡ true → list_all test back ≡ true → list_all test (front ++ back) ≡ true
both_pass test front back f b = list_all-append test front back ∙ and_from _ _ f b

both_true : (a b : Bool) → (a && b) ≡ true → (a ≡ true) × (b ≡ true)
both_true true true e = (refl, refl)
both_true true false e = cc
both_true false b e = cc

not_true : (b : Bool) → not b ≡ true → b ≡ false
not_true true e = cc
not_true false e = refl

-- a text whose first line is without a line feed
first_line : (xs more : List ℕ) → list_all plain xs ≡ true → lines_in ((xs ++ codes "\n") ++ more) ≡ xs ∷ lines_in more
unfolding lines_in
first_line [] more h = refl
first_line (b ∷ xs) more h =
    let parts = both_true (plain b) (list_all plain xs) h in
    let rest = lines_in ((xs ++ codes "\n") ++ more) in
    ap (λ (c : Bool). if c then [] ∷ rest else onto_first b rest) (not_true (b == 10) parts.0) ∙ ap (onto_first b) (first_line xs more parts.1)

-- a word without a space
first_word : (xs more : List ℕ) → list_all solid xs ≡ true → name_of (xs ++ 32 ∷ more) ≡ xs
unfolding name_of
first_word [] more h = refl
first_word (b ∷ xs) more h =
    let parts = both_true (solid b) (list_all solid xs) h in
    ap (λ (c : Bool). if c then [] else b ∷ name_of (xs ++ 32 ∷ more)) (not_true (b == 32) parts.0) ∙ ap (λ (ys : List ℕ). b ∷ ys) (first_word xs more parts.1)

-- numbered entries: a line for each, which is this text, and has this name
abbrev pub names_from : (ℕ → List ℕ) → ℕ → ℕ → List (List ℕ)
names_from name k zero = []
names_from name k (suc n) = name k ∷ names_from name (k + 1) n

module _ {A : Type 0} (line body : ℕ → A → List ℕ) (name : ℕ → List ℕ) (is_line : (k : ℕ) (x : A) → line k x ≡ body k x ++ codes "\n")
    (is_plain : (k : ℕ) (x : A) → k < 2 ^ 64 → list_all plain (body k x) ≡ true) (is_named : (k : ℕ) (x : A) → k < 2 ^ 64 → entry_name (body k x) ≡ name k) where
  abbrev bodies : ℕ → List A → List (List ℕ)
  bodies k [] = []
  bodies k (x ∷ xs) = body k x ∷ bodies (k + 1) xs

  bodies_are_lines : (k : ℕ) (xs : List A) (more : List ℕ) → k + length xs < 2 ^ 64 →
      lines_in (flat_map (λ (i, x). line i x) (enumerate_from k xs) ++ more) ≡ bodies k xs ++ lines_in more
  bodies_are_lines k [] more l = refl
  bodies_are_lines k (x ∷ xs) more l =
      let rest : List ℕ = flat_map (λ (i, x). line i x) (enumerate_from (k + 1) xs) in
      ap lines_in (append_assoc (line k x) rest more)
      ∙ ap (λ (text : List ℕ). lines_in (text ++ (rest ++ more))) (is_line k x)
      ∙ first_line (body k x) (rest ++ more) (is_plain k x (omega (arith, l)))
      ∙ ap (λ (lines : List (List ℕ)). body k x ∷ lines) (bodies_are_lines (k + 1) xs more (omega (arith, l)))

  bodies_named : (k : ℕ) (xs : List A) → k + length xs < 2 ^ 64 → map entry_name (bodies k xs) ≡ names_from name k (length xs)
  bodies_named k [] l = refl
  bodies_named k (x ∷ xs) l =
      ap (λ (one : List ℕ). one ∷ map entry_name (bodies (k + 1) xs)) (is_named k x (omega (arith, l)))
      ∙ ap (λ (rest : List (List ℕ)). name k ∷ rest) (bodies_named (k + 1) xs (omega (arith, l)))

-- a core set
abbrev set_body : ℕ → CoreSet → List ℕ
set_body k set = codes "SET " ++ decimal k ++ held_text set

abbrev pub set_name : ℕ → List ℕ
set_name k = codes "SET " ++ decimal k

set_is_line : (k : ℕ) (set : CoreSet) → core_set_line k set ≡ set_body k set ++ codes "\n"
unfolding core_set_line
set_is_line k set = refl

job_plain : (state : List ℕ) (job : Job) → list_all plain state ≡ true → list_all plain (job_text state job) ≡ true
unfolding job_text
job_plain state job h =
    let a = codes " " ++ state in
    let b = a ++ codes " " in
    let c = b ++ priority_text job.priority in
    let d = c ++ codes " LOC " in
    let e = d ++ word_digits job.loc in
    let f = e ++ codes " BANKSET " in
    both_pass plain f (word_digits job.bankset)
    (both_pass plain e (codes " BANKSET ")
    (both_pass plain d (word_digits job.loc)
    (both_pass plain c (codes " LOC ")
    (both_pass plain b (priority_text job.priority) (both_pass plain a (codes " ") (both_pass plain (codes " ") state refl h) refl)
    (octal_passes plain digit_plain 2 (priority_number job.priority))) refl)
    (octal_passes plain digit_plain 5 (pattern_of 15 job.loc))) refl)
    (octal_passes plain digit_plain 5 (pattern_of 15 job.bankset))

held_plain : (set : CoreSet) → list_all plain (held_text set) ≡ true
held_plain Free = refl
held_plain (Asleep job) = job_plain (codes "ASLEEP") job refl
held_plain (Ready job) = job_plain (codes "READY") job refl

held_spaced : (set : CoreSet) → held_text set ≡ 32 ∷ drop 1 (held_text set)
unfolding job_text
held_spaced Free = refl
held_spaced (Asleep job) = refl
held_spaced (Ready job) = refl

set_plain : (k : ℕ) (set : CoreSet) → k < 2 ^ 64 → list_all plain (set_body k set) ≡ true
set_plain k set l =
    both_pass plain (codes "SET " ++ decimal k) (held_text set) (both_pass plain (codes "SET ") (decimal k) refl (decimal_passes plain digit_plain k l)) (held_plain set)

set_named : (k : ℕ) (set : CoreSet) → k < 2 ^ 64 → entry_name (set_body k set) ≡ set_name k
unfolding entry_name name_of after_name
set_named k set l =
    let number : name_of (decimal k ++ held_text set) ≡ decimal k =
    ap (λ (text : List ℕ). name_of (decimal k ++ text)) (held_spaced set) ∙ first_word (decimal k) (drop 1 (held_text set)) (decimal_passes solid digit_solid k l) in
    ap (λ (n : List ℕ). codes "SET " ++ n) number

-- a task
abbrev task_rest : Task → List ℕ
task_rest task = codes " " ++ (word_digits task.address ++ (codes " " ++ word_digits task.bbcon))

abbrev task_body : ℕ → Task → List ℕ
task_body k task = codes "LST2 " ++ decimal k ++ task_rest task

abbrev pub task_name : ℕ → List ℕ
task_name k = codes "LST2 " ++ decimal k

task_is_line : (k : ℕ) (task : Task) → task_line k task ≡ task_body k task ++ codes "\n"
unfolding task_line
task_is_line k task =
    let q = codes "LST2 " ++ decimal k in
    let w = word_digits task.address in
    let v = word_digits task.bbcon in
    ap (λ (text : List ℕ). text ++ codes "\n")
    (append_assoc (q ++ codes " " ++ w) (codes " ") v ∙ append_assoc (q ++ codes " ") w (codes " " ++ v) ∙ append_assoc q (codes " ") (w ++ (codes " " ++ v)))

task_plain : (k : ℕ) (task : Task) → k < 2 ^ 64 → list_all plain (task_body k task) ≡ true
task_plain k task l =
    let w = word_digits task.address in
    let v = word_digits task.bbcon in
    both_pass plain (codes "LST2 " ++ decimal k) (task_rest task) (both_pass plain (codes "LST2 ") (decimal k) refl (decimal_passes plain digit_plain k l))
    (both_pass plain (codes " ") (w ++ (codes " " ++ v)) refl
    (both_pass plain w (codes " " ++ v) (octal_passes plain digit_plain 5 (pattern_of 15 task.address))
    (both_pass plain (codes " ") v refl (octal_passes plain digit_plain 5 (pattern_of 15 task.bbcon)))))

task_named : (k : ℕ) (task : Task) → k < 2 ^ 64 → entry_name (task_body k task) ≡ task_name k
unfolding entry_name name_of after_name
task_named k task l =
    ap (λ (n : List ℕ). codes "LST2 " ++ n)
    (first_word (decimal k) (word_digits task.address ++ (codes " " ++ word_digits task.bbcon)) (decimal_passes solid digit_solid k l))

-- LST1
abbrev lst1_body : List Number → List ℕ
lst1_body words = codes "LST1" ++ flat_map time_text words

lst1_is_line : (words : List Number) → lst1_line words ≡ lst1_body words ++ codes "\n"
unfolding lst1_line
lst1_is_line words = refl

times_plain : (words : List Number) → list_all plain (flat_map time_text words) ≡ true
unfolding time_text
times_plain [] = refl
times_plain (word ∷ words) =
    both_pass plain (codes " " ++ word_digits word) (flat_map time_text words)
    (both_pass plain (codes " ") (word_digits word) refl (octal_passes plain digit_plain 5 (pattern_of 15 word))) (times_plain words)

times_unnamed : (words : List Number) → name_of (flat_map time_text words) ≡ []
unfolding name_of time_text
times_unnamed [] = refl
times_unnamed (word ∷ words) = refl

lst1_plain : (words : List Number) → list_all plain (lst1_body words) ≡ true
lst1_plain words = both_pass plain (codes "LST1") (flat_map time_text words) refl (times_plain words)

lst1_first : (words : List Number) → name_of (lst1_body words) ≡ codes "LST1"
unfolding name_of
lst1_first words = ap (λ (n : List ℕ). codes "LST1" ++ n) (times_unnamed words)

lst1_named : (words : List Number) → entry_name (lst1_body words) ≡ codes "LST1"
unfolding entry_name
lst1_named words =
    ap (λ (n : List ℕ). if bytes_eq n (codes "LST1") then n else n ++ codes " " ++ name_of (after_name (lst1_body words))) (lst1_first words)

-- the names of all
abbrev pub table_names : ℕ → List (List ℕ)
table_names sets = names_from set_name 0 sets ++ (codes "LST1" ∷ names_from task_name 0 lst2_tasks)

abbrev set_bodies : ℕ → List CoreSet → List (List ℕ)
set_bodies = bodies core_set_line set_body set_name set_is_line set_plain set_named

abbrev task_bodies : ℕ → List Task → List (List ℕ)
task_bodies = bodies task_line task_body task_name task_is_line task_plain task_named

lines_of_tables : (t : WatchedTables) → length t.core_sets < 2 ^ 64 → length t.lst2 < 2 ^ 64 →
    lines_in (tables_text t) ≡ set_bodies 0 t.core_sets ++ (lst1_body t.lst1 ∷ task_bodies 0 t.lst2)
unfolding tables_text numbered lines_in
lines_of_tables t l m =
    let sets : List ℕ = flat_map (λ (k, set). core_set_line k set) (enumerate_from 0 t.core_sets) in
    let tasks : List ℕ = flat_map (λ (k, task). task_line k task) (enumerate_from 0 t.lst2) in
    let last : lines_in tasks ≡ task_bodies 0 t.lst2 =
    ap lines_in (sym (append-nil tasks)) ∙ bodies_are_lines task_line task_body task_name task_is_line task_plain task_named 0 t.lst2 [] (omega (arith, m)) ∙ append-nil (task_bodies 0 t.lst2) in
    ap lines_in (append_assoc sets (lst1_line t.lst1) tasks)
    ∙ bodies_are_lines core_set_line set_body set_name set_is_line set_plain set_named 0 t.core_sets (lst1_line t.lst1 ++ tasks) (omega (arith, l))
    ∙ ap (λ (rest : List (List ℕ)). set_bodies 0 t.core_sets ++ rest)
    (ap (λ (text : List ℕ). lines_in (text ++ tasks)) (lst1_is_line t.lst1) ∙ first_line (lst1_body t.lst1) tasks (lst1_plain t.lst1)
    ∙ ap (λ (lines : List (List ℕ)). lst1_body t.lst1 ∷ lines) last)

names_of_tables : (t : WatchedTables) → length t.core_sets < 2 ^ 64 → length t.lst2 < 2 ^ 64 →
    map entry_name (lines_in (tables_text t)) ≡ names_from set_name 0 (length t.core_sets) ++ (codes "LST1" ∷ names_from task_name 0 (length t.lst2))
names_of_tables t l m =
    ap (map entry_name) (lines_of_tables t l m)
    ∙ map-append entry_name (set_bodies 0 t.core_sets) (lst1_body t.lst1 ∷ task_bodies 0 t.lst2)
    ∙ ap (λ (names : List (List ℕ)). names ++ map entry_name (lst1_body t.lst1 ∷ task_bodies 0 t.lst2))
    (bodies_named core_set_line set_body set_name set_is_line set_plain set_named 0 t.core_sets (omega (arith, l)))
    ∙ ap (λ (names : List (List ℕ)). names_from set_name 0 (length t.core_sets) ++ names)
    (ap (λ (one : List ℕ). one ∷ map entry_name (task_bodies 0 t.lst2)) (lst1_named t.lst1)
    ∙ ap (λ (names : List (List ℕ)). codes "LST1" ∷ names) (bodies_named task_line task_body task_name task_is_line task_plain task_named 0 t.lst2 (omega (arith, m))))

count_sets : (m : Memory) (spec : WatchSpec) → length (tables_of m spec).core_sets ≡ spec.sets
unfolding tables_of entries
count_sets m spec = length-map-range_with_len _ 0 spec.sets

count_tasks : (m : Memory) (spec : WatchSpec) → length (tables_of m spec).lst2 ≡ lst2_tasks
unfolding tables_of entries
count_tasks m spec = length-map-range_with_len (nth_task m (first_cell spec.lst2_bank spec.lst2_offset)) 0 lst2_tasks

-- the lines of the tables of a memory have these names
pub have_names : (m : Memory) (spec : WatchSpec) → spec.sets < 2 ^ 64 → map entry_name (lines_in (watch_text m spec)) ≡ table_names spec.sets
unfolding watch_text
have_names m spec l =
    names_of_tables (tables_of m spec) (omega (arith, l, count_sets m spec)) (omega (arith, count_tasks m spec))
    ∙ ap (λ (n : ℕ). names_from set_name 0 n ++ (codes "LST1" ∷ names_from task_name 0 (length (tables_of m spec).lst2))) (count_sets m spec)
    ∙ ap (λ (n : ℕ). names_from set_name 0 spec.sets ++ (codes "LST1" ∷ names_from task_name 0 n)) (count_tasks m spec)

-- no name occurs twice
not_same : (b : Bool) (xs ys : List ℕ) → bytes_eq xs ys ≡ b → (xs ≡ ys → ⊥) → not b ≡ true
not_same true xs ys e f = absurd (f ((bytes_eq-Decides xs ys).0 e))
not_same false xs ys e f = refl

elsewhere : (one : List ℕ) (name : ℕ → List ℕ) → ((k : ℕ) → bytes_eq (name k) one ≡ false) → (k n : ℕ) → is_apart one (names_from name k n) ≡ true
elsewhere one name other k zero = refl
elsewhere one name other k (suc n) = and_from _ _ (ap not (other k)) (elsewhere one name other (k + 1) n)

in_both : (one : List ℕ) (xs ys : List (List ℕ)) → is_apart one xs ≡ true → is_apart one ys ≡ true → is_apart one (xs ++ ys) ≡ true
in_both one [] ys f g = g
in_both one (x ∷ xs) ys f g =
    let parts = both_true (not (bytes_eq x one)) (is_apart one xs) f in
    and_from _ _ parts.0 (in_both one xs ys parts.1 g)

module _ (name : ℕ → List ℕ) (number : (i j : ℕ) → i < 2 ^ 64 → j < 2 ^ 64 → name i ≡ name j → i ≡ j) where
  later : (one k n : ℕ) → one < k → k + n < 2 ^ 64 → is_apart (name one) (names_from name k n) ≡ true
  later one k zero l m = refl
  later one k (suc n) l m =
      and_from _ _
      (not_same (bytes_eq (name k) (name one)) (name k) (name one) refl (λ e. omega (arith, l, number k one (omega (arith, m)) (omega (arith, l, m)) e)))
      (later one (k + 1) n (omega (arith, l)) (omega (arith, m)))

  apart : (k n : ℕ) → k + n < 2 ^ 64 → are_apart (names_from name k n) ≡ true
  apart k zero l = refl
  apart k (suc n) l = and_from _ _ (later k (k + 1) n (omega arith) (omega (arith, l))) (apart (k + 1) n (omega (arith, l)))

  apart_before : (others : List (List ℕ)) → ((k : ℕ) → is_apart (name k) others ≡ true) → are_apart others ≡ true → (k n : ℕ) → k + n < 2 ^ 64 →
      are_apart (names_from name k n ++ others) ≡ true
  apart_before others each h k zero l = h
  apart_before others each h k (suc n) l =
      and_from _ _ (in_both (name k) (names_from name (k + 1) n) others (later k (k + 1) n (omega arith) (omega (arith, l))) (each k)) (apart_before others each h (k + 1) n (omega (arith, l)))

set_number : (i j : ℕ) → i < 2 ^ 64 → j < 2 ^ 64 → set_name i ≡ set_name j → i ≡ j
set_number i j l m e = decimal_injective i j l m (ap (drop 4) e)

task_number : (i j : ℕ) → i < 2 ^ 64 → j < 2 ^ 64 → task_name i ≡ task_name j → i ≡ j
task_number i j l m e = decimal_injective i j l m (ap (drop 5) e)

pub names_are_apart : (sets : ℕ) → sets < 2 ^ 64 → are_apart (table_names sets) ≡ true
names_are_apart sets l =
    apart_before set_name set_number (codes "LST1" ∷ names_from task_name 0 lst2_tasks)
    (λ k. and_from _ _ refl (elsewhere (set_name k) task_name (λ j. refl) 0 lst2_tasks))
    (and_from _ _ (elsewhere (codes "LST1") task_name (λ j. refl) 0 lst2_tasks) (apart task_name task_number 0 lst2_tasks (omega arith)))
    0 sets (omega (arith, l))
