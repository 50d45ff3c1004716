-- The names of a source are written with their locations, and the symbol file reads back as these names.
use Rattle.std.specs.Prelude.{◌≡◌, ℕ, Bool, true, false, not, List, [], ◌∷◌, ◌++◌, Option, Some, None, Result, Ok, Err, IfSome, if◌then◌else◌}
use Rattle.std.specs.List.{list_any}
use Rattle.std.proofs.Common.{refl, ap, sym, ◌∙◌, subst}
use Rattle.std.proofs.lemmas.Grind.{flat_map-append}
use Rattle.agc_listing.specs.Line.{is_no_text, line_named}
use Rattle.agc_listing.specs.declared.fault.LineFault.{LineFault}
use Rattle.agc_listing.specs.declared.fault.LineFault.TheVariants as line_fault
use Rattle.agc_listing.specs.declared.line.PlacedWord.{PlacedWord as Word}
use Rattle.agc_word.specs.Text.{lines_of}
use Rattle.agc_symbols.specs.Symbols.{Symbol, names_in}
use Rattle.agc_symbols.specs.Writing.{AreSayable, line_for, names_text}
use Rattle.agc_symbols.proofs.NamesRead.{names_read}
use Rattle.agc_encode.specs.LocationCounter.{due_there, first_counter}
use Rattle.agc_asm.specs.NameLines.{label_named, labels_from, labels_in, name_lines_in}
use Rattle.agc_encode.specs.LineKind.{counter_after, kind_of}
use Rattle.agc_asm.specs.Source.{first_names, labelled, define_label, listed_labelled, naming_after, place_of_name, shape_labelled, labelled_as, with_due}
use Rattle.agc_encode.specs.declared.location_counter.LocationCounter.{LocationCounter}
use Rattle.agc_asm.specs.declared.pass1.Labelled.{Labelled}
use Rattle.agc_encode.specs.declared.line_kind.LineKind.{LineKind}
use Rattle.agc_listing.specs.Location.{IsWithin}
use Rattle.agc_vocabulary.specs.Body.{line_label, body_in, spelled, plain_line, is_include}
use Rattle.agc_encode.specs.Interpretive.{due_behind, role_of, spoken_words}
use Rattle.agc_encode.specs.declared.line_kind.LineKind.TheVariants as kind
use Rattle.agc_encode.specs.declared.role.Role.{Role}
use Rattle.agc_encode.specs.declared.role.Role.TheVariants as role
use Rattle.agc_interpretive.specs.declared.pending.Pending.{Pending}
use Rattle.agc_vocabulary.specs.Name.{Naming}
use Rattle.agc_listing.specs.Text.{are_listed, is_name, parsed_by}
use Rattle.agc_vocabulary.specs.declared.source_fault.SourceFault.{SourceFault}
use Rattle.agc_vocabulary.specs.declared.source_fault.SourceFault.TheVariants as fault
use Rattle.agc_listing.specs.declared.location.Location.{Location}
use Rattle.agc_vocabulary.proofs.LabelWords.{label_is_word}

-- The name of a line that has a location is a name, and the line is text.

abbrev placed : Result Labelled SourceFault → Option Location
placed (Ok next) = next.place
placed (Err why) = None

no_place : (r : Result Labelled SourceFault) (next : Labelled) (place : Location) → placed r ≡ None → r ≡ Ok next → next.place ≡ Some place → ⊥
no_place r next place none e p = let is : None ≡ Some place = sym none ∙ ap placed e ∙ p in cc

none_listed : (counter : LocationCounter) (parsed : Result (Option Word) LineFault) → placed (listed_labelled counter parsed) ≡ None
none_listed counter (Ok parsed) = refl
none_listed counter (Err why) = refl

none_faulty : (after : Result LocationCounter SourceFault) (why : SourceFault) → placed (labelled after (Err why)) ≡ None
none_faulty (Ok next) why = refl
none_faulty (Err first) why = refl

name_by : (named : Bool) (naming : Naming) (counter : LocationCounter) (s : LineKind) (name : List ℕ) (next : Labelled) (place : Location)
    → labelled (counter_after counter s) (if not named then Err fault.BadName else place_of_name naming counter s name) ≡ Ok next
    → next.place ≡ Some place → named ≡ true
name_by true naming counter s name next place e p = refl
name_by false naming counter s name next place e p = absurd (no_place (labelled (counter_after counter s) (Err fault.BadName)) next place (none_faulty (counter_after counter s) fault.BadName) e p)

kind_by : (naming : Naming) (counter : LocationCounter) (label : Option (List ℕ)) (name : List ℕ) (s : Result LineKind SourceFault) (next : Labelled) (place : Location)
    → shape_labelled naming counter label s ≡ Ok next → label ≡ Some name → next.place ≡ Some place → is_name name ≡ true
kind_by naming counter label name (Err why) next place e l p = absurd (no_place (Err why) next place refl e p)
kind_by naming counter None name (Ok s) next place e l p = absurd cc
kind_by naming counter (Some given) name (Ok s) next place e l p =
    let same : given ≡ name = cc in
    subst (λ (word : List ℕ). is_name word ≡ true) same (name_by (is_name given) naming counter s given next place e p)

line_by : (listed other include : Bool) (naming : Naming) (counter : LocationCounter) (parsed : Result (Option Word) LineFault) (label : Option (List ℕ)) (name : List ℕ) (s : Result LineKind SourceFault) (next : Labelled) (place : Location)
    → (if listed then listed_labelled counter parsed else (if other then Err (fault.Listed line_fault.NotText) else (if include then Err fault.Include else shape_labelled naming counter label s))) ≡ Ok next
    → label ≡ Some name → next.place ≡ Some place → (other ≡ false) × (is_name name ≡ true)
line_by true other include naming counter parsed label name s next place e l p = absurd (no_place (listed_labelled counter parsed) next place (none_listed counter parsed) e p)
line_by false true include naming counter parsed label name s next place e l p = absurd (no_place (Err (fault.Listed line_fault.NotText)) next place refl e p)
line_by false false true naming counter parsed label name s next place e l p = absurd (no_place (Err fault.Include) next place refl e p)
line_by false false false naming counter parsed label name s next place e l p = (refl, kind_by naming counter label name s next place e l p)

due_by : (naming : Naming) (counter : LocationCounter) (label : Option (List ℕ)) (name : List ℕ) (due : Pending) (r : Result Labelled SourceFault) (next : Labelled) (place : Location)
    → shape_labelled naming counter label (Ok kind.Word) ≡ r → with_due due r ≡ Ok next → label ≡ Some name → next.place ≡ Some place → is_name name ≡ true
due_by naming counter label name due (Err why) next place same e l p = absurd (no_place (Err why) next place refl e p)
due_by naming counter label name due (Ok first) next place same e l p =
    let whole : record { counter = due_there due first.counter; place = first.place } ≡ next = cc in
    let at : first.place ≡ Some place = ap (λ (n : Labelled). n.place) whole ∙ p in
    kind_by naming counter label name (Ok kind.Word) first place same l at

spoken_by : (other : Bool) (naming : Naming) (counter : LocationCounter) (label : Option (List ℕ)) (name : List ℕ) (due : Pending) (next : Labelled) (place : Location)
    → (if other then Err (fault.Listed line_fault.NotText) else with_due due (shape_labelled naming counter label (Ok kind.Word))) ≡ Ok next → label ≡ Some name → next.place ≡ Some place
    → (other ≡ false) × (is_name name ≡ true)
spoken_by true naming counter label name due next place e l p = absurd (no_place (Err (fault.Listed line_fault.NotText)) next place refl e p)
spoken_by false naming counter label name due next place e l p =
    (refl, due_by naming counter label name due (shape_labelled naming counter label (Ok kind.Word)) next place refl e l p)

role_by : (naming : Naming) (counter : LocationCounter) (line name : List ℕ) (r : Role) (next : Labelled) (place : Location) → labelled_as naming counter line r ≡ Ok next → line_label line ≡ Some name
    → next.place ≡ Some place → (list_any is_no_text line ≡ false) × (is_name name ≡ true)
role_by naming counter line name role.Basic next place e l p =
    line_by (are_listed (parsed_by line)) (list_any is_no_text line) (is_include line) naming counter (line_named line) (line_label line) name (kind_of naming (spelled (body_in line))) next place e l p
role_by naming counter line name role.Operand next place e l p =
    spoken_by (list_any is_no_text line) naming counter (line_label line) name (due_behind counter.due role.Operand (spoken_words line)) next place e l p
role_by naming counter line name (role.Operation o) next place e l p =
    spoken_by (list_any is_no_text line) naming counter (line_label line) name (due_behind counter.due (role.Operation o) (spoken_words line)) next place e l p

name_is : (naming : Naming) (counter : LocationCounter) (line name : List ℕ) (next : Labelled) (place : Location) → define_label naming counter line ≡ Ok next → line_label line ≡ Some name
    → next.place ≡ Some place → (list_any is_no_text line ≡ false) × (is_name name ≡ true)
unfolding define_label
name_is naming counter line name next place e l p = role_by naming counter line name (role_of counter.due line) next place e l p

-- So a symbol file can hold it.

sayable_by : (naming : Naming) (counter : LocationCounter) (line : List ℕ) (next : Labelled) (label : Option (List ℕ)) (place : Option Location) → define_label naming counter line ≡ Ok next
    → IfSome next.place IsWithin → line_label line ≡ label → next.place ≡ place → AreSayable (label_named label place)
sayable_by naming counter line next None None e within l p = tt
sayable_by naming counter line next None (Some place) e within l p = tt
sayable_by naming counter line next (Some name) None e within l p = tt
sayable_by naming counter line next (Some name) (Some place) e within l p =
    let is = name_is naming counter line name next place e l p in
    let word = label_is_word line name is.0 l is.1 in
    (record { place = subst (λ (at : Option Location). IfSome at IsWithin) p within; name = word.0; word = word.1 }, tt)

both_sayable : (first second : List Symbol) → AreSayable first → AreSayable second → AreSayable (first ++ second)
both_sayable [] second h k = k
both_sayable (named ∷ first) second h k = (h.0, both_sayable first second h.1 k)

both_reported : (first second : List Symbol) → names_text (first ++ second) ≡ names_text first ++ names_text second
unfolding names_text
both_reported first second = flat_map-append line_for first second

-- What is written so far: the names of the lines before these.
pub record IsOutcome (text : List ℕ) (naming : Naming) (counter : LocationCounter) (lines : List (List ℕ)) (reported : List ℕ) : Type 0 where
  pub named : List Symbol
  pub same : labels_from naming counter named lines ≡ labels_in text
  pub written : reported ≡ names_text named
  pub sayable : AreSayable named

pub first_reported : (text : List ℕ) (naming : Naming) (counter : LocationCounter) (reported : List ℕ) → naming ≡ first_names (lines_of text) → counter ≡ first_counter → reported ≡ []
    → IsOutcome text naming counter (lines_of text) reported
unfolding labels_in names_text
first_reported text naming counter reported n c none = record { named = []; same = rw (n, c) refl; written = none; sayable = tt }

pub next_reported : (text : List ℕ) (naming after : Naming) (counter : LocationCounter) (all : List (List ℕ)) (line : List ℕ) (lines : List (List ℕ)) (reported more : List ℕ) (next : Labelled)
    → IsOutcome text naming counter all reported → all ≡ line ∷ lines → Ok next ≡ define_label naming counter (plain_line line) → IfSome next.place IsWithin
    → more ≡ reported ++ names_text (label_named (line_label (plain_line line)) next.place) → after ≡ naming_after naming (line_label (plain_line line)) next.place
    → IsOutcome text after next.counter lines more
unfolding labels_from
next_reported text naming after counter all line lines reported more next h first e within is noted =
    let here = label_named (line_label (plain_line line)) next.place in
    record {
      named = h.named ++ here;
      same = rw noted (rw (first, ← e, labels_from) at h.same);
      written = is ∙ ap (λ (t : List ℕ). t ++ names_text here) h.written ∙ sym (both_reported h.named here);
      sayable = both_sayable h.named here h.sayable (sayable_by naming counter (plain_line line) next (line_label (plain_line line)) next.place (sym e) within refl refl);
    }

-- what is written at the end, and what is read from it
abbrev pub IsWhole : List ℕ → List ℕ → Type 0
IsWhole text reported = (reported ≡ name_lines_in text) × (names_in reported ≡ Ok (labels_in text))

whole : (text reported : List ℕ) (named : List Symbol) → named ≡ labels_in text → reported ≡ names_text named → AreSayable named → IsWhole text reported
unfolding name_lines_in
whole text reported named same written sayable =
    (written ∙ ap names_text same, ap names_in written ∙ names_read named sayable ∙ ap (λ (all : List Symbol). Ok all) same)

pub all_reported : (text : List ℕ) (naming : Naming) (counter : LocationCounter) (all : List (List ℕ)) (reported : List ℕ) → IsOutcome text naming counter all reported → all ≡ [] → IsWhole text reported
unfolding labels_from
all_reported text naming counter all reported h none = whole text reported h.named (rw (none, labels_from) at h.same) h.written h.sayable

pub faulty_reported : (text : List ℕ) (naming : Naming) (counter : LocationCounter) (all : List (List ℕ)) (line : List ℕ) (lines : List (List ℕ)) (reported : List ℕ) (why : SourceFault)
    → IsOutcome text naming counter all reported → all ≡ line ∷ lines → Err why ≡ define_label naming counter (plain_line line) → IsWhole text reported
unfolding labels_from
faulty_reported text naming counter all line lines reported why h first e = whole text reported h.named (rw (first, ← e, labels_from) at h.same) h.written h.sayable
