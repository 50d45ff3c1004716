-- The place in a line of the tables is that of the job's or the task's words.
use Rattle.std.proofs.Common.{◌≡◌, ℕ, ◌+◌, ◌-◌, ◌<◌, List, [], ◌∷◌, ◌++◌, length, drop, take, Option, Some, None, refl, ap, sym, ◌∙◌, append_assoc, append-nil, length-append, codes, decimal, flat_map, arith}
use Rattle.agc_word.specs.Number.{Number, pattern_of}
use Rattle.agc_word.specs.Numeral.{number_of, octal_number}
use Rattle.agc_word.specs.Octal.{octal_digits, word_digits}
use Rattle.agc_listing.specs.Line.{octal_exactly}
use Rattle.agc_listing.proofs.Octals.{length_octal, octal_back}
use Rattle.agc_panel.specs.declared.core_set.Job.{Job}
use Rattle.agc_panel.specs.declared.tables.Task.{Task}
use Rattle.agc_panel.specs.TablesText.{job_text, priority_text, time_text}
use Rattle.agc_timeline.specs.LinePlace.{line_place, place_in, place_with, word_before}

past_front : (front back : List ℕ) → drop (length front) (front ++ back) ≡ back
past_front [] back = refl
past_front (b ∷ front) back = past_front front back

front_of : (front back : List ℕ) → take (length front) (front ++ back) ≡ front
front_of [] back = refl
front_of (b ∷ front) back = ap (λ (l : List ℕ). b ∷ l) (front_of front back)

start_of : (after : ℕ) (front digits back : List ℕ) → length digits ≡ 5 → length back ≡ after →
    length (front ++ digits ++ back) - (after + 5) ≡ length front
start_of after front digits back five long =
    omega (arith, length-append (front ++ digits) back, length-append front digits, five, long)

-- five characters of a line, this many before its end
read_there : (after : ℕ) (front digits back line : List ℕ) → line ≡ front ++ digits ++ back → length digits ≡ 5 → length back ≡ after →
    word_before after line ≡ octal_number 5 digits
unfolding word_before
read_there after front digits back line e five long =
    ap (λ (l : List ℕ). octal_number 5 (take 5 (drop (length l - (after + 5)) l))) e
    ∙ ap (λ (n : ℕ). octal_number 5 (take 5 (drop n (front ++ digits ++ back)))) (start_of after front digits back five long)
    ∙ ap (λ (l : List ℕ). octal_number 5 (take 5 (drop (length front) l))) (append_assoc front digits back)
    ∙ ap (λ (l : List ℕ). octal_number 5 (take 5 l)) (past_front front (digits ++ back))
    ∙ ap (λ (n : ℕ). octal_number 5 (take n (digits ++ back))) (sym five)
    ∙ ap (octal_number 5) (front_of digits back)

exact_is : (n : ℕ) (text : List ℕ) (read : Option ℕ) → length text ≡ 5 → octal_exactly 5 text ≡ read → octal_number 5 text ≡ read
unfolding octal_exactly
exact_is n text read five e = rw five at e

octal_read : (n : ℕ) → n < 0o100000 → octal_number 5 (octal_digits 5 n) ≡ Some n
octal_read n l = exact_is n (octal_digits 5 n) (Some n) (length_octal 5 n) (octal_back 5 n (omega arith) l)

-- a word in five digits
number_there : (after : ℕ) (front back line : List ℕ) (n : ℕ) → line ≡ front ++ octal_digits 5 n ++ back → length back ≡ after → n < 0o100000 →
    word_before after line ≡ Some n
number_there after front back line n e long l = read_there after front (octal_digits 5 n) back line e (length_octal 5 n) long ∙ octal_read n l

both : (line : List ℕ) (after banks address : ℕ) → word_before 0 line ≡ Some banks → word_before after line ≡ Some address →
    place_with (word_before 0 line) (word_before after line) ≡ place_in banks address
both line after banks address e f =
    ap (λ (o : Option ℕ). place_with o (word_before after line)) e ∙ ap (λ (o : Option ℕ). place_with (Some banks) o) f

-- a text at the end, and one before it
last_text : (start front digits : List ℕ) → start ++ (front ++ digits) ≡ (start ++ front) ++ digits ++ []
last_text start front digits = sym (append_assoc start front digits) ∙ sym (append-nil ((start ++ front) ++ digits))

text_before : (start front digits between last : List ℕ) → start ++ (front ++ digits ++ between ++ last) ≡ (start ++ front) ++ digits ++ (between ++ last)
text_before start front digits between last =
    ap (λ (l : List ℕ). start ++ l) (append_assoc (front ++ digits) between last)
    ∙ sym (append_assoc start (front ++ digits) (between ++ last))
    ∙ ap (λ (l : List ℕ). l ++ (between ++ last)) (sym (append_assoc start front digits))

-- a line of a job
job_line : (start front : List ℕ) (banks address : ℕ) → banks < 0o100000 → address < 0o100000 →
    let line = start ++ (front ++ octal_digits 5 address ++ codes " BANKSET " ++ octal_digits 5 banks) in
    place_with (word_before 0 line) (word_before 14 line) ≡ place_in banks address
job_line start front banks address l k =
    let line = start ++ (front ++ octal_digits 5 address ++ codes " BANKSET " ++ octal_digits 5 banks) in
    both line 14 banks address
    (number_there 0 (start ++ (front ++ octal_digits 5 address ++ codes " BANKSET ")) [] line banks
    (last_text start (front ++ octal_digits 5 address ++ codes " BANKSET ") (octal_digits 5 banks)) refl l)
    (number_there 14 (start ++ front) (codes " BANKSET " ++ octal_digits 5 banks) line address
    (text_before start front (octal_digits 5 address) (codes " BANKSET ") (octal_digits 5 banks))
    (omega (arith, length-append (codes " BANKSET ") (octal_digits 5 banks), length_octal 5 banks)) k)

pub job_has_place : (k : ℕ) (state : List ℕ) (job : Job) → pattern_of 15 job.bankset < 0o100000 → pattern_of 15 job.loc < 0o100000 →
    line_place (codes "SET " ++ decimal k ++ job_text state job) ≡ place_in (pattern_of 15 job.bankset) (pattern_of 15 job.loc)
unfolding line_place job_text
job_has_place k state job l m =
    job_line (codes "SET " ++ decimal k) (codes " " ++ state ++ codes " " ++ priority_text job.priority ++ codes " LOC ")
    (pattern_of 15 job.bankset) (pattern_of 15 job.loc) l m

-- a line of a task
task_line_of : (front : List ℕ) (banks address : ℕ) → banks < 0o100000 → address < 0o100000 →
    let line = front ++ octal_digits 5 address ++ codes " " ++ octal_digits 5 banks in
    place_with (word_before 0 line) (word_before 6 line) ≡ place_in banks address
task_line_of front banks address l k =
    let line = front ++ octal_digits 5 address ++ codes " " ++ octal_digits 5 banks in
    both line 6 banks address
    (number_there 0 (front ++ octal_digits 5 address ++ codes " ") [] line banks (sym (append-nil line)) refl l)
    (number_there 6 front (codes " " ++ octal_digits 5 banks) line address
    (append_assoc (front ++ octal_digits 5 address) (codes " ") (octal_digits 5 banks))
    (omega (arith, length-append (codes " ") (octal_digits 5 banks), length_octal 5 banks)) k)

pub task_has_place : (k : ℕ) (task : Task) → pattern_of 15 task.bbcon < 0o100000 → pattern_of 15 task.address < 0o100000 →
    line_place (codes "LST2 " ++ decimal k ++ codes " " ++ word_digits task.address ++ codes " " ++ word_digits task.bbcon)
    ≡ place_in (pattern_of 15 task.bbcon) (pattern_of 15 task.address)
unfolding line_place
task_has_place k task l m =
    task_line_of (codes "LST2 " ++ decimal k ++ codes " ") (pattern_of 15 task.bbcon) (pattern_of 15 task.address) l m

no_place : (o : Option ℕ) (address : Option ℕ) → o ≡ None → place_with o address ≡ None
no_place (Some banks) address e = cc
no_place None address e = refl

no_digits : octal_number 5 (codes " FREE") ≡ None
unfolding number_of
no_digits = refl

-- other lines have none
pub free_has_none : (k : ℕ) → line_place (codes "SET " ++ decimal k ++ codes " FREE") ≡ None
unfolding line_place
free_has_none k =
    let line = codes "SET " ++ decimal k ++ codes " FREE" in
    no_place (word_before 0 line) (word_before 14 line)
    (read_there 0 (codes "SET " ++ decimal k) (codes " FREE") [] line (sym (append-nil line)) refl refl ∙ no_digits)

pub times_have_none : (words : List Number) → line_place (codes "LST1" ++ flat_map time_text words) ≡ None
unfolding line_place
times_have_none words = refl
