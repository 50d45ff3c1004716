-- The lines of an input, read byte by byte.
use Rattle.std.specs.Prelude.{◌≡◌, ◌≢◌, ℕ, ◌+◌, ◌-◌, ◌<◌, ◌≤◌, ◌==◌, nat_lt, Bool, true, false, List, [], ◌∷◌, ◌++◌, length, min, take, slice_index, map, Option, None, Some, Ok, Err, All, if◌then◌else◌}
use Rattle.std.specs.Io.KnownBytes.{Consumes, IsAtEnd, Keeps}
use Rattle.std.specs.List.{slice_split}
use Rattle.std.specs.Str.Lines.{strip_carriage_return}
use Rattle.std.proofs.Common.{refl, ap, sym, subst, ◌∙◌, arith, get_or, inl, inr, append-nil}
use Rattle.std.proofs.KnownBytes.{Consumes-nil, Consumes-trans}
use Rattle.std.proofs.lemmas.Bool.Decides.{leb_tells, nat_tests}
use Rattle.std.proofs.lemmas.List.Elements.{All-nil, All-push}
use Rattle.std.proofs.lemmas.List.Splits.{length-slice_split, slice_split_at, slice_split_none}
use Rattle.std.proofs.lemmas.List.{length-take, length-take-le, length_push, take-append-le, take_all}
use Rattle.agc_command.specs.Command.{request_of}
use Rattle.agc_command.specs.declared.command.Command.TheVariants as command
use Rattle.agc_command.specs.declared.fault.CommandFault.TheVariants as fault
use Rattle.agc_script.specs.Line.{longest_line}
use Rattle.agc_word.specs.Text.{is_line_feed, lines_of, without_empty_end}
use Rattle.agc_repl.specs.Answered.{Request}
use Rattle.agc_repl.specs.Input.{IsNextLine, ReadsByte, ReadsLine, ReadsRequest, all_requests}
use Rattle.agc_repl.specs.Transcript.{is_quit, requests_in, up_to_quit}
use Rattle.agc_symbols.specs.Symbols.{Symbol}

-- a line before others, and a last line
before_others : (part : List ℕ) (parts : List (List ℕ)) → 0 < length parts → without_empty_end (part ∷ parts) ≡ part ∷ without_empty_end parts
unfolding without_empty_end
before_others part [] h = absurd (omega arith)
before_others part (next ∷ parts) h = refl

abbrev HasNoFeed : List ℕ → Type 0
HasNoFeed part = All (λ b. is_line_feed b ≡ false) part

first_line : (part rest : List ℕ) → HasNoFeed part → lines_of (part ++ 0x0A ∷ rest) ≡ strip_carriage_return part ∷ lines_of rest
unfolding lines_of
first_line part rest h =
    let some : 0 < length (slice_split is_line_feed rest) = omega (arith, length-slice_split is_line_feed rest) in
    rw (slice_split_at is_line_feed part 0x0A rest h refl, before_others part (slice_split is_line_feed rest) some) refl

last_line : (part : List ℕ) → HasNoFeed part → 0 < length part → lines_of part ≡ strip_carriage_return part ∷ []
unfolding lines_of without_empty_end
last_line [] h some = absurd (omega arith)
last_line (b ∷ bs) h some = rw (slice_split_none is_line_feed (b ∷ bs) h) refl

no_line : lines_of [] ≡ []
unfolding lines_of without_empty_end
no_line = refl

-- a line is known to be too long as soon as enough of it is read
too_long : (names : Option (List Symbol)) (line : List ℕ) → 120 < length line → request_of names line ≡ Err fault.LineTooLong
unfolding request_of
too_long names line h = let long : nat_lt longest_line (length line) ≡ true = grind (arith, nat_tests) in rw long refl

strip_by : (b : Bool) (l : List ℕ) → length l ≤ length (if b then take (length l - 1) l else l) + 1
strip_by true l = omega (arith, length-take-le (length l - 1) l (omega arith))
strip_by false l = omega arith

strip_length : (l : List ℕ) → length l ≤ length (strip_carriage_return l) + 1
strip_length l = strip_by (slice_index l (length l - 1) == 13) l

cut_request : (names : Option (List Symbol)) (part : List ℕ) → request_of names (strip_carriage_return (take 122 part)) ≡ request_of names (strip_carriage_return part)
cut_request names part =
    elim (leb_tells (length part) 122) as (λ _. request_of names (strip_carriage_return (take 122 part)) ≡ request_of names (strip_carriage_return part)) [
      | inl w ↦ let whole : take 122 part ≡ part = take_all 122 part (omega (arith, w.1)) in rw whole refl
      | inr w ↦ let retained : length (take 122 part) ≡ 122 = length-take-le 122 part (omega (arith, w.1)) in
          too_long names _ (omega (arith, retained, strip_length (take 122 part))) ∙ sym (too_long names _ (omega (arith, w.1, strip_length part)))
    ]

-- what is kept of the bytes of a line that were read
abbrev pub SoFar : Option (List ℕ) → Option (List ℕ) → List ℕ → Type 0
SoFar start now retained = (part : List ℕ) × Consumes start now part × HasNoFeed part × (retained ≡ take 122 part)

pub nothing_so_far : (known : Option (List ℕ)) → SoFar known known []
nothing_so_far known = ([], Consumes-nil known, All-nil (λ b. is_line_feed b ≡ false), refl)

pub one_more_byte : (start mid now : Option (List ℕ)) (retained more : List ℕ) (byte : ℕ) → SoFar start mid retained → Consumes mid now (byte ∷ []) → byte ≢ 10
    → ((part : List ℕ) → retained ≡ take 122 part → more ≡ take 122 (part ++ byte ∷ [])) → SoFar start now more
one_more_byte start mid now retained more byte h read other keeps =
    let no_feed : is_line_feed byte ≡ false = grind (arith, nat_tests) in
    (h.0 ++ byte ∷ [], Consumes-trans start mid now h.0 (byte ∷ []) h.1 read, All-push (λ b. is_line_feed b ≡ false) h.0 byte h.2 no_feed, keeps h.0 h.3)

abbrev Cut : Option (List Symbol) → List ℕ → List ℕ → List ℕ → Type 0
Cut names input part rest = all_requests names input ≡ request_of names (strip_carriage_return (take 122 part)) ∷ all_requests names rest

cut_by : (names : Option (List Symbol)) (input part rest : List ℕ) → lines_of input ≡ strip_carriage_return part ∷ lines_of rest → Cut names input part rest
cut_by names input part rest e =
    ap (map (request_of names)) e ∙ ap (λ (r : Request). r ∷ all_requests names rest) (sym (cut_request names part))

next_by : (names : Option (List Symbol)) (input rest part retained line : List ℕ) (now : Option (List ℕ)) → now ≡ Some rest → retained ≡ take 122 part → line ≡ strip_carriage_return retained
    → lines_of input ≡ strip_carriage_return part ∷ lines_of rest → IsNextLine names input now (Some line)
next_by names input rest part retained line now n k l e =
    let same : line ≡ strip_carriage_return (take 122 part) = l ∙ ap strip_carriage_return k in
    (rest, n, cut_by names input part rest e ∙ ap (λ (x : List ℕ). request_of names x ∷ all_requests names rest) (sym same))

-- a line feed ends a line
pub fed_line : (names : Option (List Symbol)) (start mid now : Option (List ℕ)) (retained line : List ℕ) → SoFar start mid retained → Consumes mid now (10 ∷ []) → line ≡ strip_carriage_return retained
    → ReadsLine names start now (Some line)
fed_line names None mid now retained line h read e = tt
fed_line names (Some input) None now retained line h read e = absurd h.1
fed_line names (Some input) (Some more) None retained line h read e = absurd read
fed_line names (Some input) (Some more) (Some rest) retained line h read e =
    let whole : input ≡ h.0 ++ 10 ∷ rest = h.1 ∙ ap (λ (x : List ℕ). h.0 ++ x) read in
    next_by names input rest h.0 retained line (Some rest) refl h.3 e (ap lines_of whole ∙ first_line h.0 rest h.2)

-- so does the end of the input, if there is something before it
some_kept : (part retained : List ℕ) → retained ≡ take 122 part → (retained ≡ [] → ⊥) → 0 < length part
some_kept [] retained e h = absurd (h e)
some_kept (b ∷ bs) retained e h = omega arith

pub ended_line : (names : Option (List Symbol)) (start mid now : Option (List ℕ)) (retained line : List ℕ) → SoFar start mid retained → ReadsByte mid now None → (retained ≡ [] → ⊥)
    → line ≡ strip_carriage_return retained → ReadsLine names start now (Some line)
ended_line names None mid now retained line h read some e = tt
ended_line names (Some input) None now retained line h read some e = absurd h.1
ended_line names (Some input) (Some more) None retained line h read some e = absurd read.0
ended_line names (Some input) (Some more) (Some rest) retained line h read some e =
    let none : more ≡ [] = read.0 ∙ read.1 in
    let whole : input ≡ h.0 = h.1 ∙ ap (λ (x : List ℕ). h.0 ++ x) none ∙ append-nil h.0 in
    next_by names input [] h.0 retained line (Some rest) (ap Some read.1) h.3 e
    (ap lines_of whole ∙ last_line h.0 h.2 (some_kept h.0 retained h.3 some) ∙ ap (λ (x : List (List ℕ)). strip_carriage_return h.0 ∷ x) (sym no_line))

none_kept : (part retained : List ℕ) → retained ≡ take 122 part → retained ≡ [] → part ≡ []
none_kept [] retained e h = refl
none_kept (b ∷ bs) retained e h = let same : take 122 (b ∷ bs) ≡ [] = sym e ∙ h in cc

pub no_more_lines : (names : Option (List Symbol)) (start mid now : Option (List ℕ)) (retained : List ℕ) → SoFar start mid retained → ReadsByte mid now None → retained ≡ [] → ReadsLine names start now None
no_more_lines names None mid now retained h read e = tt
no_more_lines names (Some input) None now retained h read e = absurd h.1
no_more_lines names (Some input) (Some more) None retained h read e = absurd read.0
no_more_lines names (Some input) (Some more) (Some rest) retained h read e =
    let none : more ≡ [] = read.0 ∙ read.1 in
    let whole : input ≡ [] = h.1 ∙ ap (λ (x : List ℕ). h.0 ++ x) none ∙ append-nil h.0 ∙ none_kept h.0 retained h.3 e in
    ap (all_requests names) whole ∙ ap (map (request_of names)) no_line

-- the request of a line
pub no_request : (names : Option (List Symbol)) (old new : Option (List ℕ)) → ReadsLine names old new None → ReadsRequest names old new None
unfolding requests_in up_to_quit
no_request names None new h = tt
no_request names (Some input) new h = ap up_to_quit h

pub quit_request : (names : Option (List Symbol)) (old new : Option (List ℕ)) (line : List ℕ) → ReadsLine names old new (Some line) → request_of names line ≡ Ok (Some command.Quit) → ReadsRequest names old new None
unfolding requests_in up_to_quit
quit_request names None new line h e = tt
quit_request names (Some input) new line h e = ap up_to_quit (h.2 ∙ ap (λ (r : Request). r ∷ all_requests names h.0) e)

pub quits : (r : Request) → is_quit r ≡ true → r ≡ Ok (Some command.Quit)
quits (Ok (Some command.Quit)) h = refl
quits r h = cc

goes_on : (request : Request) (requests : List Request) → is_quit request ≡ false → up_to_quit (request ∷ requests) ≡ request ∷ up_to_quit requests
unfolding up_to_quit
goes_on request requests e = rw e refl

pub other_request : (names : Option (List Symbol)) (old new : Option (List ℕ)) (line : List ℕ) (request : Request) → ReadsLine names old new (Some line) → request ≡ request_of names line
    → is_quit request ≡ false → ReadsRequest names old new (Some request)
unfolding requests_in
other_request names None new line request h e other = tt
other_request names (Some input) new line request h e other = (
  h.0,
  h.1,
  ap up_to_quit (h.2 ∙ ap (λ (r : Request). r ∷ all_requests names h.0) (sym e)) ∙ goes_on request (all_requests names h.0) other,
)

-- one byte at a time
kept_then : (start mid new : Option (List ℕ)) (bytes : List ℕ) → Keeps start mid → Consumes mid new bytes → Consumes start new bytes
kept_then None mid new bytes k h = tt
kept_then (Some xs) None new bytes k h = absurd k
kept_then (Some xs) (Some ys) None bytes k h = absurd h
kept_then (Some xs) (Some ys) (Some zs) bytes k h = sym k ∙ h

pub no_byte : (start mid new : Option (List ℕ)) (count : ℕ) (buffer : List ℕ) → Keeps start mid
    → Consumes mid new (take count buffer) × (count ≡ 0 → 0 < length buffer → IsAtEnd new) → count ≡ 0 → 0 < length buffer → ReadsByte start new None
no_byte start mid new count buffer k h e some =
    (kept_then start mid new [] k (subst (λ (n : ℕ). Consumes mid new (take n buffer)) e h.0), h.1 e some)

byte_of : (byte : ℕ) (buffer : List ℕ) → length buffer ≡ 1 → get_or buffer 0 0 ≡ byte → buffer ≡ byte ∷ []
byte_of byte [] l e = absurd (omega (arith, l))
byte_of byte (b ∷ []) l e = ap (λ (x : ℕ). x ∷ []) e
byte_of byte (b ∷ c ∷ rest) l e = absurd (omega (arith, l))

pub one_byte : (start mid new : Option (List ℕ)) (count byte : ℕ) (buffer : List ℕ) → Keeps start mid → Consumes mid new (take count buffer)
    → count ≡ 1 → length buffer ≡ 1 → get_or buffer 0 0 ≡ byte → ReadsByte start new (Some byte)
one_byte start mid new count byte buffer k h e l b =
    let whole : take count buffer ≡ buffer = take_all count buffer (omega (arith, e, l)) in
    kept_then start mid new (byte ∷ []) k (subst (Consumes mid new) (whole ∙ byte_of byte buffer l b) h)

-- enough bytes to show that a line is too long
pub kept_more : (part retained : List ℕ) (byte : ℕ) → length retained < 122 → retained ≡ take 122 part → retained ++ byte ∷ [] ≡ take 122 (part ++ byte ∷ [])
kept_more part retained byte h e =
    let l : length retained ≡ min 122 (length part) = ap length e ∙ length-take 122 part in
    let short : length part < 122 = omega (arith, l, h) in
    let whole : take 122 part ≡ part = take_all 122 part (omega (arith, short)) in
    let more : take 122 (part ++ byte ∷ []) ≡ part ++ byte ∷ [] = take_all 122 (part ++ byte ∷ []) (omega (arith, short, length_push part byte)) in
    ap (λ (x : List ℕ). x ++ byte ∷ []) (e ∙ whole) ∙ sym more

pub kept_full : (part retained : List ℕ) (byte : ℕ) → 122 ≤ length retained → retained ≡ take 122 part → retained ≡ take 122 (part ++ byte ∷ [])
kept_full part retained byte h e =
    let l : length retained ≡ min 122 (length part) = ap length e ∙ length-take 122 part in
    e ∙ sym (take-append-le 122 part (byte ∷ []) (omega (arith, l, h)))

pub read_as : (a b : Option (List ℕ)) (o p : Option ℕ) → o ≡ p → ReadsByte a b o → ReadsByte a b p
read_as a b o p e h = subst (ReadsByte a b) e h

pub empty_items : (xs : List ℕ) → length xs ≡ 0 → xs ≡ []
empty_items [] e = refl
empty_items (x ∷ xs) e = absurd (omega (arith, e))

pub some_items : (xs : List ℕ) → 0 < length xs → xs ≡ [] → ⊥
some_items xs h e = absurd (omega (arith, h, ap length e))
