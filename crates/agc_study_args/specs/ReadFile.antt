-- Files as they are read: what is left of one, and why it cannot be read.
use Rattle.std.specs.Prelude.{ℕ, List, Option, None, Some, Result, Ok, Err}
use Rattle.agc_study_args.specs.declared.read_file.ReadFile.{ReadFile}

-- what is left of an opened file; nothing is known of one that could not be opened
abbrev pub opened_left : {F E : Type 0} → (F → Option (List ℕ)) → Result F E → Option (List ℕ)
opened_left remaining (Ok file) = remaining file
opened_left remaining (Err why) = None

abbrev pub left_of : {F : Type 0} → (F → Option (List ℕ)) → ReadFile F → Option (List ℕ)
left_of remaining file = opened_left remaining file.opened

-- the first of two faults: the one that was there, if any, or the new one
abbrev pub first_fault : {E : Type 0} → Option E → E → Option E
first_fault (Some first) new = Some first
first_fault None new = Some new
