-- The files of a run: their bytes, what they hold, and how they are refused.
use Rattle.std.specs.Prelude.{◌≡◌, ◌⊎◌, ℕ, nat_lt, Bool, true, false, List, [], ◌∷◌, length, Option}
use Rattle.std.specs.Prelude.{Some, None, is_none, Result, Ok, Err, option_map}
use Rattle.agc_store.specs.RopeFile.{rope_fault_of}
use Rattle.agc_store.specs.declared.rope_file.RopeForm.{RopeForm}
use Rattle.agc_store.specs.declared.rope_file.RopeFault.TheVariants as rope
use Rattle.agc_script.specs.Parse.{script_of}
use Rattle.agc_script.specs.declared.event.Event.{Event}
use Rattle.agc_script.specs.declared.fault.ScriptFault.{ScriptFault}
use Rattle.agc_load.specs.Keys.{keys_of}
use Rattle.agc_load.specs.Steps.{IsShortAtLine, Step, requires_resource, asks_by_line, checks, refused_if}
use Rattle.agc_io.specs.declared.input.ReadFault.TheVariants as read
use Rattle.agc_cli.specs.declared.session_options.Options.{Options}
use Rattle.agc_load.specs.declared.fault.LoadFault.{LoadFault}
use Rattle.agc_load.specs.declared.fault.LoadFault.TheVariants as refusal

-- the bytes of the files, and of the key text
pub record Files : Type 0 where
  pub rope : List ℕ
  pub script : List ℕ
  pub keys : List ℕ

-- the key text that a run reads: none without live keys
abbrev pub keys_read : Bool → Option (List ℕ) → Option (List ℕ)
keys_read false known = Some []
keys_read true known = known

-- the files, if their readers' bytes are known
abbrev pub files_of : Option (List ℕ) → Option (List ℕ) → Option (List ℕ) → Option Files
files_of None script keys = None
files_of (Some rope) None keys = None
files_of (Some rope) (Some script) None = None
files_of (Some rope) (Some script) (Some keys) =
    Some (record { rope = rope; script = script; keys = keys })

-- the files that a run reads
abbrev pub given_files : Options → Option (List ℕ) → Option (List ℕ) → Option (List ℕ)
    → Option Files
given_files options rope script keys = files_of rope script (keys_read options.live keys)

-- the events of a script, none if it is faulty
abbrev pub events_in : Result (List Event) ScriptFault → List Event
events_in (Ok events) = events
events_in (Err fault) = []

-- a rope file has at most 1,048,576 bytes
unfoldable pub rope_steps : RopeForm → List ℕ → List Step
rope_steps form file =
    requires_resource (refusal.CannotReadRope read.Failed)
    ∷ requires_resource refusal.Memory
    ∷ checks (refused_if (nat_lt 1048576 (length file)) (refusal.CannotReadRope read.TooMany))
    ∷ checks (option_map refusal.Rope (rope_fault_of form file))
    ∷ requires_resource (refusal.Rope rope.Memory)
    ∷ []

abbrev pub script_refused : Result (List Event) ScriptFault → Option LoadFault
script_refused (Ok events) = None
script_refused (Err fault) = Some (refusal.Script fault)

-- how a script that was read is refused: by its fault, or by running out of memory at a line
abbrev pub IsScriptRefused : List ℕ → LoadFault → Type 0
IsScriptRefused file r = (script_refused (script_of file) ≡ Some r) ⊎ IsShortAtLine file r

-- a script file has at most 16,777,216 bytes
unfoldable pub script_steps : List ℕ → List Step
script_steps file =
    requires_resource (refusal.CannotReadScript read.Failed)
    ∷ requires_resource refusal.Memory
    ∷ checks (refused_if (nat_lt 16777216 (length file)) (refusal.CannotReadScript read.TooMany))
    ∷ asks_by_line file
    ∷ checks (script_refused (script_of file))
    ∷ []

-- a key text has at most 65,536 bytes, and names only keys
unfoldable pub keys_steps : List ℕ → List Step
keys_steps file =
    requires_resource (refusal.CannotReadKeys read.Failed)
    ∷ requires_resource refusal.Memory
    ∷ checks (refused_if (nat_lt 65536 (length file)) (refusal.CannotReadKeys read.TooMany))
    ∷ checks (refused_if (is_none (keys_of file)) refusal.BadKey)
    ∷ []

-- a key text is read if there are live keys
abbrev pub keys_steps_where : Bool → List ℕ → List Step
keys_steps_where false file = []
keys_steps_where true file = keys_steps file
