-- The finished recording of a part.
use Rattle.std.proofs.Common.{◌≡◌, List, ℕ}
use Rattle.std.specs.Prelude.{IfOk, Result, Ok, Err, Option, Some, string_bytes}
use Rattle.std.specs.declared.alloc.Global.{Global}
use Rattle.std.specs.declared.string.String.{String}
use Rattle.agc_timeline.specs.Watched.{HasLines}

-- a property of the value of an Ok implies a weaker one
pub if_ok : {X Y : Type 0} {A B : X → Type 0} (r : Result X Y) → ((x : X) → A x → B x) → IfOk r A → IfOk r B
if_ok (Ok x) f h = f x h
if_ok (Err y) f h = tt

-- a recording with tables has its lines
pub has_lines : (tables : Option (String Global)) (reported : String Global) (lines : List ℕ) → tables ≡ Some reported → string_bytes reported ≡ lines
    → HasLines tables lines
has_lines tables reported lines same reported_so = rw same reported_so
