use Rattle.std.proofs.Common.{◌≡◌, ◌≤◌, length, arith}
use Rattle.std.specs.Prelude.{Some}
use Rattle.std.proofs.lemmas.Result.{IfOk-weaker, IfErr-weaker}
use Rattle.agc_load.specs.Keys.{keys_of}
use Rattle.agc_load.proofs.Denied.{keys_known_accepted, keys_known_memory, keys_known_reported, keys_known_unread}
use Rattle.agc_io.proofs.Whole.{of_all}
use Rattle.agc_load.proofs.files.read_keys.Goals as goal

pub returns-clause-keys : goal.returns-clause-keys
returns-clause-keys g c =
    let keys = rw c.as_slice.ensures.value at c.keys_named.ensures.keys in
    IfOk-weaker c.keys_named.result _ _
    (λ keys e. of_all _ _ c.in-Ok.bytes.items (λ file. keys_of file ≡ Some keys.items) c.in-Ok.ensures.bytes c.in-Ok.ensures.end e) keys

pub returns-clause-accepted : goal.returns-clause-accepted
returns-clause-accepted g c =
    let keys = rw c.as_slice.ensures.value at c.keys_named.ensures.keys in
    let few : length c.in-Ok.bytes.items ≤ 65536 = omega (arith, c.in-Ok.bytes.ok.0, c.in-Ok.ensures.bound) in
    IfOk-weaker c.keys_named.result _ _
    (λ keys e. keys_known_accepted _ _ c.in-Ok.bytes.items keys.items c.in-Ok.ensures.bytes c.in-Ok.ensures.end few e) keys

pub returns-clause-refused : goal.returns-clause-refused
returns-clause-refused g c =
    let refused = rw c.as_slice.ensures.value at c.keys_named.ensures.refused in
    let few : length c.in-Ok.bytes.items ≤ 65536 = omega (arith, c.in-Ok.bytes.ok.0, c.in-Ok.ensures.bound) in
    IfErr-weaker c.keys_named.result _ _
    (λ r e. keys_known_reported _ _ c.in-Ok.bytes.items r c.in-Ok.ensures.bytes c.in-Ok.ensures.end few e) refused

pub returns-in-Err-CannotRead-clause-refused : goal.returns-in-Err-CannotRead-clause-refused
returns-in-Err-CannotRead-clause-refused g c =
    let unread = rw c.in-Err-CannotRead.field-0-is at c.in-Err-CannotRead.ensures.unread in
    rw c.in-Err-CannotRead.field-0-is (keys_known_unread _ c.in-Err-CannotRead.fault unread)

pub returns-in-Err-Memory-clause-refused : goal.returns-in-Err-Memory-clause-refused
returns-in-Err-Memory-clause-refused g c = keys_known_memory _
