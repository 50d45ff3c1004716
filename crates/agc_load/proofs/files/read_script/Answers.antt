use Rattle.std.proofs.Common.{◌≡◌, ◌≤◌, length, arith}
use Rattle.std.proofs.lemmas.Result.{IfOk-weaker, IfErr-weaker}
use Rattle.agc_script.specs.Parse.{script_of}
use Rattle.agc_load.specs.Files.{events_in}
use Rattle.agc_load.proofs.Denied.{script_known_accepted, script_known_memory, script_known_reported, script_known_unread}
use Rattle.agc_io.proofs.Whole.{of_all}
use Rattle.agc_load.proofs.files.read_script.Goals as goal

pub returns-clause-events : goal.returns-clause-events
returns-clause-events g c =
    let events = rw c.as_slice.ensures.value at c.script_of.ensures.events in
    IfOk-weaker c.script_of.result _ _
    (λ script e. of_all _ _ c.in-Ok.bytes.items (λ file. script ≡ events_in (script_of file)) c.in-Ok.ensures.bytes c.in-Ok.ensures.end e) events

pub returns-clause-accepted : goal.returns-clause-accepted
returns-clause-accepted g c =
    let accepted = rw c.as_slice.ensures.value at c.script_of.ensures.accepted in
    let few : length c.in-Ok.bytes.items ≤ 16777216 = omega (arith, c.in-Ok.bytes.ok.0, c.in-Ok.ensures.bound) in
    IfOk-weaker c.script_of.result _ _
    (λ _ e. script_known_accepted _ _ c.in-Ok.bytes.items c.in-Ok.ensures.bytes c.in-Ok.ensures.end few e) accepted

pub returns-clause-refused : goal.returns-clause-refused
returns-clause-refused g c =
    let refused = rw c.as_slice.ensures.value at c.script_of.ensures.refused in
    let few : length c.in-Ok.bytes.items ≤ 16777216 = omega (arith, c.in-Ok.bytes.ok.0, c.in-Ok.ensures.bound) in
    IfErr-weaker c.script_of.result _ _
    (λ r e. script_known_reported _ _ c.in-Ok.bytes.items r c.in-Ok.ensures.bytes c.in-Ok.ensures.end few e) refused

pub returns-in-Err-CannotRead-clause-refused : goal.returns-in-Err-CannotRead-clause-refused
returns-in-Err-CannotRead-clause-refused g c =
    let unread = rw c.in-Err-CannotRead.field-0-is at c.in-Err-CannotRead.ensures.unread in
    rw c.in-Err-CannotRead.field-0-is (script_known_unread _ c.in-Err-CannotRead.fault unread)

pub returns-in-Err-Memory-clause-refused : goal.returns-in-Err-Memory-clause-refused
returns-in-Err-Memory-clause-refused g c = script_known_memory _
