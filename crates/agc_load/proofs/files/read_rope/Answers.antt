use Rattle.std.proofs.Common.{◌≡◌, ◌≤◌, length, arith}
use Rattle.std.proofs.lemmas.Result.{IfOk-weaker, IfErr-weaker}
use Rattle.std.specs.Prelude.{None}
use Rattle.agc_store.specs.RopeFile.{rope_fault_of, rope_words}
use Rattle.agc_load.proofs.Denied.{rope_known_accepted, rope_known_faulty, rope_known_memory, rope_known_unread}
use Rattle.agc_io.proofs.Whole.{of_all}
use Rattle.agc_load.proofs.files.read_rope.Goals as goal

pub returns-clause-words : goal.returns-clause-words
returns-clause-words g c =
    let words = rw c.as_slice.ensures.value at c.rope_of.ensures.words in
    IfOk-weaker c.rope_of.result _ _
    (λ rope e. of_all _ _ c.in-Ok.bytes.items (λ file. rope ≡ rope_words c.args.form file) c.in-Ok.ensures.bytes c.in-Ok.ensures.end e) words

pub returns-clause-accepted : goal.returns-clause-accepted
returns-clause-accepted g c =
    let accepted = rw c.as_slice.ensures.value at c.rope_of.ensures.accepted in
    let few : length c.in-Ok.bytes.items ≤ 1048576 = omega (arith, c.in-Ok.bytes.ok.0, c.in-Ok.ensures.bound) in
    IfOk-weaker c.rope_of.result _ _
    (λ _ e. rope_known_accepted c.args.form _ _ c.in-Ok.bytes.items c.in-Ok.ensures.bytes c.in-Ok.ensures.end few e) accepted

pub returns-clause-sound : goal.returns-clause-sound
returns-clause-sound g c =
    let sound = rw c.as_slice.ensures.value at c.rope_of.ensures.accepted in
    IfOk-weaker c.rope_of.result _ _
    (λ _ e. of_all _ _ c.in-Ok.bytes.items (λ file. rope_fault_of c.args.form file ≡ None) c.in-Ok.ensures.bytes c.in-Ok.ensures.end e) sound

pub returns-clause-refused : goal.returns-clause-refused
returns-clause-refused g c =
    let refused = rw c.as_slice.ensures.value at c.rope_of.ensures.refused in
    let few : length c.in-Ok.bytes.items ≤ 1048576 = omega (arith, c.in-Ok.bytes.ok.0, c.in-Ok.ensures.bound) in
    IfErr-weaker c.rope_of.result _ _
    (λ r e. rope_known_faulty c.args.form _ _ c.in-Ok.bytes.items r c.in-Ok.ensures.bytes c.in-Ok.ensures.end few e) refused

pub returns-in-Err-CannotRead-clause-refused : goal.returns-in-Err-CannotRead-clause-refused
returns-in-Err-CannotRead-clause-refused g c =
    let unread = rw c.in-Err-CannotRead.field-0-is at c.in-Err-CannotRead.ensures.unread in
    rw c.in-Err-CannotRead.field-0-is (rope_known_unread c.args.form _ c.in-Err-CannotRead.fault unread)

pub returns-in-Err-Memory-clause-refused : goal.returns-in-Err-Memory-clause-refused
returns-in-Err-Memory-clause-refused g c = rope_known_memory c.args.form _
