use Rattle.std.proofs.Common.{◌≡◌, ◌≤◌, length, arith}
use Rattle.std.proofs.lemmas.Result.{IfOk-weaker, IfErr-weaker}
use Rattle.std.specs.Prelude.{None}
use Rattle.agc_store.specs.RopeFile.{rope_words}
use Rattle.agc_io.proofs.Whole.{of_all}
use Rattle.agc_study_args.specs.RopeRead.{rope_refusal, wrong_words}
use Rattle.agc_study_args.proofs.RopeReads.{known_accepted, known_faulty, known_memory, known_unread}
use Rattle.agc_study_args.proofs.rope_read.read_any_rope.Goals as goal

pub returns-clause-words : goal.returns-clause-words
returns-clause-words g c =
    let words = rw c.as_slice.ensures.value at c.rope_of_file.ensures.words in
    IfOk-weaker c.rope_of_file.result _ _
    (λ read e. of_all _ _ c.in-Ok.file.items (λ file. read.rope ≡ rope_words c.args.form file) c.in-Ok.ensures.bytes c.in-Ok.ensures.end e) words

pub returns-clause-wrong : goal.returns-clause-wrong
returns-clause-wrong g c =
    let wrong = rw c.as_slice.ensures.value at c.rope_of_file.ensures.wrong in
    IfOk-weaker c.rope_of_file.result _ _
    (λ read e. of_all _ _ c.in-Ok.file.items (λ file. read.wrong.items ≡ wrong_words c.args.ignores_parity c.args.form file) c.in-Ok.ensures.bytes c.in-Ok.ensures.end e) wrong

pub returns-clause-accepted : goal.returns-clause-accepted
returns-clause-accepted g c =
    let sound = rw c.as_slice.ensures.value at c.rope_of_file.ensures.sound in
    let few : length c.in-Ok.file.items ≤ 1048576 = omega (arith, c.in-Ok.file.ok.0, c.in-Ok.ensures.bound) in
    IfOk-weaker c.rope_of_file.result _ _
    (λ _ e. known_accepted c.args.ignores_parity c.args.form _ _ c.in-Ok.file.items c.in-Ok.ensures.bytes c.in-Ok.ensures.end few e) sound

pub returns-clause-sound : goal.returns-clause-sound
returns-clause-sound g c =
    let sound = rw c.as_slice.ensures.value at c.rope_of_file.ensures.sound in
    IfOk-weaker c.rope_of_file.result _ _
    (λ _ e. of_all _ _ c.in-Ok.file.items (λ file. rope_refusal c.args.ignores_parity c.args.form file ≡ None) c.in-Ok.ensures.bytes c.in-Ok.ensures.end e) sound

pub returns-clause-refused : goal.returns-clause-refused
returns-clause-refused g c =
    let refused = rw c.as_slice.ensures.value at c.rope_of_file.ensures.refused in
    let few : length c.in-Ok.file.items ≤ 1048576 = omega (arith, c.in-Ok.file.ok.0, c.in-Ok.ensures.bound) in
    IfErr-weaker c.rope_of_file.result _ _
    (λ r e. known_faulty c.args.ignores_parity c.args.form _ _ c.in-Ok.file.items r c.in-Ok.ensures.bytes c.in-Ok.ensures.end few e) refused

pub returns-in-Err-CannotRead-clause-refused : goal.returns-in-Err-CannotRead-clause-refused
returns-in-Err-CannotRead-clause-refused g c =
    let unread = rw c.in-Err-CannotRead.field-0-is at c.in-Err-CannotRead.ensures.unread in
    rw c.in-Err-CannotRead.field-0-is (known_unread c.args.ignores_parity c.args.form _ c.in-Err-CannotRead.fault unread)

pub returns-in-Err-Memory-clause-refused : goal.returns-in-Err-Memory-clause-refused
returns-in-Err-Memory-clause-refused g c = known_memory c.args.ignores_parity c.args.form _
