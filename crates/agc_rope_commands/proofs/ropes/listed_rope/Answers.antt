use Rattle.std.proofs.Common.{ap}
use Rattle.agc_store.specs.Cells.{start_memory}
use Rattle.agc_store.specs.Memory.{Memory}
use Rattle.agc_study_args.proofs.RopeReads.{known_memory}
use Rattle.agc_rope_commands.proofs.ListTexts.{list_text}
use Rattle.agc_rope_commands.proofs.ropes.listed_rope.Goals as goal

pub returns-in-Ok-clause-text : goal.returns-in-Ok-clause-text
unfolding start_memory
returns-in-Ok-clause-text g c =
    let args = c.args.args.now in
    list_text args c.args.form.now args.style c.in_ok-bank.bank _ c.in_ok-read.read.rope c.new-store.result.fixed c.in-Ok.text.items
    c.in_ok-bank.ensures.ok (c.files_say_rope_words.ensures args.form) (ap (λ (memory : Memory). memory.fixed) c.new-store.ensures)
    c.in_ok-read.ensures.words c.in_ok-read.ensures.sound c.in-Ok.ensures

pub returns-in-Err-clause-refused : goal.returns-in-Err-clause-refused
returns-in-Err-clause-refused g c = (c.in_ok-bank.ensures.named, known_memory c.args.args.now.ignores_parity c.args.args.now.form _)
