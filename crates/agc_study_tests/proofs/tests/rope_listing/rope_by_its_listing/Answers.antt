use Rattle.std.proofs.Common.{◌≡◌, ◌∙◌, ap}
use Rattle.agc_store.specs.Cells.{start_memory}
use Rattle.agc_store.specs.Memory.{Memory}
use Rattle.agc_store.specs.RopeFile.{rope_words}
use Rattle.agc_listing.specs.List.{rope_text}
use Rattle.agc_study_tests.proofs.tests.rope_listing.rope_by_its_listing.Goals as goal

pub returns : goal.returns
unfolding start_memory
returns c =
    let words = rope_words c.args.source c.args.file.now in
    let stored : c.new-store.result.fixed ≡ words = ap (λ (memory : Memory). memory.fixed) c.new-store.ensures ∙ c.in_ok-read_as.ensures.words in
    let listed = c.as_bytes.ensures.value ∙ c.in_ok-text.ensures ∙ ap (rope_text _) stored in
    let woven = c.in_ok-woven.ensures.listing words (c.files_say_rope_words.ensures c.args.source c.args.file.now) listed in
    c.in_ok-rope.ensures.words ∙ rw c.as_slice.ensures.value woven.same
