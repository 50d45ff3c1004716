use Rattle.agc_store.specs.Cells.{with_banks}
use Rattle.agc_store.proofs.Kept.{banks_registers, banks_places}
use Rattle.agc_store.proofs.store.Store.set_banks.Goals as goal

pub invariant_of-self : goal.invariant_of-self
unfolding with_banks
invariant_of-self c =
    rw (c.narrow_word.ensures.word, c.narrow_word-2.ensures.word, c.narrow_word-3.ensures.word, c.selected.ensures.bank)
    (banks_registers _ _ _ c.self.invariant.0 c.requires.erasable c.requires.fixed, banks_places _ _ _ _ c.self.invariant.0.count c.requires.erasable c.requires.fixed c.self.invariant.1.z)
